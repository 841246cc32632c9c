-- A fleet of new nodes has come to where the driver is at first.
use Rattle.std.proofs.Common.{◌≡◌, ℕ, zero, suc, ◌*◌, ◌<◌, ◌≤◌, ◌^◌, Bool, true, false, List, [], ◌∷◌, Option, Some, None, length, refl, sym, ap, ◌∙◌, subst, arith}
use Rattle.std.specs.Prelude.{if◌then◌else◌, nat_lt, replicate, slice_get}
use Rattle.std.proofs.lemmas.List.{length-map}
use Rattle.std.proofs.lemmas.Option.{same_Some, slice_get_within}
use Rattle.annex_base.specs.Lists.{Each}
use Rattle.annex_base.specs.declared.kinds.Word.{Word}
use Rattle.annex_base.proofs.Lists.{slice_get-within}
use Rattle.link_ring.specs.Ends.{EndView, fresh}
use Rattle.node_model.specs.Ends.{EndName}
use Rattle.node_model.specs.SetUp.{locks_in, version_in}
use Rattle.node_ends.specs.Ends.{link_at}
use Rattle.link_ring.specs.Places.{end_place}
use Rattle.joined_nodes.specs.Running.{Jobs, given_of, words_at}
use Rattle.run_data.specs.Repos.{offset_of}
use Rattle.run_data.specs.declared.run.RepoView.{RepoView}
use Rattle.link_flights.specs.Fleets.{AreEndsIn}
use Rattle.link_flights.specs.Heard.{HeardSo}
use Rattle.link_flights.specs.Words.{AreAllWorded}
use Rattle.driver_model.specs.Driver.{DriverInput, at_first, set_up_of}
use Rattle.driver_model.specs.Driving.{run_with}
use Rattle.driver_model.specs.Sound.{IsSound}
use Rattle.joined_nodes.specs.Nodes as nodes
use Rattle.joined_nodes.specs.Nodes.{NodeView}
use Rattle.joined_nodes.specs.Stored.{StoreView}
use Rattle.joined_nodes.specs.Joined.{AreNew, IsNew, ids_of, setup_of}
use Rattle.fleet_model.specs.Fleets.{FleetView, HasCome, HasGiven, IsNodeOf, links_at}
use Rattle.fleet_model.specs.Stores.{IsStoreOf}
use Rattle.fleet_model.proofs.Coming.{ends_in}

-- the laws of what is at first
pub record FirstLaws : Type 0 where
  pub ends : (count : ℕ) → AreEndsIn at_first.flights count (λ q. replicate (count * 8) fresh)
  pub words : (count : ℕ) → AreAllWorded [] count (λ q. replicate (count * 8) fresh)
  pub heard : (r : ℕ) (words : ℕ → ℕ → Option Word) → HeardSo [] r words

-- ---- a node's set-up

same_offset : (repos : List RepoView) (r : ℕ) (repo : RepoView) → slice_get repos r ≡ Some repo → offset_of repos r ≡ repo.offset
same_offset [] r repo at = absurd (cc)
same_offset (x ∷ repos) zero repo at = ap (λ (x : RepoView). x.offset) (same_Some x repo at)
same_offset (x ∷ repos) (suc r) repo at = same_offset repos r repo at

fits_there : (g : DriverInput) (r : ℕ) (repo : RepoView) → slice_get g.repos r ≡ Some repo → nodes.MatchesSetup (setup_of (ids_of g.repos) r repo) (set_up_of g at_first r)
fits_there g r repo at = record {
  number = refl;
  ids = refl;
  offset = same_offset g.repos r repo at;
  version = ap version_in at;
  locks = ap locks_in at;
}

new_node : {K : Type 0} → FirstLaws → (tells : K → StoreView) (g : DriverInput) (r : ℕ) (repo : RepoView) (keeper : K) (n : NodeView K) → slice_get g.repos r ≡ Some repo → IsStoreOf at_first r (tells keeper)
    → IsNew (setup_of (ids_of g.repos) r repo) keeper n → IsNodeOf tells g at_first r n
new_node {K} laws tells g r repo keeper n at store new =
    subst (λ (x : NodeView K). IsNodeOf tells g at_first r x) (sym new.node)
    (record {
      setup = fits_there g r repo at;
      history = refl;
      branch = refl;
      store = store;
      time = none_less;
      count = none_less;
      heard = laws.heard r (words_at n.parts.jobs.running);
      paths = subst (λ (js : Jobs). Each (λ j. HasGiven at_first r (given_of j)) js.running) (sym new.jobs) tt;
    })
  where
    none_less : 0 ≤ 0
    none_less = grind arith

-- ---- ends

end_fresh : (n i : ℕ) (v : EndView) → slice_get (replicate n fresh) i ≡ Some v → v ≡ fresh
end_fresh zero i v at = absurd (cc)
end_fresh (suc n) zero v at = cc
end_fresh (suc n) (suc i) v at = end_fresh n i v at

link_fresh : (count : ℕ) (a : EndName) (v : EndView) → link_at (replicate count fresh) a ≡ Some v → v ≡ fresh
link_fresh count a v at = go (nat_lt a.slot 4) at
  where
    go : (b : Bool) → (if b then slice_get (replicate count fresh) (end_place a.peer a.slot a.client) else None) ≡ Some v → v ≡ fresh
    go true at = end_fresh count (end_place a.peer a.slot a.client) v at
    go false at = absurd (cc)

-- ---- the fleet

pub first_comes : {K : Type 0} → FirstLaws → (tells : K → StoreView) (g : DriverInput) (keepers : List K) (f : FleetView K)
    → AreNew g.repos keepers f.nodes → length keepers ≡ length g.repos → ((r : ℕ) (keeper : K) → slice_get keepers r ≡ Some keeper → IsStoreOf at_first r (tells keeper))
    → f.run ≡ run_with g at_first → IsSound g at_first → HasCome tells g at_first f
first_comes {K} laws tells g keepers f new many stores run sound = record {
  run = run;
  sound = sound;
  fits = (tt, none);
  count = new.count;
  each = λ r n at. node r n at (known r n at);
  ends = λ q a v q_in a_in apart at. laws.ends (length g.repos) q a v q_in a_in apart (at_fresh q a v q_in at);
  words = λ q a v q_in a_in apart client at. laws.words (length g.repos) q a v q_in a_in apart client (at_fresh q a v q_in at);
  selves = λ q a v at_self at. unused q a v (slice_get f.nodes q) refl at;
} where
  none : 0 < 2 ^ 62
  none = grind arith

  known : (r : ℕ) (n : NodeView K) → slice_get f.nodes r ≡ Some n → r < length g.repos
  known r n at = subst (λ (c : ℕ). r < c) new.count (slice_get_within f.nodes r n at)

  node : (r : ℕ) (n : NodeView K) → slice_get f.nodes r ≡ Some n → r < length g.repos → IsNodeOf tells g at_first r n
  node r n at within =
      let repo = slice_get-within g.repos r within in
      let keeper = slice_get-within keepers r (subst (λ (c : ℕ). r < c) (sym many) within) in
      new_node laws tells g r repo.0 keeper.0 n repo.1 (stores r keeper.0 keeper.1) (new.each r repo.0 keeper.0 n repo.1 keeper.1 at)

  links_fresh : (r : ℕ) (n : NodeView K) → slice_get f.nodes r ≡ Some n → r < length g.repos → n.parts.links ≡ replicate (length g.repos * 8) fresh
  links_fresh r n at within =
      let repo = slice_get-within g.repos r within in
      let keeper = slice_get-within keepers r (subst (λ (c : ℕ). r < c) (sym many) within) in
      (new.each r repo.0 keeper.0 n repo.1 keeper.1 at).links ∙ ap (λ (c : ℕ). replicate (c * 8) fresh) (length-map g.repos (λ (x : RepoView). x.id))

  at_fresh : (q : ℕ) (a : EndName) (v : EndView) → q < length g.repos → link_at (links_at f.nodes q) a ≡ Some v → link_at (replicate (length g.repos * 8) fresh) a ≡ Some v
  at_fresh q a v within at =
      let n = slice_get-within f.nodes q (subst (λ (c : ℕ). q < c) (sym new.count) within) in
      ap (λ (links : List EndView). link_at links a) (sym (ap ends_in n.1 ∙ links_fresh q n.0 n.1 within)) ∙ at

  unused : (q : ℕ) (a : EndName) (v : EndView) (o : Option (NodeView K)) → slice_get f.nodes q ≡ o → link_at (links_at f.nodes q) a ≡ Some v → v ≡ fresh
  unused q a v None e at = link_fresh 0 a v (ap (λ (x : Option (NodeView K)). link_at (ends_in x) a) (sym e) ∙ at)
  unused q a v (Some n) e at = link_fresh (length g.repos * 8) a v (at_fresh q a v (known q n e) at)
