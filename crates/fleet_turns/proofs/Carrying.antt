-- A call of a node of a fleet, and the frames that are carried after it.
use Rattle.std.proofs.Common.{◌≡◌, ◌≢◌, ℕ, ◌<◌, Bool, List, [], Option, Some, inl, drop, length, sym, ap, ◌∙◌, subst}
use Rattle.std.specs.Prelude.{not, slice_get}
use Rattle.std.specs.Option.{option_map_or}
use Rattle.std.proofs.lemmas.Option.{slice_get_within}
use Rattle.annex_base.proofs.Lists.{slice_get-within}
use Rattle.link_ring.specs.Ends.{EndView}
use Rattle.run_data.specs.declared.run.Run.{Run}
use Rattle.node_model.specs.Ends.{EndName}
use Rattle.node_ends.specs.Ends.{link_at}
use Rattle.node_ends.specs.Joined.{AreCarried, end_with, link_carried}
use Rattle.fleet_entries.specs.Nodes.{NodeView}
use Rattle.fleet_entries.specs.Stored.{StoreView}
use Rattle.fleet_entries.specs.Joined.{AtNode}
use Rattle.fleet_entries.specs.Joined as joined
use Rattle.fleet_entries.specs.Fleets.{FleetView, links_at}
use Rattle.fleet_entries.specs.Steps.{OneTurns}
use Rattle.fleet_entries.specs.Telling.{Raises, Tells}
use Rattle.fleet_entries.proofs.Called.{with_more}

-- The fleet was raised, a call left the other nodes as they were, then frames were carried between its node and all others; and then it
-- was told.
pub record IsCarriedOn {K : Type 0} (tells : K → StoreView) (r had : ℕ) (was up : FleetView K) (turned carried : List (NodeView K)) (after : FleetView K) : Type 0 where
  pub raises : Raises tells r had was up
  pub others : (q : ℕ) → q ≢ r → slice_get turned q ≡ slice_get up.nodes q
  pub count : length turned ≡ length up.nodes
  pub rest : AtNode r turned carried (λ n m. m ≡ joined.with_links n m.parts.links)
  pub links : AtNode r turned carried (λ n m. joined.AreAllCarried r turned n.parts.links m.parts.links)
  pub others_rest : (q : ℕ) → q ≢ r → AtNode q turned carried (λ n m. m ≡ joined.with_links n m.parts.links)
  pub others_links : (q : ℕ) (node : NodeView K) → q ≢ r → slice_get turned r ≡ Some node → AtNode q turned carried (λ n m. AreCarried q r n.parts.links m.parts.links node.parts.links)
  pub carried_count : length carried ≡ length turned
  pub told : Tells tells r had (record { nodes = carried; run = up.run }) after

abbrev ends_in : {K : Type 0} → Option (NodeView K) → List EndView
ends_in {K} o = option_map_or (λ (n : NodeView K). n.parts.links) o []

pub one_carried : {K : Type 0} (tells : K → StoreView) (r had : ℕ) (was up : FleetView K) (turned carried : List (NodeView K)) (after : FleetView K) (n p m x : NodeView K)
    → IsCarriedOn tells r had was up turned carried after → slice_get was.nodes r ≡ Some n → slice_get up.nodes r ≡ Some p → slice_get turned r ≡ Some m → slice_get carried r ≡ Some x → OneTurns r n m was after
one_carried {K} tells r had was up turned carried after n p m x call at_n at_p at_m at_x = record {
  before = at_n;
  there = λ y at. call.rest m y at_m (then_at r ∙ at);
  others = λ q y other at.
      let less : q < length turned = subst (λ (c : ℕ). q < c) call.carried_count (slice_get_within carried q y (then_at q ∙ at)) in
      let found = slice_get-within turned q less in
      (found.0, was_at q other ∙ found.1, call.others_rest q other found.0 y found.1 (then_at q ∙ at));
  count = ap length call.told.nodes ∙ (call.carried_count ∙ (call.count ∙ call.raises.count));
  carried = record {
    own = λ q slot client known other low. own_carried q slot client known other low (slice_get-within turned q (subst (λ (c : ℕ). q < c) (sym counted) known));
    theirs = λ q slot client known other low. their_carried q slot client other low (slice_get-within turned q (subst (λ (c : ℕ). q < c) (sym counted) known)) (slice_get-within carried q (subst (λ (c : ℕ). q < c) (sym (call.carried_count ∙ counted)) known));
    others = λ q b known other apart. rest_carried q b other apart (slice_get-within turned q (subst (λ (c : ℕ). q < c) (sym counted) known)) (slice_get-within carried q (subst (λ (c : ℕ). q < c) (sym (call.carried_count ∙ counted)) known));
  };
  own = λ a own. ap (λ (links : List EndView). link_at links a) (links_then r x at_x) ∙ (call.links m x at_m at_x).others a (inl own);
  run = call.told.run x at_x
      ∙ (ap (λ (run : Run). with_more run (drop had x.history)) call.raises.run
      ∙ (ap (λ (k : ℕ). with_more was.run (drop k x.history)) (call.raises.entries n p at_n at_p)
      ∙ ap (λ (y : NodeView K). with_more was.run (drop (length n.history) y.history)) (call.rest m x at_m at_x)));
}
  where
    then_at : (q : ℕ) → slice_get carried q ≡ slice_get after.nodes q
    then_at q = ap (λ (ns : List (NodeView K)). slice_get ns q) (sym call.told.nodes)

    was_at : (q : ℕ) → q ≢ r → slice_get was.nodes q ≡ slice_get turned q
    was_at q other = sym (call.others q other ∙ call.raises.others q other)

    counted : length turned ≡ length was.nodes
    counted = call.count ∙ call.raises.count

    links_then : (q : ℕ) (y : NodeView K) → slice_get carried q ≡ Some y → links_at after.nodes q ≡ y.parts.links
    links_then q y at = ap ends_in (sym (then_at q) ∙ at)

    links_were : (q : ℕ) (y : NodeView K) → q ≢ r → slice_get turned q ≡ Some y → links_at was.nodes q ≡ y.parts.links
    links_were q y other at = ap ends_in (was_at q other ∙ at)

    own_carried : (q slot : ℕ) (client : Bool) → q < length was.nodes → q ≢ r → slot < 4 → (y : NodeView K) × (slice_get turned q ≡ Some y)
        → link_at (links_at after.nodes r) (end_with q slot client) ≡ link_carried (link_at m.parts.links (end_with q slot client)) (link_at (links_at was.nodes q) (end_with r slot (not client)))
    own_carried q slot client known other low found =
        ap (λ (links : List EndView). link_at links (end_with q slot client)) (links_then r x at_x)
        ∙ ((call.links m x at_m at_x).carried q found.0 other found.1 slot client low
        ∙ ap (λ (links : List EndView). link_carried (link_at m.parts.links (end_with q slot client)) (link_at links (end_with r slot (not client)))) (sym (links_were q found.0 other found.1)))

    their_carried : (q slot : ℕ) (client : Bool) → q ≢ r → slot < 4 → (y : NodeView K) × (slice_get turned q ≡ Some y) → (z : NodeView K) × (slice_get carried q ≡ Some z)
        → link_at (links_at after.nodes q) (end_with r slot client) ≡ link_carried (link_at (links_at was.nodes q) (end_with r slot client)) (link_at m.parts.links (end_with q slot (not client)))
    their_carried q slot client other low found now_found =
        ap (λ (links : List EndView). link_at links (end_with r slot client)) (links_then q now_found.0 now_found.1)
        ∙ ((call.others_links q m other at_m found.0 now_found.0 found.1 now_found.1).carried slot client low
        ∙ ap (λ (links : List EndView). link_carried (link_at links (end_with r slot client)) (link_at m.parts.links (end_with q slot (not client)))) (sym (links_were q found.0 other found.1)))

    rest_carried : (q : ℕ) (b : EndName) → q ≢ r → b.peer ≢ r → (y : NodeView K) × (slice_get turned q ≡ Some y) → (z : NodeView K) × (slice_get carried q ≡ Some z)
        → link_at (links_at after.nodes q) b ≡ link_at (links_at was.nodes q) b
    rest_carried q b other apart found now_found =
        ap (λ (links : List EndView). link_at links b) (links_then q now_found.0 now_found.1)
        ∙ ((call.others_links q m other at_m found.0 now_found.0 found.1 now_found.1).others b apart
        ∙ ap (λ (links : List EndView). link_at links b) (sym (links_were q found.0 other found.1)))
