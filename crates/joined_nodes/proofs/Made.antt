-- Nodes are made.
use Rattle.std.proofs.Common.{◌≡◌, ◌≢◌, ◌<◌, ◌≤◌, ◌+◌, ◌*◌, ◌^◌, ◌⊎◌, inl, inr, arith, ℕ, zero, suc, List, [], ◌∷◌, ◌++◌, Some, length, get_or, replicate, All, AllPairs, refl, sym, ap, subst, ◌∙◌}
use Rattle.std.specs.Prelude.{slice_get, option_map}
use Rattle.std.proofs.lemmas.List.{length-append}
use Rattle.std.proofs.lemmas.Option.{same_Some, none-some, slice_get-get_or, slice_get-map, slice_get_within}
use Rattle.annex_base.proofs.Lists.{Each-get_or, slice_get-within}
use Rattle.run_data.specs.declared.run.RepoView.{RepoView}
use Rattle.node_past.specs.declared.setup.Setup.{Setup}
use Rattle.link_ring.specs.Ends.{fresh}
use Rattle.node_ends.specs.Joined.{AreJoined}
use Rattle.repo_node.specs.Nodes.{NodeView}
use Rattle.run_data.specs.Repos.{IsSetUp}
use Rattle.joined_nodes.specs.Making.{AddsNew, AreNewSoFar}
use Rattle.joined_nodes.specs.Joined.{AreNew, AreNodes, IsNew, MayRun, ids_of, setup_of}

-- ---- how one is set up

ids_count : (repos : List RepoView) → length (ids_of repos) ≡ length repos
ids_count [] = refl
ids_count (x ∷ xs) = ap suc (ids_count xs)

-- a node may be made of this set-up
pub record Suits (most : ℕ) (setup : Setup) : Type 0 where
  pub own : slice_get setup.repos setup.number ≡ Some setup.id
  pub apart : AllPairs (λ a b. a ≢ b) setup.repos
  pub offset : setup.offset ≤ 100000000000
  pub oldest : 1 ≤ setup.version
  pub newest : setup.version ≤ 3
  pub few : length setup.repos < 2 ^ 32
  pub count : length setup.repos ≡ most

pub suits : (repos : List RepoView) (i : ℕ) (setup : Setup) → MayRun repos → i < length repos → ((repo : RepoView) → slice_get repos i ≡ Some repo → setup ≡ setup_of (ids_of repos) i repo) → Suits (length repos) setup
suits repos i setup may low is =
    let found = slice_get-within repos i low in
    let repo = found.0 in
    let fits : IsSetUp repo = subst IsSetUp (same_Some (get_or repos i repo) repo (sym (slice_get-get_or repos i repo low) ∙ found.1)) (Each-get_or IsSetUp repos i repo low may.each) in
    subst (Suits (length repos)) (sym (is repo found.1)) (record {
      own = slice_get-map (λ (r : RepoView). r.id) repos i ∙ ap (option_map (λ (r : RepoView). r.id)) found.1;
      apart = may.apart;
      offset = fits.offset;
      oldest = fits.oldest;
      newest = fits.newest;
      few = let few : length repos < 2 ^ 32 = may.few in rw (ids_count repos) few;
      count = ids_count repos;
    })

-- ---- one more

-- what stands at a place of a list with one more
last_or : {X : Type 0} (xs : List X) (x y : X) (i : ℕ) → slice_get (xs ++ x ∷ []) i ≡ Some y → ((i ≡ length xs) × (x ≡ y)) ⊎ ((i < length xs) × (slice_get xs i ≡ Some y))
last_or [] x y zero at = inl (refl, same_Some x y at)
last_or [] x y (suc i) at = absurd (none-some y at)
last_or (z ∷ xs) x y zero at = inr (omega arith, at)
last_or (z ∷ xs) x y (suc i) at = elim (last_or xs x y i at) [
  | inl h ↦ inl (ap suc h.0, h.1)
  | inr h ↦ inr (omega (arith, h.0), h.1)
]

pub one_new : {K : Type 0} (repos : List RepoView) (keepers : List K) (keeper : K) (was now : List (NodeView K)) → AreNewSoFar repos keepers was → AddsNew repos keeper was now → AreNewSoFar repos (keepers ++ keeper ∷ []) now
one_new {K} repos keepers keeper was now so adds = record {
  count = ap length adds.adds ∙ (length-append was (adds.node ∷ []) ∙ (ap (λ n. n + 1) so.count ∙ sym (length-append keepers (keeper ∷ []))));
  each = λ i repo k n at_repo at_k at_n. elim (last_or was adds.node n i (ap (λ ns. slice_get ns i) (sym adds.adds) ∙ at_n)) [
    | inl h ↦ elim (last_or keepers keeper k i at_k) [
      | inl h' ↦
          let new = adds.new repo (ap (slice_get repos) (sym h.0) ∙ at_repo) in
          subst (λ m. IsNew (setup_of (ids_of repos) i repo) k m) h.1
          (subst (λ m. IsNew (setup_of (ids_of repos) i repo) m adds.node) h'.1 (subst (λ j. IsNew (setup_of (ids_of repos) j repo) keeper adds.node) (sym h.0) new))
      | inr h' ↦ absurd (omega (arith, h.0, h'.0, so.count))
    ]
    | inr h ↦ elim (last_or keepers keeper k i at_k) [
      | inl h' ↦ absurd (omega (arith, h.0, h'.0, so.count))
      | inr h' ↦ so.each i repo k n at_repo h'.1 h.1
    ]
  ];
}

-- ---- one of the stores

at_middle : {X : Type 0} (xs : List X) (x : X) (ys : List X) (d : X) → get_or (xs ++ x ∷ ys) (length xs) d ≡ x
at_middle [] x ys d = refl
at_middle (z ∷ xs) x ys d = at_middle xs x ys d

-- what holds of all holds of one in the middle
pub of_middle : {X : Type 0} (P : X → Type 0) (all xs ys : List X) (x : X) → All P all → xs ++ x ∷ ys ≡ all → P x
of_middle P all xs ys x each is =
    let count : length xs + length (x ∷ ys) ≡ length all = sym (length-append xs (x ∷ ys)) ∙ ap length is in
    subst P (ap (λ zs. get_or zs (length xs) x) (sym is) ∙ at_middle xs x ys x) (each (length xs) x (omega (arith, count)))

-- ---- all

pub all_new : {K : Type 0} (repos : List RepoView) (keepers : List K) (nodes : List (NodeView K)) → length keepers ≡ length repos → AreNewSoFar repos keepers nodes → AreNew repos keepers nodes
all_new repos keepers nodes same so = record { count = so.count ∙ same; each = so.each }

abbrev pub Fresh : Type 0
Fresh = (count a b : ℕ) → a < count → b < count → AreJoined a b (replicate (count * 8) fresh) (replicate (count * 8) fresh)

pub new_nodes : Fresh → {K : Type 0} (repos : List RepoView) (keepers : List K) (nodes : List (NodeView K)) → length keepers ≡ length repos → AreNew repos keepers nodes → AreNodes nodes
new_nodes law {K} repos keepers nodes same new = record {
  numbers = λ i n at. ap (λ m. m.setup.number) (is_new i n at).node;
  counts = λ i n at. ap (λ m. length m.setup.repos) (is_new i n at).node ∙ (ids_count repos ∙ sym new.count);
  joined = λ i j a b apart at_a at_b.
      rw ((is_new i a at_a).links, (is_new j b at_b).links) (law (length (ids_of repos)) i j (within i a at_a) (within j b at_b));
} where
  in_repos : (i : ℕ) (n : NodeView K) → slice_get nodes i ≡ Some n → i < length repos
  in_repos i n at = let low : i < length nodes = slice_get_within nodes i n at in omega (arith, low, new.count)

  repo_at : (i : ℕ) → i < length repos → (repo : RepoView) × (slice_get repos i ≡ Some repo)
  repo_at i low = slice_get-within repos i low

  keeper_at : (i : ℕ) → i < length keepers → (keeper : K) × (slice_get keepers i ≡ Some keeper)
  keeper_at i low = slice_get-within keepers i low

  is_new : (i : ℕ) (n : NodeView K) (at : slice_get nodes i ≡ Some n) → IsNew (setup_of (ids_of repos) i (repo_at i (in_repos i n at)).0) (keeper_at i (omega (arith, in_repos i n at, same))).0 n
  is_new i n at =
      let repo = repo_at i (in_repos i n at) in
      let keeper = keeper_at i (omega (arith, in_repos i n at, same)) in
      new.each i repo.0 keeper.0 n repo.1 keeper.1 at

  within : (i : ℕ) (n : NodeView K) → slice_get nodes i ≡ Some n → i < length (ids_of repos)
  within i n at = let count : length (ids_of repos) ≡ length repos = ids_count repos in omega (arith, in_repos i n at, count)
