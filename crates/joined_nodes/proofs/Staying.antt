-- One of the nodes is set: what holds there, and that they stay joined.
use Rattle.std.proofs.Common.{◌≡◌, ◌≢◌, ◌<◌, inl, inr, ℕ, List, Some, length, get_or, slice_set, sym, ap, subst, ◌∙◌}
use Rattle.std.specs.Prelude.{slice_get}
use Rattle.std.proofs.lemmas.Option.{same_Some, slice_get_read}
use Rattle.link_ring.specs.Ends.{EndView}
use Rattle.node_ends.specs.Joined.{AreJoined, StayPaired}
use Rattle.repo_node.specs.Nodes.{NodeView}
use Rattle.joined_nodes.specs.Joined.{AreNodes, AtNode}
use Rattle.joined_nodes.proofs.Setting.{set_at, set_count, set_other, set_same}

-- the node at a place that was read
pub read_at : {K : Type 0} (whole nodes : List (NodeView K)) (repo : ℕ) (was : NodeView K) → nodes ≡ whole → repo < length whole → was ≡ get_or nodes repo was → slice_get nodes repo ≡ Some was
read_at whole nodes repo was is there read = slice_get_read nodes (length whole) repo was (sym (ap length is)) there read

-- the same, of the nodes as they are seen
pub whole_at : {K : Type 0} (whole nodes : List (NodeView K)) (repo : ℕ) (was : NodeView K) → nodes ≡ whole → repo < length whole → was ≡ get_or nodes repo was → slice_get whole repo ≡ Some was
whole_at whole nodes repo was is there read = ap (λ xs. slice_get xs repo) (sym is) ∙ read_at whole nodes repo was is there read

-- what holds of a node before and after a call holds at its number
pub at_node : {K : Type 0} (whole nodes : List (NodeView K)) (repo : ℕ) (was now : NodeView K) → nodes ≡ whole → repo < length whole → was ≡ get_or nodes repo was
    → (Holds : NodeView K → NodeView K → Type 0) → Holds was now → AtNode repo whole (slice_set nodes repo now) Holds
at_node whole nodes repo was now is there read Holds holds n m at_n at_m =
    let at : slice_get nodes repo ≡ Some was = read_at whole nodes repo was is there read in
    let first : was ≡ n = same_Some was n (sym at ∙ (ap (λ xs. slice_get xs repo) is ∙ at_n)) in
    let second : now ≡ m = same_Some now m (sym (set_same nodes repo was now at) ∙ at_m) in
    subst (λ x. Holds x m) first (subst (λ y. Holds was y) second holds)

-- each other one is as it was
pub others_stay : {K : Type 0} (whole nodes : List (NodeView K)) (repo : ℕ) (now : NodeView K) → nodes ≡ whole → (i : ℕ) → i ≢ repo → slice_get (slice_set nodes repo now) i ≡ slice_get whole i
others_stay whole nodes repo now is i other = set_other nodes repo i now other ∙ ap (λ xs. slice_get xs i) is

-- the laws of ends that are joined
pub record Laws : Type 0 where
  pub other : (a b : ℕ) (xs ys : List EndView) → AreJoined a b xs ys → AreJoined b a ys xs
  pub call : (a b : ℕ) (xs now ys : List EndView) → StayPaired xs now → AreJoined a b xs ys → AreJoined a b now ys

pub stay_joined : Laws → (K : Type 0) (nodes : List (NodeView K)) (repo : ℕ) (was now : NodeView K) → AreNodes nodes → slice_get nodes repo ≡ Some was → now.setup ≡ was.setup → StayPaired was.parts.links now.parts.links → AreNodes (slice_set nodes repo now)
stay_joined laws K nodes repo was now all at same stays = record {
  numbers = λ i n here. elim (set_at nodes repo i n now here) [
    | inl h ↦ rw h.1 (ap (λ s. s.number) same ∙ (all.numbers repo was at ∙ sym h.0))
    | inr h ↦ all.numbers i n h.1
  ];
  counts = λ i n here. elim (set_at nodes repo i n now here) [
    | inl h ↦ rw h.1 (ap (λ s. length s.repos) same ∙ (all.counts repo was at ∙ sym (set_count nodes repo now)))
    | inr h ↦ all.counts i n h.1 ∙ sym (set_count nodes repo now)
  ];
  joined = λ i j a b apart at_a at_b. elim (set_at nodes repo i a now at_a) [
    | inl h ↦ elim (set_at nodes repo j b now at_b) [
      | inl k ↦ absurd (apart (h.0 ∙ sym k.0))
      | inr k ↦ moved i j a b h.0 h.1 k.0 k.1
    ]
    | inr h ↦ elim (set_at nodes repo j b now at_b) [
      | inl k ↦ laws.other j i b.parts.links a.parts.links (moved j i b a k.0 k.1 h.0 h.1)
      | inr k ↦ all.joined i j a b apart h.1 k.1
    ]
  ];
} where
  moved : (i j : ℕ) (a b : NodeView K) → i ≡ repo → a ≡ now → j ≢ repo → slice_get nodes j ≡ Some b → AreJoined i j a.parts.links b.parts.links
  moved i j a b is_repo is_now other there =
      rw is_now (rw is_repo (laws.call repo j was.parts.links now.parts.links b.parts.links stays (all.joined repo j was b (λ e. other (sym e)) at there)))
