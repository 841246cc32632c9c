-- The ends of a repository are those of the other repositories and four slots.
use Rattle.std.proofs.Common.{◌≡◌, ◌≢◌, ◌<◌, inl, inr, ℕ, zero, suc, ◌*◌, Bool, true, false, not, List, [], ◌∷◌, ◌++◌, length, is_some, refl, sym, ap, subst, ◌∙◌, arith, true≢false}
use Rattle.std.specs.Prelude.{◌==◌, nat_lt, slice_get}
use Rattle.std.specs.List.{range_with_len}
use Rattle.std.proofs.lemmas.Bool.{cases_Bool, eqb-true}
use Rattle.std.proofs.lemmas.Bool.Decides.{nat_tests}
use Rattle.annex_base.specs.Lists.{Each, Member}
use Rattle.annex_base.proofs.Conditions.{eqb_refl}
use Rattle.annex_base.proofs.Lists.{Each-append, Each-flat_map, Each-from_members, Each-member, Member-append_left, Member-append_right, Member-filter_from, Member-filter_parts, Member-flat_map}
use Rattle.annex_base.proofs.Numbers.{Member-range, range_below}
use Rattle.link_ring.specs.Ends.{EndView}
use Rattle.link_ring.specs.Places.{end_place}
use Rattle.node_model.specs.AnyTime.{all_ends, ends_with}
use Rattle.node_model.specs.Ends.{EndName}
use Rattle.node_model.specs.SetUp.{SetUp, others}
use Rattle.node_ends.specs.Ends.{IsEndOf, link_at}

-- ---- from its numbers

listed_slot : (peer : ℕ) (client : Bool) (slot : ℕ) → slot < 4 → Member (record { peer = peer; slot = slot; client = client }) (ends_with peer client)
listed_slot peer client zero low = inl refl
listed_slot peer client (suc zero) low = inr (inl refl)
listed_slot peer client (suc (suc zero)) low = inr (inr (inl refl))
listed_slot peer client (suc (suc (suc zero))) low = inr (inr (inr (inl refl)))
listed_slot peer client (suc (suc (suc (suc n)))) low = absurd (omega (arith, low))

listed_end : (a : EndName) → a.slot < 4 → Member a (ends_with a.peer true ++ ends_with a.peer false)
listed_end a low = elim (cases_Bool a.client) [
  | inl is ↦ Member-append_left (ends_with a.peer true) (ends_with a.peer false) a
      (subst (λ (c : Bool). Member (record { peer = a.peer; slot = a.slot; client = c }) (ends_with a.peer true)) (sym is) (listed_slot a.peer true a.slot low))
  | inr is ↦ Member-append_right (ends_with a.peer true) (ends_with a.peer false) a
      (subst (λ (c : Bool). Member (record { peer = a.peer; slot = a.slot; client = c }) (ends_with a.peer false)) (sym is) (listed_slot a.peer false a.slot low))
]

other_is : (s : SetUp) (peer : ℕ) → peer < length s.repos → peer ≢ s.number → Member peer (others s)
other_is s peer known apart = elim (cases_Bool (peer == s.number)) [
  | inl same ↦ absurd (apart (eqb-true peer s.number same))
  | inr differs ↦ Member-filter_from (λ x. not (x == s.number)) (range_with_len 0 (length s.repos)) peer (Member-range 0 (length s.repos) peer (omega arith) (omega (arith, known))) (rw differs refl)
]

pub listed : (s : SetUp) (a : EndName) → IsEndOf s a → Member a (all_ends s)
listed s a is = Member-flat_map (λ peer. ends_with peer true ++ ends_with peer false) (others s) a.peer a (other_is s a.peer is.peer is.other) (listed_end a is.slot)

-- ---- its numbers

known_other : (s : SetUp) (peer : ℕ) → Member peer (others s) → (peer < length s.repos) × (peer ≢ s.number)
known_other s peer member =
    let parts = Member-filter_parts (λ x. not (x == s.number)) (range_with_len 0 (length s.repos)) peer member in (
      Each-member (λ x. x < length s.repos) (range_with_len 0 (length s.repos)) peer (range_below 0 (length s.repos) (length s.repos) (omega arith)) parts.0,
      λ same. true≢false (sym parts.1 ∙ ap (λ (n : ℕ). not (n == s.number)) same ∙ ap not (eqb_refl s.number)),
    )

ends_of_peer : (s : SetUp) (peer : ℕ) (client : Bool) → peer < length s.repos → peer ≢ s.number → Each (IsEndOf s) (ends_with peer client)
ends_of_peer s peer client known apart =
    let low : (n : ℕ) → n < 4 → IsEndOf s (record { peer = peer; slot = n; client = client }) = λ n low. record { peer = known; other = apart; slot = low } in
    (low 0 (omega arith), (low 1 (omega arith), (low 2 (omega arith), (low 3 (omega arith), tt))))

pub numbers : (s : SetUp) (a : EndName) → Member a (all_ends s) → IsEndOf s a
numbers s a member = Each-member (IsEndOf s) (all_ends s) a
    (Each-flat_map (IsEndOf s) (λ peer. ends_with peer true ++ ends_with peer false) (others s)
    (Each-from_members (λ peer. Each (IsEndOf s) (ends_with peer true ++ ends_with peer false)) (others s)
    (λ peer among. let known = known_other s peer among in
    Each-append (IsEndOf s) (ends_with peer true) (ends_with peer false) (ends_of_peer s peer true known.0 known.1) (ends_of_peer s peer false known.0 known.1))))
    member

-- ---- it is there

some_within : (xs : List EndView) (i : ℕ) → i < length xs → is_some (slice_get xs i) ≡ true
some_within [] i within = absurd (omega (arith, within))
some_within (x ∷ xs) zero within = refl
some_within (x ∷ xs) (suc i) within = some_within xs i (omega (arith, within))

place_within : (peer slot count : ℕ) (client : Bool) → peer < count → slot < 4 → end_place peer slot client < count * 8
place_within peer slot count true known low = omega (arith, known, low)
place_within peer slot count false known low = omega (arith, known, low)

pub there : (links : List EndView) (count : ℕ) (a : EndName) → length links ≡ count * 8 → a.peer < count → a.slot < 4 → is_some (link_at links a) ≡ true
there links count a long known low =
    let test : nat_lt a.slot 4 ≡ true = grind (arith, nat_tests) in
    rw test (some_within links (end_place a.peer a.slot a.client) (subst (λ (n : ℕ). end_place a.peer a.slot a.client < n) (sym long) (place_within a.peer a.slot count a.client known low)))
