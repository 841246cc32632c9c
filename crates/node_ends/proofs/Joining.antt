-- The ends of two repositories, and frames that are carried between them.
use Rattle.std.proofs.Common.{◌≡◌, ◌≢◌, ◌<◌, ◌≤◌, ℕ, ◌+◌, inl, inr, Bool, true, false, not, List, Option, Some, None, refl, sym, ap, subst, ◌∙◌, arith, true≢false}
use Rattle.std.specs.Prelude.{◌==◌}
use Rattle.std.proofs.lemmas.Bool.{and_from, and_parts, cases_Bool, eqb-true}
use Rattle.std.proofs.lemmas.Bool.Decides.{nat_tests}
use Rattle.annex_base.proofs.Conditions.{not_not}
use Rattle.link_ring.specs.declared.end.Phase.{Phase}
use Rattle.link_ring.specs.declared.end.Phase.TheVariants.{Closed, Opening, Open}
use Rattle.link_ring.specs.Ends.{EndView, ArePaired, after_carry, free}
use Rattle.node_model.specs.Ends.{EndName}
use Rattle.node_ends.specs.Carrying.{AreCarriedTo, IsCarried, IsSlotCarried}
use Rattle.node_ends.specs.Ends.{link_at}
use Rattle.node_ends.specs.Invariant.{has_number, has_place, may_close}
use Rattle.node_ends.specs.Joined.{AreCarried, AreJoined, BothPaired, StayPaired, StaysSo, end_with, link_carried}

-- ---- joined ends stay so

both_call : (was now other : Option EndView) → StaysSo was now → BothPaired was other → BothPaired now other
both_call None now other stays pair = absurd pair
both_call (Some v) None other stays pair = absurd stays
both_call (Some v) (Some w) None stays pair = pair
both_call (Some v) (Some w) (Some x) stays pair = stays x pair

pub joined_call : (a b : ℕ) (xs now ys : List EndView) → StayPaired xs now → AreJoined a b xs ys → AreJoined a b now ys
joined_call a b xs now ys stay joined = λ slot client low.
    both_call (link_at xs (end_with b slot client)) (link_at now (end_with b slot client)) (link_at ys (end_with a slot (not client)))
    (stay (end_with b slot client)) (joined slot client low)

pub paired_of : (o p : Option EndView) (v w : EndView) → o ≡ Some v → p ≡ Some w → BothPaired o p → ArePaired v w
paired_of o p v w first second pair =
    subst (λ (q : Option EndView). BothPaired (Some v) q) second (subst (λ (q : Option EndView). BothPaired q p) first pair)

pub paired_still : (o o' p p' : Option EndView) → o' ≡ o → p' ≡ p → BothPaired o p → BothPaired o' p'
paired_still o o' p p' first second pair =
    subst (λ (q : Option EndView). BothPaired q p') (sym first) (subst (λ (q : Option EndView). BothPaired o q) (sym second) pair)

-- ---- a Close keeps its place

place_more : (p : Phase) (m n : ℕ) → m ≤ n → has_place p m ≡ true → has_place p n ≡ true
place_more Closed m n more is = refl
place_more Opening m n more is = grind (arith, nat_tests)
place_more Open m n more is = refl

pub close_carried : (v w : EndView) → ArePaired v w → may_close v ≡ true → may_close (after_carry v w) ≡ true
close_carried v w pair is =
    let parts = and_parts (has_place v.phase (free v)) (has_number v.phase v.sent) is in
    and_from (has_place v.phase (free (after_carry v w))) (has_number v.phase v.sent)
    (place_more v.phase (free v) (free (after_carry v w)) (omega (arith, pair.first)) parts.0) parts.1

-- ---- carried in one slot

apart : (p : EndName) (q : EndName) → p.client ≡ not q.client → p ≢ q
apart p q other same = not_same q.client (sym (ap (λ (n : EndName). n.client) same) ∙ other) where
  not_same : (c : Bool) → c ≡ not c → ⊥
  not_same true is = true≢false is
  not_same false is = true≢false (sym is)

-- the end that was carried first, and the one after it
first_here : (x y : EndName) (was mid now other : List EndView) → IsCarried x y was mid other → link_at now x ≡ link_at mid x → link_at now x ≡ link_carried (link_at was x) (link_at other y)
first_here x y was mid now other one same = same ∙ one.here

then_here : (x y : EndName) (was mid now other between : List EndView) → IsCarried x y mid now between → link_at mid x ≡ link_at was x → link_at between y ≡ link_at other y
    → link_at now x ≡ link_carried (link_at was x) (link_at other y)
then_here x y was mid now other between two same also =
    two.here ∙ ap (λ (o : Option EndView). link_carried o (link_at between y)) same ∙ ap (λ (o : Option EndView). link_carried (link_at was x) o) also

pub slot_carried : (a b slot : ℕ) (c : Bool) (was mid now other between : List EndView)
    → IsCarried (end_with b slot c) (end_with a slot (not c)) was mid other
    → IsCarried (end_with b slot (not c)) (end_with a slot c) mid now between
    → link_at between (end_with a slot c) ≡ link_at other (end_with a slot c)
    → IsSlotCarried a b slot was now other
slot_carried a b slot c was mid now other between one two also = record {
  count = two.count ∙ one.count;
  carried = λ client. each c client one two also;
  others = λ z elsewhere.
      two.others z (λ same. elsewhere (ap (λ (n : EndName). n.peer) same) (ap (λ (n : EndName). n.slot) same))
      ∙ one.others z (λ same. elsewhere (ap (λ (n : EndName). n.peer) same) (ap (λ (n : EndName). n.slot) same));
} where
  each : (c client : Bool)
      → IsCarried (end_with b slot c) (end_with a slot (not c)) was mid other
      → IsCarried (end_with b slot (not c)) (end_with a slot c) mid now between
      → link_at between (end_with a slot c) ≡ link_at other (end_with a slot c)
      → link_at now (end_with b slot client) ≡ link_carried (link_at was (end_with b slot client)) (link_at other (end_with a slot (not client)))
  each true true one two also =
      first_here (end_with b slot true) (end_with a slot false) was mid now other one (two.others (end_with b slot true) (apart (end_with b slot true) (end_with b slot false) refl))
  each true false one two also =
      then_here (end_with b slot false) (end_with a slot true) was mid now other between two (one.others (end_with b slot false) (apart (end_with b slot false) (end_with b slot true) refl)) also
  each false true one two also =
      then_here (end_with b slot true) (end_with a slot false) was mid now other between two (one.others (end_with b slot true) (apart (end_with b slot true) (end_with b slot false) refl)) also
  each false false one two also =
      first_here (end_with b slot false) (end_with a slot true) was mid now other one (two.others (end_with b slot false) (apart (end_with b slot false) (end_with b slot true) refl))

pub same_after : (slot a b : ℕ) (c : Bool) (x y : EndName) (was now other : List EndView) → IsCarried x y was now other → x.client ≡ not c → link_at now (end_with b slot c) ≡ link_at was (end_with b slot c)
same_after slot a b c x y was now other one at = one.others (end_with b slot c) (apart (end_with b slot c) x (sym (ap not at ∙ not_not c)))

-- ---- carried in the slots so far

pub one_more : (n a b : ℕ) (was mid now other between : List EndView) → AreCarriedTo n a b was mid other → IsSlotCarried a b n mid now between
    → ((client : Bool) → link_at between (end_with a n client) ≡ link_at other (end_with a n client)) → AreCarriedTo (n + 1) a b was now other
one_more n a b was mid now other between so two same = record {
  count = two.count ∙ so.count;
  carried = λ slot client low. elim (cases_Bool (slot == n)) [
    | inl is ↦ subst (λ (k : ℕ). link_at now (end_with b k client) ≡ link_carried (link_at was (end_with b k client)) (link_at other (end_with a k (not client)))) (sym (eqb-true slot n is))
        (two.carried client
        ∙ ap (λ (o : Option EndView). link_carried o (link_at between (end_with a n (not client)))) (so.others (end_with b n client) (λ at. omega arith))
        ∙ ap (λ (o : Option EndView). link_carried (link_at was (end_with b n client)) o) (same (not client)))
    | inr other ↦
        let below : slot < n = grind (arith, nat_tests) in
        two.others (end_with b slot client) (λ at same. omega (arith, below, same)) ∙ so.carried slot client below
  ];
  others = λ z elsewhere.
      two.others z (λ at same. omega (arith, elsewhere at, same)) ∙ so.others z (λ at. omega (arith, elsewhere at));
}

pub not_yet : (n a b : ℕ) (client : Bool) (was now other : List EndView) → AreCarriedTo n a b was now other → link_at now (end_with b n client) ≡ link_at was (end_with b n client)
not_yet n a b client was now other so = so.others (end_with b n client) (λ at. omega arith)

-- ---- a third repository

pub joined_elsewhere : (a b c : ℕ) (xs now ys zs : List EndView) → c ≢ b → AreCarried a b xs now ys → AreJoined a c xs zs → AreJoined a c now zs
joined_elsewhere a b c xs now ys zs apart so joined = λ slot client low.
    paired_still (link_at xs (end_with c slot client)) (link_at now (end_with c slot client)) (link_at zs (end_with a slot (not client))) (link_at zs (end_with a slot (not client)))
    (so.others (end_with c slot client) apart) refl (joined slot client low)
