-- Where a job stands in the list.
use Rattle.std.proofs.Common.{◌≡◌, ℕ, ◌+◌, ◌<◌, ◌≤◌, Bool, true, false, cond, List, ◌∷◌, ◌++◌, length, get_or, take, drop, Option, Some, None, refl, sym, ap, subst, ◌∙◌, arith, append_assoc, below_more}
use Rattle.std.specs.Prelude.{find, nat_lt, position, slice_get, IfSome, ◌==◌}
use Rattle.std.specs.List.{position_or_len}
use Rattle.std.specs.Option.{option_map}
use Rattle.std.proofs.lemmas.Bool.Decides.{nat_tests}
use Rattle.std.proofs.lemmas.List.Folds.{find_at}
use Rattle.std.proofs.lemmas.Option.{slice_get_past, slice_get_read}
use Rattle.std.proofs.Math.Seq.{drop-append_seam}
use Rattle.std.proofs.lemmas.List.{length-take-le, take_at}
use Rattle.annex_base.proofs.Lists.{Each-member, find_member}
use Rattle.annex_base.proofs.Options.{some_none}
use Rattle.link_ring.specs.Ends.{EndView}
use Rattle.node_model.specs.Clocks.{ClockSet}
use Rattle.node_model.specs.Turns.{slot_step}
use Rattle.node_tasks.specs.Places.{PlaceView}
use Rattle.node_tasks.specs.Waiting.{WaitsFor}
use Rattle.node_tasks.specs.declared.readiness.Told.{Told}
use Rattle.node_tasks.specs.declared.task.Task.{Task}
use Rattle.node_tasks.specs.Tasks.{SeesTask, slot_of, work_now}
use Rattle.node_tasks.specs.Telling.{Answers, IsToldTo, takes_in}
use Rattle.running_jobs.specs.declared.finding.Found.{Found}
use Rattle.running_jobs.specs.Finding.{FindsAtSlot, FindsFirst, IsAtSlot, IsOfSlot, IsSlotIdle, has_slot}
use Rattle.running_jobs.proofs.Among.{find_mapped, get_middle}

-- ---- the first that passes

place_none : {X : Type 0} (p : X → Bool) (xs : List X) → position p xs ≡ None → find p xs ≡ None
place_none p xs none = go (nat_lt (position_or_len p xs) (length xs)) refl none
  where
    go : (b : Bool) → nat_lt (position_or_len p xs) (length xs) ≡ b → cond b (Some (position_or_len p xs)) None ≡ None → find p xs ≡ None
    go true is e = absurd (some_none (position_or_len p xs) e)
    go false is e = let past : length xs ≤ position_or_len p xs = grind (arith, nat_tests) in find_at p xs ∙ slice_get_past xs (position_or_len p xs) past

place_some : {X : Type 0} (p : X → Bool) (xs : List X) (i : ℕ) → position p xs ≡ Some i → (i < length xs) × (find p xs ≡ slice_get xs i)
place_some p xs i some = go (nat_lt (position_or_len p xs) (length xs)) refl some
  where
    go : (b : Bool) → nat_lt (position_or_len p xs) (length xs) ≡ b → cond b (Some (position_or_len p xs)) None ≡ Some i → (i < length xs) × (find p xs ≡ slice_get xs i)
    go true is e =
        let same : position_or_len p xs ≡ i = cc in
        let within : position_or_len p xs < length xs = grind (arith, nat_tests) in
        (subst (λ (n : ℕ). n < length xs) same within, find_at p xs ∙ ap (slice_get xs) same)
    go false is e = absurd (some_none i (sym e))

module _ (p : PlaceView) (clock : ClockSet) (links : List EndView) (jobs : List Task) (time slot : ℕ) where
  pub none_idle : position (has_slot slot) jobs ≡ None → IsSlotIdle p clock links jobs time slot
  none_idle none = λ rows c s st k sees keeps. ap (slot_step s st k) (find_mapped work_now (λ w. w.slot == slot) jobs ∙ ap (option_map work_now) (place_none (has_slot slot) jobs none))

  module _ (index : ℕ) (at : position (has_slot slot) jobs ≡ Some index) (t : Task) (is : t ≡ get_or jobs index t) where
    element : slice_get jobs index ≡ Some t
    element = slice_get_read jobs (length jobs) index t refl (place_some (has_slot slot) jobs index at).0 is

    found : find (has_slot slot) jobs ≡ Some t
    found = (place_some (has_slot slot) jobs index at).1 ∙ element

    pub idle_idle : (o : Option Told) → o ≡ None → Answers p clock links time t o → IsSlotIdle p clock links jobs time slot
    idle_idle o none answers = λ rows c s st k sees keeps.
        ap (slot_step s st k) (find_mapped work_now (λ w. w.slot == slot) jobs ∙ ap (option_map work_now) found)
        ∙ subst (Answers p clock links time t) none answers rows c s st k (Each-member (SeesTask p clock links time s st k) jobs t sees (find_member (has_slot slot) jobs t found).0) keeps

    pub ready_found : (o : Option Told) (x : Told) → o ≡ Some x → Answers p clock links time t o → IfSome o (IsToldTo links t) → IfSome o (λ y. WaitsFor links (slot_of t) (takes_in y)) → IsAtSlot p clock links jobs time slot (record { index = index; told = x })
    ready_found o x some answers told waits = record { there = (place_some (has_slot slot) jobs index at).0; job = λ u e. subst (IsOfSlot p clock links jobs time slot x) (let same : t ≡ u = same_Some t u (sym element ∙ e) in same) of }
      where
        same_Some : (y z : Task) → Some y ≡ Some z → y ≡ z
        same_Some y z e = cc

        of : IsOfSlot p clock links jobs time slot x t
        of = record {
          in_slot = let same : slot_of t ≡ slot = grind (arith, nat_tests, (find_member (has_slot slot) jobs t found).1) in same;
          found = found;
          ready = subst (Answers p clock links time t) some answers;
          told = subst (λ (q : Option Told). IfSome q (IsToldTo links t)) some told;
          waits = subst (λ (q : Option Told). IfSome q (λ y. WaitsFor links (slot_of t) (takes_in y))) some waits;
        }

-- ---- the first slot

pub first_found : (p : PlaceView) (clock : ClockSet) (links links' : List EndView) (jobs : List Task) (time slot : ℕ) (o : Option Found) (found : Found) → links' ≡ links → o ≡ Some found → FindsAtSlot p clock links' jobs time slot o
    → ((i : ℕ) → i < slot → IsSlotIdle p clock links jobs time i) → FindsFirst p clock links jobs time found
first_found p clock links links' jobs time slot o found same some finds idle =
    let at : IsAtSlot p clock links jobs time slot found = subst (λ (q : Option Found). FindsAtSlot p clock links jobs time slot q) some (subst (λ (ls : List EndView). FindsAtSlot p clock ls jobs time slot o) same finds) in
    record {
      there = at.there;
      job = λ t e. let of : IsOfSlot p clock links jobs time slot found.told t = at.job t e in record {
        found = subst (λ (n : ℕ). find (has_slot n) jobs ≡ Some t) (sym of.in_slot) of.found;
        ready = of.ready;
        told = of.told;
        waits = of.waits;
        before = λ i below. idle i (subst (λ (n : ℕ). i < n) of.in_slot below);
      };
    }

pub more_idle : (p : PlaceView) (clock : ClockSet) (links links' : List EndView) (jobs : List Task) (time slot : ℕ) (o : Option Found) → links' ≡ links → o ≡ None → FindsAtSlot p clock links' jobs time slot o
    → ((i : ℕ) → i < slot → IsSlotIdle p clock links jobs time i) → (i : ℕ) → i < slot + 1 → IsSlotIdle p clock links jobs time i
more_idle p clock links links' jobs time slot o same none finds idle =
    below_more (IsSlotIdle p clock links jobs time) slot idle (subst (λ (q : Option Found). FindsAtSlot p clock links jobs time slot q) none (subst (λ (ls : List EndView). FindsAtSlot p clock ls jobs time slot o) same finds))

-- ---- a job that is taken out and put back

pub put_there : {X : Type 0} (xs ys zs k : List X) (i : ℕ) → i < length xs → ys ≡ take i xs ++ drop (i + 1) xs → zs ≡ take i ys ++ k ++ drop i ys → zs ≡ take i xs ++ (k ++ drop (i + 1) xs)
put_there xs ys zs k i within out put =
    let len : length (take i xs) ≡ i = length-take-le i xs (omega (arith, within)) in
    let front : take i ys ≡ take i xs = ap (take i) out ∙ (ap (λ (n : ℕ). take n (take i xs ++ drop (i + 1) xs)) (sym len) ∙ take_at (take i xs) (drop (i + 1) xs) (length (take i xs)) refl) in
    let back : drop i ys ≡ drop (i + 1) xs = ap (drop i) out ∙ (ap (λ (n : ℕ). drop n (take i xs ++ drop (i + 1) xs)) (sym len) ∙ drop-append_seam (take i xs) (drop (i + 1) xs)) in
    put ∙ ((λ m. (front m ++ k) ++ back m) ∙ append_assoc (take i xs) k (drop (i + 1) xs))

pub taken_there : {X : Type 0} (xs : List X) (i : ℕ) (x : X) → i < length xs → xs ≡ take i xs ++ x ∷ drop (i + 1) xs → slice_get xs i ≡ Some x
taken_there xs i x within was =
    let len : length (take i xs) ≡ i = length-take-le i xs (omega (arith, within)) in
    ap (λ l. slice_get l i) was ∙ (ap (slice_get (take i xs ++ x ∷ drop (i + 1) xs)) (sym len) ∙ get_middle (take i xs) x (drop (i + 1) xs))

-- it is the one that stood there
pub read_there : {X : Type 0} (xs : List X) (i : ℕ) (x y : X) → i < length xs → x ≡ get_or xs i x → xs ≡ take i xs ++ y ∷ drop (i + 1) xs → x ≡ y
read_there xs i x y within read was = let both : Some x ≡ Some y = sym (slice_get_read xs (length xs) i x refl within read) ∙ taken_there xs i y within was in let same : x ≡ y = cc in same
