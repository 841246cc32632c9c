-- An entry breaks no rule exactly where it may come next.
use Rattle.std.proofs.Common.{◌≡◌, ◌↔◌, inl, inr, ℕ, Bool, true, false, List, [], ◌∷◌, Option, Some, None, refl, sym, ap, subst, ◌∙◌}
use Rattle.std.specs.Bool.{Decides}
use Rattle.std.specs.Option.{is_none}
use Rattle.annex_base.specs.declared.kinds.Word.{Word}
use Rattle.annex_base.proofs.Options.{is_none_true}
use Rattle.annex_key.specs.KeyText.{IsKeyText}
use Rattle.annex_key.specs.View.{first_fault}
use Rattle.run_data.specs.declared.entry.Entry.{Entry}
use Rattle.node_model.specs.SetUp.{SetUp}
use Rattle.node_model.specs.Jobs.{taken_message}
use Rattle.run_model.specs.Run.{IsStep, ComesAnyTime, MayBe, OnlyWaits, OwnPart, RunStep}
use Rattle.run_model.specs.States.{state_of}
use Rattle.run_laws.specs.Sound.{IsSound}
use Rattle.step_judging.specs.Rules.{breaks, broken_rule, first_broken, has_row, is_ordered, is_own, may_take_next, only_waits, words_told}
use Rattle.step_judging.proofs.RowsHold.{StepsFind, any_row, step_row}
use Rattle.step_judging.proofs.RulesHold.{frame_holds, frame_passes, order_holds, own_is, own_passes, waits_hold, words_same, words_tell}

-- ---- the first rule

all_kept : (a b c d : Bool) → first_broken ((1, a) ∷ (2, b) ∷ (3, c) ∷ (4, d) ∷ []) ≡ None → (a ≡ true) × (b ≡ true) × (c ≡ true) × (d ≡ true)
all_kept true true true true e = (refl, refl, refl, refl)
all_kept true true true false e = absurd (cc)
all_kept true true false d e = absurd (cc)
all_kept true false c d e = absurd (cc)
all_kept false b c d e = absurd (cc)

none_broken : (a b c d : Bool) → a ≡ true → b ≡ true → c ≡ true → d ≡ true → first_broken ((1, a) ∷ (2, b) ∷ (3, c) ∷ (4, d) ∷ []) ≡ None
none_broken a b c d p q r s = rw (p, q, r, s) refl

two_kept : (a b : Bool) → first_broken ((1, a) ∷ (3, b) ∷ []) ≡ None → (a ≡ true) × (b ≡ true)
two_kept true true e = (refl, refl)
two_kept true false e = absurd (cc)
two_kept false b e = absurd (cc)

-- a key has no fault exactly where it is a key's text
abbrev pub Keys : Type 0
Keys = (key : List ℕ) → (first_fault key ≡ None) ↔ IsKeyText key

keys_hold : Keys → (key : List ℕ) → Decides (is_none (first_fault key)) (IsKeyText key)
keys_hold keys key = (λ h. (keys key).0 (is_none_true (first_fault key) h), λ is. let none : first_fault key ≡ None = (keys key).1 is in rw none refl)

-- the row of an entry that is its repository's own part
pub own_row : StepsFind → (s : SetUp) (past : List Entry) (words : ℕ → Option Word) (e : Entry) → IsSound (state_of s past) → OwnPart s past words e → has_row (state_of s past) e ≡ true
own_row found s past words e sound own = elim (own.does) [ inl x ↦ step x | inr x ↦ any x ]
  where
    step : IsStep s past words e → has_row (state_of s past) e ≡ true
    step x =
        subst (λ (y : Entry). has_row (state_of s past) y ≡ true) (sym x.is) (step_row s (state_of s past) x.look sound found x.part_small x.made x.makes)

    any : ComesAnyTime s past e → has_row (state_of s past) e ≡ true
    any x = any_row s (state_of s past) e.lines e.sent ((state_of s past).clock e.time) (taken_message e.taken) e.kind x.may

module _ (keys : Keys) (found : StepsFind) (s : ℕ → SetUp) (numbered : (r : ℕ) → (s r).number ≡ r) (past : List Entry) (e : Entry) where
  mine : (r : ℕ) → e.repo ≡ Some r → e.repo ≡ Some (s r).number
  mine r is = is ∙ ap (λ (n : ℕ). Some n) (sym (numbered r))

  -- what breaks no rule may come next
  may_of : (r : ℕ) → e.repo ≡ Some r → is_own (s r) (state_of (s r) past) (words_told past r e.kind) e ≡ true → may_take_next past r e.taken ≡ true → MayBe s past e (Some r)
  may_of r is own frame = (
    words_told past r e.kind,
    own_is (keys_hold keys) (s r) past e (mine r is) (words_told past r e.kind) own,
    record { takes = frame_holds past r e.taken frame; tells = λ j outcome kind. words_tell past r e j outcome kind },
  )

  kept_step : (o : Option ℕ) → e.repo ≡ o → breaks s past e o ≡ None → RunStep s past e
  kept_step None is h =
      let both = two_kept (is_ordered past e) (only_waits e) h in
      let may : MayBe s past e None = (waits_hold e).0 both.1 in
      record { order = (order_holds past e).0 both.0; may = subst (λ (o : Option ℕ). MayBe s past e o) (sym is) may }
  kept_step (Some r) is h =
      let st = state_of (s r) past in
      let all = all_kept (is_ordered past e) (has_row st e) (is_own (s r) st (words_told past r e.kind) e) (may_take_next past r e.taken) h in
      record { order = (order_holds past e).0 all.0; may = subst (λ (o : Option ℕ). MayBe s past e o) (sym is) (may_of r is all.2 all.3) }

  pub unbroken_step : broken_rule s past e ≡ None → RunStep s past e
  unbroken_step h = kept_step e.repo refl h

  -- what may come next breaks no rule
  step_kept : (o : Option ℕ) → e.repo ≡ o → ((r : ℕ) → o ≡ Some r → IsSound (state_of (s r) past)) → RunStep s past e → breaks s past e o ≡ None
  step_kept None is sound x =
      let may : OnlyWaits e = subst (λ (o : Option ℕ). MayBe s past e o) is x.may in
      rw ((order_holds past e).1 x.order, (waits_hold e).1 may) refl
  step_kept (Some r) is sound x =
      let may : MayBe s past e (Some r) = subst (λ (o : Option ℕ). MayBe s past e o) is x.may in
      let st = state_of (s r) past in
      none_broken (is_ordered past e) (has_row st e) (is_own (s r) st (words_told past r e.kind) e) (may_take_next past r e.taken)
      ((order_holds past e).1 x.order)
      (own_row found (s r) past may.0 e (sound r refl) may.1)
      (own_passes (keys_hold keys) (s r) past e (mine r is) (sound r refl).slots may.0 (words_told past r e.kind) (words_same past r may.0 e may.2) may.1)
      (frame_passes past r e.taken may.2.takes)

  pub step_unbroken : ((r : ℕ) → e.repo ≡ Some r → IsSound (state_of (s r) past)) → RunStep s past e → broken_rule s past e ≡ None
  step_unbroken sound x = step_kept e.repo refl sound x
