-- A sound driver's repositories speak with others alone.
use Rattle.std.proofs.Common.{◌≡◌, inl, inr, ℕ, ◌+◌, true, List, [], ◌∷◌, Some, refl, sym, ap, ◌∙◌, subst}
use Rattle.std.specs.Prelude.{◌&&◌, ◌==◌, filter, if◌then◌else◌, length, nat_le, not, reverse}
use Rattle.std.proofs.lemmas.Bool.{and_parts, cases_Bool, eqb-true}
use Rattle.std.proofs.lemmas.List.{reverse-reverse}
use Rattle.annex_base.specs.Lists.{Each}
use Rattle.run_data.specs.declared.entry.Entry.{Entry}
use Rattle.run_model.specs.Run.{set_up}
use Rattle.run_model.specs.States.{state_of}
use Rattle.node_model.specs.Ends.{EndName}
use Rattle.node_model.specs.Look.{Look, Effect}
use Rattle.node_model.specs.Step.{step}
use Rattle.driver_model.specs.Driver.{Driver, Flight, DriverInput, has_room, is_sent_by, set_up_of, state_at}
use Rattle.driver_model.specs.Driving.{run_with}
use Rattle.driver_model.specs.Sound.{GoesToOther}
use Rattle.driver_model.proofs.Holding.{set_up_on}

-- the driver's step is the run's
pub step_of_run : (g : DriverInput) (d : Driver) (r : ℕ) (k : Look) (m : Effect) → step (set_up_of g d r) (state_at g d r) k ≡ Some m
    → step (set_up (run_with g d) r) (state_of (set_up (run_with g d) r) (reverse (run_with g d).entries)) k ≡ Some m
step_of_run g d r k m makes =
    subst (λ (past : List Entry). step (set_up_on g d.tree past r) (state_of (set_up_on g d.tree past r) past) k ≡ Some m) (sym (reverse-reverse d.past)) makes

-- none that goes to another repository was sent by an end of r at itself
none_sent : (r : ℕ) (a : EndName) → a.peer ≡ r → (xs : List Flight) → Each GoesToOther xs → filter (is_sent_by r a) xs ≡ []
none_sent r a own [] all = refl
none_sent r a own (x ∷ xs) all = elim (cases_Bool (is_sent_by r a x)) [
  | inl is ↦
      let rest = (x.frame.slot == a.slot) && (if a.client then x.frame.up else not x.frame.up) in
      let one = and_parts (x.to == a.peer) ((x.frame.peer == r) && rest) is in
      let two = and_parts (x.frame.peer == r) rest one.1 in
      absurd (all.0 (eqb-true x.to a.peer one.0 ∙ own ∙ sym (eqb-true x.frame.peer r two.0)))
  | inr other ↦ rw other (none_sent r a own xs all.1)
]

pub own_room : (r : ℕ) (a : EndName) → a.peer ≡ r → (xs : List Flight) → Each GoesToOther xs → has_room r xs a ≡ true
own_room r a own xs all = ap (λ (ys : List Flight). nat_le (length ys + 2) 8) (none_sent r a own xs all)
