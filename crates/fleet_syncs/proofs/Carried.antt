-- Actions of a plan as jobs, one after the other.
use Rattle.std.proofs.Common.{◌≡◌, ℕ, zero, suc, ◌+◌, ◌<◌, List, [], ◌∷◌, ◌++◌, get_or, length, take, refl, sym, ap, ◌∙◌, subst, arith}
use Rattle.std.proofs.lemmas.List.{take_more}
use Rattle.run_data.specs.declared.run.Run.{Run}
use Rattle.wanted_rules.specs.declared.action.Action.{Action}
use Rattle.driver_model.specs.Driver.{Driver, DriverInput}
use Rattle.driver_model.specs.Rounds.{settles}
use Rattle.driver_model.specs.ScriptSteps.{begins}
use Rattle.driver_model.specs.Sound.{OnlyAdds}
use Rattle.driver_model.specs.Syncs.{carries_out, job_for}
use Rattle.fleet_entries.specs.Stored.{StoreView}
use Rattle.fleet_entries.specs.Fleets.{FleetView}
use Rattle.fleet_entries.specs.AtDriver.{GoesOn, IsAtDriver}
use Rattle.fleet_entries.proofs.Ending.{Ends, LaterLaw}
use Rattle.fleet_syncs.proofs.Walks.{IsWalk, walk_ends, walks_on}

carries_join : (g : DriverInput) (r : ℕ) (xs ys : List Action) (d : Driver) → carries_out g r (xs ++ ys) d ≡ carries_out g r ys (carries_out g r xs d)
carries_join g r [] ys d = refl
carries_join g r (x ∷ xs) ys d = carries_join g r xs ys (settles g (begins r (job_for x) d))

pub carries_walk : (r : ℕ) → ((g : DriverInput) (r : ℕ) (actions : List Action) (d : Driver) → OnlyAdds d (carries_out g r actions d)) → IsWalk (λ g actions d. carries_out g r actions d)
carries_walk r law = record { joins = λ g xs ys d. carries_join g r xs ys d; adds = λ g xs d. law g r xs d }

-- the actions up to a place, that there, and those behind it
parted : {X : Type 0} (xs : List X) (i : ℕ) (x : X) → i < length xs → (rest : List X) × (xs ≡ take i xs ++ get_or xs i x ∷ rest)
parted [] i x within = absurd (omega (arith, within))
parted (y ∷ ys) zero x within = (ys, refl)
parted (y ∷ ys) (suc i) x within = let parts = parted ys i x (omega (arith, within)) in (parts.0, ap (λ (zs : List _). y ∷ zs) parts.1)

pub carries_on : {K : Type 0} (tells : K → StoreView) (r i : ℕ) (actions : List Action) (action : Action) (was mid after : FleetView K) → IsWalk (λ g actions d. carries_out g r actions d) → i < length actions → action ≡ get_or actions i action
    → GoesOn tells (λ g d. carries_out g r (take i actions) d) was mid → GoesOn tells (λ g d. carries_out g r (action ∷ []) d) mid after → GoesOn tells (λ g d. carries_out g r (take (i + 1) actions) d) was after
carries_on tells r i actions action was mid after is within at goes on g d stands =
    subst (λ (xs : List Action). IsAtDriver tells g (carries_out g r xs d) after) (ap (λ (a : Action). take i actions ++ a ∷ []) at ∙ sym (take_more actions i action within))
    (walks_on tells (λ g actions d. carries_out g r actions d) (take i actions) (action ∷ []) was mid after is goes on g d stands)

pub carries_end : {K : Type 0} (tells : K → StoreView) (P : DriverInput → Driver → Run → Type 0) (r i : ℕ) (actions : List Action) (action : Action) (was mid after : FleetView K) → LaterLaw P → IsWalk (λ g actions d. carries_out g r actions d)
    → i < length actions → action ≡ get_or actions i action → GoesOn tells (λ g d. carries_out g r (take i actions) d) was mid → Ends tells P (λ g d. carries_out g r (action ∷ []) d) mid after
    → Ends tells P (λ g d. carries_out g r actions d) was after
carries_end tells P r i actions action was mid after later is within at goes ends g d stands =
    let parts = parted actions i action within in
    subst (λ (xs : List Action). P g (carries_out g r xs d) after.run) (ap (λ (a : Action). take i actions ++ a ∷ parts.0) at ∙ sym parts.1)
    (walk_ends tells P (λ g actions d. carries_out g r actions d) (take i actions) (action ∷ []) parts.0 was mid after later is goes ends g d stands)

-- all of them were carried out
pub all_carried : {K : Type 0} (tells : K → StoreView) (r i : ℕ) (actions : List Action) (was after : FleetView K) → take i actions ≡ actions → GoesOn tells (λ g d. carries_out g r (take i actions) d) was after
    → GoesOn tells (λ g d. carries_out g r actions d) was after
all_carried tells r i actions was after all goes g d stands = subst (λ (xs : List Action). IsAtDriver tells g (carries_out g r xs d) after) all (goes g d stands)
