-- Between two lines each wait has its mark.
use Rattle.std.proofs.Common.{◌≡◌, ℕ, ◌+◌, ◌<◌, List, ◌∷◌, [], true, length, sym, ap, ◌∙◌, subst, arith, length-append}
use Rattle.run_data.specs.declared.run.Run.{Run}
use Rattle.fleet_entries.specs.Stored.{StoreView}
use Rattle.script_commands.specs.declared.command.Command.{Command}
use Rattle.driver_model.specs.Driver.{Driver, DriverInput}
use Rattle.driver_model.specs.Driving.{does}
use Rattle.driver_script.specs.Lines.{is_built}
use Rattle.fleet_entries.specs.Fleets.{FleetView}
use Rattle.fleet_run.specs.Commands.{does_and_marks, does_command}
use Rattle.fleet_entries.specs.AtDriver.{GoesOn, IsDriven, IsDrivenWithin, IsAtDriver, most_lines}
use Rattle.fleet_run.proofs.FewWaits.{does_few}
use Rattle.fleet_entries.proofs.Driving.{driven_on}
use Rattle.fleet_entries.proofs.Few.{fewer}

-- the law of marks
abbrev pub MarksLaw : Type 0
MarksLaw = (g : DriverInput) (command : Command) (d : Driver) → (does g command d).marks ≡ d.marks

-- after a command, before its mark
pub driven_behind : {K : Type 0} (tells : K → StoreView) (command : Command) → is_built command ≡ true → (was after : FleetView K) → length was.run.marks < most_lines → IsDrivenWithin tells (length was.run.marks) was
    → GoesOn tells (does_command command) was after → IsDriven tells after
driven_behind tells command built was after less driven goes =
    driven_on tells (length was.run.marks) most_lines (does_command command) was after
    (λ g d few. fewer (length was.run.marks + 1) most_lines (does_command command g d).past (omega (arith, less)) (does_few (length was.run.marks) g d few command built)) driven goes

-- and behind it the run has one mark more
pub marked_once : {K : Type 0} (tells : K → StoreView) (command : Command) (was after : FleetView K) → MarksLaw → IsDrivenWithin tells (length was.run.marks) was
    → GoesOn tells (does_and_marks command) was after → length after.run.marks ≡ length was.run.marks + 1
marked_once {K} tells command was after law driven goes =
    let g : DriverInput = driven.given in
    let d : Driver = driven.driver in
    let stands : IsAtDriver tells g (does_and_marks command g d) after = goes g d driven.stands in
    ap (λ (run : Run). length run.marks) stands.come.run
    ∙ (length-append (does_command command g d).marks (length (does_command command g d).past ∷ [])
    ∙ (ap (λ (marks : List ℕ). length marks + 1) (law g command d)
    ∙ ap (λ (run : Run). length run.marks + 1) (sym driven.stands.come.run)))

pub driven_marked : {K : Type 0} (tells : K → StoreView) (command : Command) → is_built command ≡ true → (was after : FleetView K) → MarksLaw → IsDrivenWithin tells (length was.run.marks) was
    → GoesOn tells (does_and_marks command) was after → IsDrivenWithin tells (length after.run.marks) after
driven_marked {K} tells command built was after law driven goes =
    subst (λ (most : ℕ). IsDrivenWithin tells most after) (sym (marked_once tells command was after law driven goes))
    (driven_on tells (length was.run.marks) (length was.run.marks + 1) (does_and_marks command) was after (λ g d few. does_few (length was.run.marks) g d few command built) driven goes)
