-- A fleet that has come to where some driver is goes on.
use Rattle.std.proofs.Common.{◌≡◌, ℕ, ◌+◌, ◌<◌, ◌≤◌, ◌^◌, List, [], ◌∷◌, ◌++◌, length, sym, ap, ◌∙◌, subst, arith}
use Rattle.std.specs.Prelude.{reverse}
use Rattle.std.proofs.lemmas.List.{length-reverse}
use Rattle.run_data.specs.declared.entry.Entry.{Entry}
use Rattle.run_data.specs.declared.run.Run.{Run}
use Rattle.driver_model.specs.Driver.{Driver, DriverInput, newest_count}
use Rattle.driver_model.specs.Driving.{with_mark}
use Rattle.driver_model.specs.Sound.{StaysSound}
use Rattle.fleet_model.specs.Stored.{StoreView}
use Rattle.fleet_model.specs.Fleets.{FleetView, HasCome}
use Rattle.fleet_entries.specs.AtDriver.{GoesOn, IsDriven, IsDrivenWithin, IsFew}
use Rattle.fleet_entries.proofs.Few.{fewer}
use Rattle.fleet_entries.proofs.Called.{past_of}

-- ---- where it has come

-- how many entries it has made
pub entries_are : {K : Type 0} (tells : K → StoreView) (g : DriverInput) (d : Driver) (f : FleetView K) → HasCome tells g d f → length f.run.entries ≡ length d.past
entries_are tells g d f come = ap (λ (run : Run). length run.entries) come.run ∙ length-reverse d.past

-- and so is a count more, where the entries are few
pub one_is_counted : {K : Type 0} (tells : K → StoreView) (f : FleetView K) → IsDriven tells f → length f.run.entries < 2 ^ 30 → newest_count (reverse f.run.entries) + 1 < 2 ^ 62
one_is_counted tells f driven few =
    subst (λ (past : List Entry). newest_count past + 1 < 2 ^ 62) (sym (past_of tells driven.given driven.driver f driven.stands.come))
    (small (newest_count driven.driver.past) (length driven.driver.past) (length f.run.entries) driven.few.count (entries_are tells driven.given driven.driver f driven.stands.come) few)
  where
    small : (count made entries : ℕ) → count ≤ made → entries ≡ made → entries < 2 ^ 30 → count + 1 < 2 ^ 62
    small count made entries less same few = omega (arith, less, same, few)

-- it has as many nodes as it had, where some driver goes on
pub same_count : {K : Type 0} (tells : K → StoreView) (step : DriverInput → Driver → Driver) (was after : FleetView K) → IsDriven tells was → GoesOn tells step was after → length after.nodes ≡ length was.nodes
same_count tells step was after driven on = (on driven.given driven.driver driven.stands).come.count ∙ sym driven.stands.come.count

-- some driver is where it has come to, after a step that keeps its entries few
pub driven_on : {K : Type 0} (tells : K → StoreView) (most more : ℕ) (step : DriverInput → Driver → Driver) (was after : FleetView K) → ((g : DriverInput) (d : Driver) → IsFew most d.past → IsFew more (step g d).past)
    → IsDrivenWithin tells most was → GoesOn tells step was after → IsDrivenWithin tells more after
driven_on tells most more step was after keeps driven on = record {
  given = driven.given;
  driver = step driven.given driven.driver;
  stands = on driven.given driven.driver driven.stands;
  repos = driven.repos;
  few = keeps driven.given driven.driver driven.few;
}

-- more waits may be allowed
pub driven_within : {K : Type 0} (tells : K → StoreView) (most more : ℕ) (f : FleetView K) → most ≤ more → IsDrivenWithin tells most f → IsDrivenWithin tells more f
driven_within tells most more f less driven = record { given = driven.given; driver = driven.driver; stands = driven.stands; repos = driven.repos; few = fewer most more driven.driver.past less driven.few }

-- ---- a mark

-- a line is marked
pub marks_on : {K : Type 0} (tells : K → StoreView) (was after : FleetView K)
    → ((g : DriverInput) (d : Driver) → after.nodes ≡ was.nodes → after.run ≡ record was.run { marks = was.run.marks ++ length was.run.entries ∷ [] } → StaysSound g d (with_mark d) → HasCome tells g d was → HasCome tells g (with_mark d) after)
    → ((g : DriverInput) (d : Driver) → StaysSound g d (with_mark d)) → after.nodes ≡ was.nodes → after.run ≡ record was.run { marks = was.run.marks ++ length was.run.entries ∷ [] } → GoesOn tells (λ g d. with_mark d) was after
marks_on tells was after law sound nodes run g d stands = record { come = law g d nodes run (sound g d) stands.come; decides = stands.decides }
