-- Steps one behind the other: a fleet goes on as the driver does, or ends within them.
use Rattle.std.proofs.Common.{◌≡◌, ℕ, subst}
use Rattle.run_data.specs.declared.run.Run.{Run}
use Rattle.driver_model.specs.Driver.{Driver, DriverInput}
use Rattle.driver_model.specs.Limits.{StopsAtFull}
use Rattle.driver_model.specs.Sound.{OnlyAdds}
use Rattle.fleet_model.specs.Stored.{StoreView}
use Rattle.fleet_model.specs.Fleets.{FleetView}
use Rattle.fleet_entries.specs.AtDriver.{GoesOn, IsAtDriver}

-- ---- steps one behind the other

-- a fleet goes on as the driver does
pub goes_twice : {K : Type 0} (tells : K → StoreView) (first second : DriverInput → Driver → Driver) (was mid after : FleetView K) → GoesOn tells first was mid → GoesOn tells second mid after
    → GoesOn tells (λ g d. second g (first g d)) was after
goes_twice tells first second was mid after goes on g d stands = on g (first g d) (goes g d stands)

-- wherever the driver was, this holds where this step of it ends, of the fleet's run
abbrev pub Ends : {K : Type 0} → (K → StoreView) → (DriverInput → Driver → Run → Type 0) → (DriverInput → Driver → Driver) → FleetView K → FleetView K → Type 0
Ends tells P step was after = (g : DriverInput) (d : Driver) → IsAtDriver tells g d was → P g (step g d) after.run

-- and it still does after what follows, which only adds entries
abbrev pub LaterLaw : (DriverInput → Driver → Run → Type 0) → Type 0
LaterLaw P = (g : DriverInput) (mid after : Driver) (run : Run) → P g mid run → OnlyAdds mid after → P g after run

-- the run ends there at an entry of r, whose history is full
abbrev pub AtFull : ℕ → DriverInput → Driver → Run → Type 0
AtFull r g d run = StopsAtFull g r d run

pub later_full : ((g : DriverInput) (r : ℕ) (mid after : Driver) (run : Run) → StopsAtFull g r mid run → OnlyAdds mid after → StopsAtFull g r after run) → (r : ℕ) → LaterLaw (AtFull r)
later_full law r g mid after run stops adds = law g r mid after run stops adds

-- another step would follow
pub ends_early : {K : Type 0} (tells : K → StoreView) (P : DriverInput → Driver → Run → Type 0) (step next : DriverInput → Driver → Driver) (was after : FleetView K) → LaterLaw P → ((g : DriverInput) (d : Driver) → OnlyAdds d (next g d)) → Ends tells P step was after
    → Ends tells P (λ g d. next g (step g d)) was after
ends_early tells P step next was after law adds ends g d stands = law g (step g d) (next g (step g d)) after.run (ends g d stands) (adds g (step g d))

-- another step came before
pub ends_late : {K : Type 0} (tells : K → StoreView) (P : DriverInput → Driver → Run → Type 0) (step next : DriverInput → Driver → Driver) (was mid after : FleetView K) → GoesOn tells step was mid → Ends tells P next mid after
    → Ends tells P (λ g d. next g (step g d)) was after
ends_late tells P step next was mid after goes ends g d stands = ends g (step g d) (goes g d stands)

-- it is the same step, wherever the driver was
pub ends_as : {K : Type 0} (tells : K → StoreView) (P : DriverInput → Driver → Run → Type 0) (step step' : DriverInput → Driver → Driver) (was after : FleetView K) → ((g : DriverInput) (d : Driver) → IsAtDriver tells g d was → step g d ≡ step' g d) → Ends tells P step was after
    → Ends tells P step' was after
ends_as tells P step step' was after same ends g d stands = subst (λ (x : Driver). P g x after.run) (same g d stands) (ends g d stands)
