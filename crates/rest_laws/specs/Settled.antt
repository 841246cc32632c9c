-- Drivers that are settled (own): no turn changes them any more.
use Rattle.std.specs.Prelude.{◌≡◌, ℕ, ◌<◌, length}
use Rattle.driver_model.specs.Driver.{Driver, DriverInput, state_at, without_old_flights}
use Rattle.driver_model.specs.Turning.{turn}

-- no frame on its way is of an older epoch, or of one that its end has closed: no turn drops one
abbrev pub HasNoneOld : DriverInput → Driver → Type 0
HasNoneOld g d = (r : ℕ) → r < length g.repos → without_old_flights (state_at g d r) r d ≡ d

-- a turn of each repository leaves the driver as it is: none drops a frame, and none makes an entry
abbrev pub IsSettled : DriverInput → Driver → Type 0
IsSettled g d = (r : ℕ) → r < length g.repos → turn g r d ≡ d
