-- Rounds of turns, one behind the other (own).
use Rattle.std.specs.Prelude.{ℕ, zero, suc, ◌*◌}
use Rattle.driver_model.specs.Driver.{Driver, DriverInput}
use Rattle.driver_model.specs.Rounds.{AfterRounds, goes_round}

-- so many rounds, until it is settled
abbrev pub goes_rounds : DriverInput → ℕ → AfterRounds → AfterRounds
goes_rounds g zero x = x
goes_rounds g (suc n) x = goes_round g (goes_rounds g n x)

-- before the first round
abbrev pub before_rounds : Driver → AfterRounds
before_rounds d = record { driver = d; idle = 0 }

-- two to this power
abbrev pub power : ℕ → ℕ
power zero = 1
power (suc n) = 2 * power n
