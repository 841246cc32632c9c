-- A clock as it was set last, as data (own).
use Rattle.node_model.specs.Clocks.{ClockSet}
use Rattle.step_state.specs.declared.clocks.SetClock.{SetClock}

abbrev pub clock_set : SetClock → ClockSet
clock_set c = record { at = c.at; to = c.to }
