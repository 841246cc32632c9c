-- Repositories at rest, by a driver's own look (own): none has a step with all frames at hand.
use Rattle.std.specs.Prelude.{◌≡◌, ℕ, ◌<◌, List, length, None}
use Rattle.run_data.specs.declared.entry.Entry.{Entry}
use Rattle.node_model.specs.Look.{Look}
use Rattle.node_model.specs.SetUp.{SetUp}
use Rattle.node_model.specs.Step.{step}
use Rattle.run_model.specs.States.{state_of}
use Rattle.driver_model.specs.Driver.{Driver, DriverInput, set_up_of}
use Rattle.driver_model.specs.Turning.{plain_look}

-- a repository with this past has no step at this look
abbrev pub HasNoStep : SetUp → List Entry → Look → Type 0
HasNoStep s past k = step s (state_of s past) k ≡ None

-- None has one with all frames that are on their way at hand, where an end has room as its ring of 8 places has it. Where such a driver is
-- sound and no frame is old, the run is at rest (law `settled_drivers_are_at_rest` of `rest_laws`).
abbrev pub AreAllAtRest : DriverInput → Driver → Type 0
AreAllAtRest g d = (r : ℕ) → r < length g.repos → HasNoStep (set_up_of g d r) d.past (plain_look (set_up_of g d r) d)
