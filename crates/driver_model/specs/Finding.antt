-- What a turn of the driver finds and leaves, told from the step that the repository makes (own).
use Rattle.std.specs.Prelude.{◌≡◌, ℕ, ◌+◌, Some, find}
use Rattle.node_model.specs.Ends.{EndName}
use Rattle.node_model.specs.Look.{Look, Effect, entry_of, failed_in}
use Rattle.node_model.specs.SetUp.{SetUp}
use Rattle.node_model.specs.State.{State}
use Rattle.node_model.specs.Step.{step}
use Rattle.run_model.specs.Past.{now}
use Rattle.driver_model.specs.Driver.{Driver, DriverInput, adds, fails_at, frames_to, has_room, newest_count, set_up_of, state_at, without_old_flights}
use Rattle.driver_model.specs.Turning.{asked_key, at_hand, bytes_taken, part_right, part_size, plain_look, store_after, told_words}
use Rattle.driver_model.specs.WordsRead.{AgreeWhereRead}

-- the driver as a turn of r finds it
abbrev pub driver_at_turn : DriverInput → ℕ → Driver → Driver
driver_at_turn g r d = without_old_flights (state_at g d r) r d

-- The look is the driver's for this step: the time, the count, the frames at hand and the rooms are the driver's; the part is the
-- one that the step asks for, with whether it matches its key; the words agree with those told to the job that the step ends, where
-- that end reads them; and the call fails that the step tells as failed.
pub record IsLookFor (g : DriverInput) (d : Driver) (r : ℕ) (s : SetUp) (st : State) (m : Effect) (k : Look) : Type 0 where
  pub time_is : k.time ≡ now d.past
  pub count_is : k.count ≡ newest_count d.past + 1
  pub hand_is : k.at_hand ≡ at_hand s (frames_to r d.flights)
  pub room_is : (a : EndName) → k.room a ≡ has_room r d.flights a
  pub part_is : k.part ≡ part_size d r (asked_key st m)
  pub right_is : k.right ≡ part_right g d r (asked_key st m)
  pub words_are : AgreeWhereRead s st m k.words (told_words d.past r m.kind)
  pub fails_is : k.fails ≡ failed_in m.kind

-- r makes this step at the driver's look for it, and the call that fails in it is the first of its calls that is to fail
pub record MakesStep (g : DriverInput) (r : ℕ) (d : Driver) (m : Effect) : Type 0 where
  pub look : Look
  pub is_look : IsLookFor g (driver_at_turn g r d) r (set_up_of g d r) (state_at g d r) m look
  pub steps : step (set_up_of g d r) (state_at g d r) look ≡ Some m
  pub fails : failed_in m.kind ≡ find (fails_at (driver_at_turn g r d) r) m.calls

-- the driver after this step of r: its entry stands, its frames are taken and sent, and the store is as it leaves it
abbrev pub after_step : DriverInput → ℕ → Driver → Effect → Driver
after_step g r d m =
    store_after (state_at g d r) r m (bytes_taken r m.taken (driver_at_turn g r d)) m.kind
    (adds (state_at g d r) r (entry_of r (plain_look (set_up_of g d r) (driver_at_turn g r d)) m) (driver_at_turn g r d))
