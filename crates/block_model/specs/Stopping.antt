-- The runs that a script may have where a line comes to a full history (own): each repository makes at most 100,000 entries.
use Rattle.std.specs.Prelude.{◌≡◌, ◌⊎◌, ℕ, ◌+◌, ◌<◌, true, false, List, [], ◌∷◌, length, reverse}
use Rattle.run_data.specs.Histories.{most_entries}
use Rattle.run_data.specs.declared.run.Run.{Run}
use Rattle.node_model.specs.State.{State}
use Rattle.driver_model.specs.Driver.{Driver, DriverInput, at_first, state_at}
use Rattle.driver_model.specs.Driving.{does, run_with, with_mark}
use Rattle.driver_model.specs.Limits.{count_of, is_too_long, meets_limit, within_limit}
use Rattle.script_commands.specs.declared.command.Agendum.{Agendum}
use Rattle.script_commands.specs.declared.command.BlockLine.{BlockLine}
use Rattle.script_commands.specs.declared.command.BlockLine.TheVariants.{Closes}
use Rattle.script_commands.specs.declared.command.Command.{Command}
use Rattle.script_commands.specs.declared.command.Command.TheVariants.{Par}
use Rattle.driver_model.specs.Rounds.{settles}
use Rattle.block_model.specs.Blocks.{HasBegun, IsBlock}
use Rattle.block_model.specs.Doings.{open_ends}
use Rattle.block_model.specs.Leading.{LineLeads}

-- the next line is a close with more ends to close than it has places left
abbrev pub CannotClose : State → List BlockLine → Type 0
CannotClose st (Closes other ∷ lines) = most_entries < st.made + length (open_ends st other)
CannotClose st lines = ⊥

-- A block stops where it has come: each repository has done a start of its agenda and made steps beside it. None has made more entries
-- than it may; and one has made all that it may, or cannot close what it is to close next.
pub record StopsInBlock (g : DriverInput) (xs : List Agendum) (d after : Driver) : Type 0 where
  pub begun : HasBegun g xs d after
  pub few : is_too_long g after.past ≡ false
  pub r : ℕ
  pub known : r < length g.repos
  pub full : (count_of after.past r ≡ most_entries) ⊎ CannotClose (state_at g after r) (begun.does r known).left

-- A line stops on the way to this driver: a block as it has come so far, or in the settling behind it; any other as the driver does it.
abbrev pub LineStops : DriverInput → Command → Driver → Driver → Type 0
LineStops g (Par xs) d after = StopsInBlock g xs d after ⊎ ((mid : Driver) × IsBlock g xs d mid × (after ≡ settles g mid) × (is_too_long g after.past ≡ true))
LineStops g line d after = (after ≡ does g line d) × (meets_limit g line d ≡ true)

-- it comes to no full history
abbrev pub LineFits : DriverInput → Command → Driver → Driver → Type 0
LineFits g (Par xs) d after = LineLeads g (Par xs) d after × (is_too_long g after.past ≡ false)
LineFits g line d after = (after ≡ does g line d) × (meets_limit g line d ≡ false)

-- one of the lines stops, and those before it don't
abbrev pub LinesStop : DriverInput → List Command → Driver → Driver → Type 0
LinesStop g [] d after = ⊥
LinesStop g (line ∷ lines) d after = LineStops g line d after ⊎ ((mid : Driver) × LineFits g line d mid × LinesStop g lines (with_mark mid) after)

-- The run is one of the script's that stops so: it has the entries up to the one that would be too many, and the marks of the lines
-- before the one that stopped.
pub record IsStoppedRunOf (g : DriverInput) (lines : List Command) (run : Run) : Type 0 where
  pub driver : Driver
  pub stops : LinesStop g lines at_first driver
  pub is : run ≡ record (run_with g driver) { entries = reverse (within_limit g driver.past) }
