-- The runs that a script may have where its blocks are made side by side (own).
use Rattle.std.specs.Prelude.{false, ◌≡◌, List, [], ◌∷◌}
use Rattle.run_data.specs.declared.run.Run.{Run}
use Rattle.driver_model.specs.Driver.{Driver, DriverInput, at_first}
use Rattle.driver_model.specs.Driving.{does, run_with, with_mark}
use Rattle.script_commands.specs.declared.command.Agendum.{Agendum}
use Rattle.script_commands.specs.declared.command.Command.{Command}
use Rattle.script_commands.specs.declared.command.Command.TheVariants.{Par}
use Rattle.driver_model.specs.Rounds.{block_end, is_stuck, settles}
use Rattle.block_model.specs.Blocks.{IsBlock}

-- a line leads from one driver to another: a block in any way that it may go, and then the driver settles; any other as the driver does it
abbrev pub LineLeads : DriverInput → Command → Driver → Driver → Type 0
LineLeads g (Par xs) d after = (mid : Driver) × IsBlock g xs d mid × (after ≡ settles g mid)
LineLeads g line d after = after ≡ does g line d

-- so do lines, one after the other; each is marked as it is done
abbrev pub LinesLead : DriverInput → List Command → Driver → Driver → Type 0
LinesLead g [] d after = after ≡ d
LinesLead g (line ∷ lines) d after = (mid : Driver) × LineLeads g line d mid × LinesLead g lines (with_mark mid) after

-- the run is one of the script's
pub record IsRunOf (g : DriverInput) (lines : List Command) (run : Run) : Type 0 where
  pub driver : Driver
  pub leads : LinesLead g lines at_first driver
  pub is : run ≡ run_with g driver

-- ---- the sequential driver

-- the driver's block, before it settles
abbrev pub block_of : DriverInput → List Agendum → Driver → Driver
block_of g xs d = (block_end g xs d).driver

-- no close in the driver's block lacks places
abbrev pub HasPlaces : DriverInput → Command → Driver → Type 0
HasPlaces g (Par xs) d = is_stuck (block_of g xs d) (block_end g xs d).left ≡ false
HasPlaces g line d = Unit {0}

-- nor in any block of these lines
abbrev pub HavePlaces : DriverInput → List Command → Driver → Type 0
HavePlaces g [] d = Unit {0}
HavePlaces g (line ∷ lines) d = HasPlaces g line d × HavePlaces g lines (with_mark (does g line d))

-- the line is no block
abbrev pub IsSingle : Command → Type 0
IsSingle (Par xs) = ⊥
IsSingle line = Unit {0}
