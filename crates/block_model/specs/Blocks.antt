-- Blocks: the entries that repositories make side by side by their agendas (own).
use Rattle.std.specs.Prelude.{◌≡◌, ℕ, ◌<◌, false, ◌==◌, List, ◌++◌, filter, length}
use Rattle.annex_base.specs.Lists.{Each}
use Rattle.run_data.specs.declared.entry.Entry.{Entry}
use Rattle.run_model.specs.Past.{begun_count, is_of}
use Rattle.driver_model.specs.Driver.{Driver, DriverInput, FailLine, set_up_of, state_at}
use Rattle.script_commands.specs.declared.command.Agendum.{Agendum}
use Rattle.script_commands.specs.declared.command.BlockLine.{BlockLine}
use Rattle.driver_model.specs.Rounds.{lines_for, numbers}
use Rattle.block_model.specs.Doings.{Doing, DoesSo, can_go_on, entries_of, fails_taken, lines_taken}
use Rattle.block_model.specs.Following.{MayAllFollow, after_entries, without_old_of}
use Rattle.block_model.specs.Rest.{AreAllAtRest}

-- the driver with these `fail` lines
abbrev pub with_fails : List FailLine → Driver → Driver
with_fails xs d = record d { fails = d.fails ++ xs }

-- The driver that these entries leave, with these `fail` lines: contents, parts and calls still to fail are as they leave them, and on their
-- way are the frames that were sent and not taken, but for those that no end takes any more.
abbrev pub left_after : DriverInput → List Entry → List FailLine → Driver → Driver
left_after g es fails d = without_old_of g (numbers g) (after_entries g es (with_fails fails d))

-- what a repository has done of its agenda, and what is left of it
pub record HasDone (g : DriverInput) (xs : List Agendum) (d after : Driver) (es : List Entry) (fails : List FailLine) (r : ℕ) : Type 0 where
  pub doings : List Doing
  pub left : List BlockLine
  pub agenda_is : lines_for r xs ≡ lines_taken doings ++ left
  pub entries_are : filter (is_of r) es ≡ entries_of doings
  pub fails_are : filter (λ x. x.repo == r) fails ≡ fails_taken r doings
  pub so : DoesSo (set_up_of g after r) (begun_count d.past r) (filter (is_of r) d.past) doings

-- A block has come so far with these entries: each may follow those before it, also by the `fail` lines that were taken; and each
-- repository has done a start of its agenda, in order, and has made steps beside it.
pub record HasBegun (g : DriverInput) (xs : List Agendum) (d after : Driver) : Type 0 where
  pub entries : List Entry
  pub fails : List FailLine
  pub known : Each (λ x. x.repo < length g.repos) fails
  pub follow : MayAllFollow g (with_fails fails d) entries
  pub after_is : after ≡ left_after g entries fails d
  pub does : (r : ℕ) → r < length g.repos → HasDone g xs d after entries fails r

-- A block leads from one driver to another: it is over where no repository can take its next line, and none has a step with all
-- frames at hand.
pub record IsBlock (g : DriverInput) (xs : List Agendum) (d after : Driver) : Type 0 where
  pub begun : HasBegun g xs d after
  pub done : (r : ℕ) (known : r < length g.repos) → can_go_on (begun_count d.past r) (state_at g after r) (begun.does r known).left ≡ false
  pub rest : AreAllAtRest g after
