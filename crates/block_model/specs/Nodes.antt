-- What the nodes of a block keep, each by its own paths, its time and its count, and each two of what came (own).
use Rattle.std.specs.Prelude.{◌≡◌, ℕ, ◌<◌, ◌≤◌, false, ◌==◌, List, ◌++◌, filter, length, reverse}
use Rattle.annex_base.specs.Lists.{Each}
use Rattle.run_data.specs.declared.entry.Entry.{Entry}
use Rattle.node_model.specs.Ends.{EndName}
use Rattle.node_model.specs.SetUp.{SetUp}
use Rattle.run_model.specs.Frames.{Way, sender_of, taken_count, taker_of}
use Rattle.run_model.specs.Past.{begun_count, is_of}
use Rattle.growth_laws.specs.Merged.{AreFirstLetters, Letter, NodeKeeps, history, last_count, merge_all, new_of}
use Rattle.driver_model.specs.Driver.{Driver, DriverInput, FailLine, state_at}
use Rattle.driver_model.specs.Driving.{run_with}
use Rattle.script_commands.specs.declared.command.Agendum.{Agendum}
use Rattle.script_commands.specs.declared.command.BlockLine.{BlockLine}
use Rattle.driver_model.specs.Rounds.{lines_for}
use Rattle.driver_model.specs.Ways.{way_out}
use Rattle.block_model.specs.Alone.{AreOwnDeeds, CameWhole, alone, bytes_flying, pieces_sent}
use Rattle.block_model.specs.Blocks.{left_after, with_fails}
use Rattle.block_model.specs.Doings.{Doing, DoesSo, can_go_on, entries_of, fails_taken, lines_taken}
use Rattle.block_model.specs.Rest.{AreAllAtRest}

-- the set-up of a node, with the paths that its jobs were given
abbrev pub set_up_by : DriverInput → (ℕ → ℕ → List (List ℕ)) → ℕ → SetUp
set_up_by g paths r = record { number = r; repos = g.repos; paths = paths r }

-- The node of r keeps its history, from the count that it was handed out with; its new entries are what it made by a start of its
-- agenda, and its steps; and its store serves them.
pub record NodeWorks (g : DriverInput) (xs : List Agendum) (d : Driver) (news : List (List Entry)) (c : ℕ) (paths : ℕ → ℕ → List (List ℕ)) (got : ℕ → Way → List Letter) (pieces : ℕ → Way → List (List ℕ)) (fails : List FailLine) (r : ℕ) : Type 0 where
  pub keeps : NodeKeeps (run_with g d) news r c (paths r) (got r)
  pub doings : List Doing
  pub left : List BlockLine
  pub agenda_is : lines_for r xs ≡ lines_taken doings ++ left
  pub entries_are : new_of news r ≡ entries_of doings
  pub fails_are : filter (λ x. x.repo == r) fails ≡ fails_taken r doings
  pub so : DoesSo (set_up_by g paths r) (begun_count d.past r) (filter (is_of r) d.past) doings
  pub deeds : AreOwnDeeds g (set_up_by g paths r) (got r) (pieces r) (alone (with_fails fails d) r) (new_of news r)

-- Of each two nodes: the letters that came are the first of those that the other sent, and so are the pieces.
pub record NodesMeet (g : DriverInput) (d : Driver) (news : List (List Entry)) (paths : ℕ → ℕ → List (List ℕ)) (got : ℕ → Way → List Letter) (pieces : ℕ → Way → List (List ℕ)) (fails : List FailLine) : Type 0 where
  pub letters : (r q : ℕ) (w : Way) → r < length g.repos → taker_of w ≡ r → sender_of w ≡ q → AreFirstLetters (got r w) (history (run_with g d) news q) w
  pub whole : (q : ℕ) (a : EndName) (n : ℕ) → CameWhole (taken_count d.past (way_out q a n)) (pieces a.peer (way_out q a n)) (bytes_flying q a n d.flights)
      (pieces_sent (set_up_by g paths q) (pieces q) (way_out q a n) (new_of news q) (alone (with_fails fails d) q))

-- What the nodes of a block are to give back. No mark of the tree is past the end of the run before, and none has a count below that
-- with which it was handed out.
pub record NodesHaveWorked (g : DriverInput) (xs : List Agendum) (d : Driver) (news : List (List Entry)) (c : ℕ) (paths : ℕ → ℕ → List (List ℕ)) (got : ℕ → Way → List Letter) (pieces : ℕ → Way → List (List ℕ)) (fails : List FailLine) : Type 0 where
  pub marked : Each (λ m. m.place ≤ length (reverse d.past)) d.tree
  pub number : length news ≤ length g.repos
  pub count : last_count 0 (reverse (reverse d.past)) ≤ c
  pub asked : Each (λ x. x.repo < length g.repos) fails
  pub each : (r : ℕ) → r < length g.repos → NodeWorks g xs d news c paths got pieces fails r
  pub meet : NodesMeet g d news paths got pieces fails

-- and the block is over
pub record NodesAreDone (g : DriverInput) (xs : List Agendum) (d : Driver) (news : List (List Entry)) (c : ℕ) (paths : ℕ → ℕ → List (List ℕ)) (got : ℕ → Way → List Letter) (pieces : ℕ → Way → List (List ℕ)) (fails : List FailLine)
    (worked : NodesHaveWorked g xs d news c paths got pieces fails) : Type 0 where
  pub done : (r : ℕ) (known : r < length g.repos) → can_go_on (begun_count d.past r) (state_at g (left_after g (merge_all news) fails d) r) (worked.each r known).left ≡ false
  pub rest : AreAllAtRest g (left_after g (merge_all news) fails d)
