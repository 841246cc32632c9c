-- Blocks by the histories that repositories kept alone, merged in order of time, count and number (own).
use Rattle.std.specs.Prelude.{◌≡◌, ◌⊎◌, ℕ, ◌<◌, true, ◌==◌, List, [], ◌∷◌, ◌++◌, filter, length, Some}
use Rattle.annex_base.specs.declared.kinds.Call.{Call}
use Rattle.run_data.specs.declared.entry.By.{By}
use Rattle.run_data.specs.declared.entry.Entry.{Entry}
use Rattle.run_data.specs.declared.entry.EntryKind.TheVariants.{End, Fault}
use Rattle.run_data.specs.declared.job.Outcome.{Outcome}
use Rattle.node_model.specs.Look.{Look, Effect, entry_of}
use Rattle.node_model.specs.Step.{step}
use Rattle.run_model.specs.Past.{begun_count, is_of}
use Rattle.run_model.specs.Run.{repo_number, set_up}
use Rattle.run_model.specs.Words.{word_told}
use Rattle.run_model.specs.Frames.{Way, taken_count}
use Rattle.node_model.specs.Ends.{EndName}
use Rattle.growth_laws.specs.Merged.{Letter, merged_run, new_of}
use Rattle.driver_model.specs.Driver.{Driver, DriverInput, FailLine, fails_at, set_up_of, state_at}
use Rattle.driver_model.specs.Driving.{run_with}
use Rattle.script_commands.specs.declared.command.Agendum.{Agendum}
use Rattle.script_commands.specs.declared.command.BlockLine.{BlockLine}
use Rattle.driver_model.specs.Rounds.{lines_for}
use Rattle.driver_model.specs.Turning.{asked_key, part_right, part_size}
use Rattle.driver_model.specs.Ways.{way_out}
use Rattle.block_model.specs.Alone.{AreOwnDeeds, CameWhole, alone, bytes_flying, pieces_sent}
use Rattle.block_model.specs.Blocks.{with_fails}
use Rattle.block_model.specs.Doings.{Doing, DoesSo, entries_of, fails_taken, lines_taken}
use Rattle.block_model.specs.Following.{IsOfLine, after_entry}

-- ---- what the stores say of the merged entries

-- the entry is a step of r, whose part is that of the driver, and whose words at a job's end are those that the senders found
pub record IsToldStep (g : DriverInput) (d : Driver) (r : ℕ) (e : Entry) : Type 0 where
  pub look : Look
  pub made : Effect
  pub makes : step (set_up_of g d r) (state_at g d r) look ≡ Some made
  pub is : e ≡ entry_of r look made
  pub part_is : look.part ≡ part_size d r (asked_key (state_at g d r) made)
  pub right_is : look.right ≡ part_right g d r (asked_key (state_at g d r) made)
  pub tells : (j : ℕ) (outcome : Outcome) → e.kind ≡ End j outcome → (c : ℕ) → look.words c ≡ word_told d.past r j c

-- it is a step so, or of a line; and a fault answers a `fail` line that waits
pub record IsServed (g : DriverInput) (d : Driver) (e : Entry) : Type 0 where
  pub r : ℕ
  pub repo_is : e.repo ≡ Some r
  pub known : r < length g.repos
  pub does : IsToldStep g d r e ⊎ IsOfLine g d r e
  pub answers : (call : Call) (by : By) → e.kind ≡ Fault call by → fails_at d r call ≡ true

-- so is each of them, behind those before it
abbrev pub AreAllServed : DriverInput → Driver → List Entry → Type 0
AreAllServed g d [] = Unit {0}
AreAllServed g d (e ∷ es) = IsServed g d e × AreAllServed g (after_entry g (repo_number e.repo) e d) es

-- ---- what each repository has done

-- its new entries are what it made by a start of its agenda, and its steps
pub record HasWorked (g : DriverInput) (xs : List Agendum) (d : Driver) (news : List (List Entry)) (fails : List FailLine) (r : ℕ) : Type 0 where
  pub doings : List Doing
  pub left : List BlockLine
  pub agenda_is : lines_for r xs ≡ lines_taken doings ++ left
  pub entries_are : new_of news r ≡ entries_of doings
  pub fails_are : filter (λ x. x.repo == r) fails ≡ fails_taken r doings
  pub so : DoesSo (set_up (merged_run (run_with g d) news) r) (begun_count d.past r) (filter (is_of r) d.past) doings

-- And it keeps alone that its store serves them: with the letters and the pieces that came to it, from what it had before the block and
-- the `fail` lines that it takes.
pub record WorksAlone (g : DriverInput) (xs : List Agendum) (d : Driver) (news : List (List Entry)) (got : ℕ → Way → List Letter) (pieces : ℕ → Way → List (List ℕ)) (fails : List FailLine) (r : ℕ) : Type 0 where
  pub worked : HasWorked g xs d news fails r
  pub deeds : AreOwnDeeds g (set_up (merged_run (run_with g d) news) r) (got r) (pieces r) (alone (with_fails fails d) r) (new_of news r)

-- what came to the end of a peer is what q had in flight to it and sent since
abbrev pub CameFrom : DriverInput → Driver → List (List Entry) → (ℕ → Way → List (List ℕ)) → List FailLine → ℕ → EndName → ℕ → Type 0
CameFrom g d news pieces fails q a n =
    let w = way_out q a n in
    CameWhole (taken_count d.past w) (pieces a.peer w) (bytes_flying q a n d.flights)
    (pieces_sent (set_up (merged_run (run_with g d) news) q) (pieces q) w (new_of news q) (alone (with_fails fails d) q))
