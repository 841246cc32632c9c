-- The run of a script, with at most 100,000 entries a repository (own): it ends where a line meets a full history.
use Rattle.std.specs.Prelude.{◌≡◌, ℕ, ◌<◌, ◌≤◌, Bool, true, false, ◌||◌, if◌then◌else◌, nat_le, nat_lt, List, [], ◌∷◌, ◌++◌, filter, length, reverse, Option, Some, None}
use Rattle.std.specs.List.{list_any}
use Rattle.annex_base.specs.Lists.{Each, Member}
use Rattle.run_data.specs.Histories.{most_entries}
use Rattle.run_data.specs.declared.entry.Entry.{Entry}
use Rattle.run_data.specs.declared.run.Run.{Run}
use Rattle.run_model.specs.Past.{is_of}
use Rattle.run_model.specs.Run.{IsRun}
use Rattle.driver_model.specs.Driver.{Driver, DriverInput, at_first}
use Rattle.driver_model.specs.Driving.{does, run_with, with_mark}
use Rattle.script_commands.specs.declared.command.Action.TheVariants.{Have, SetPart, Add, File, Close}
use Rattle.script_commands.specs.declared.command.BlockLine.TheVariants.{Closes}
use Rattle.script_commands.specs.declared.command.Command.{Command}
use Rattle.script_commands.specs.declared.command.Command.TheVariants.{Does, Par}
use Rattle.driver_model.specs.Rounds.{block_end, is_stuck, numbers}
use Rattle.driver_model.specs.ScriptSteps.{lacks_places}

-- ---- full histories

-- how many entries a repository has made
abbrev pub count_of : List Entry → ℕ → ℕ
count_of past r = length (filter (is_of r) past)

-- some repository has made more than it may
abbrev pub is_too_long : DriverInput → List Entry → Bool
is_too_long g past = list_any (λ r. nat_lt most_entries (count_of past r)) (numbers g)

-- the past as far as none has
abbrev pub within_limit : DriverInput → List Entry → List Entry
within_limit g [] = []
within_limit g (e ∷ past) = if is_too_long g (e ∷ past) then within_limit g past else e ∷ past

-- ---- lines that meet one

-- The repository whose store a line asks first: this waits for room in the history, in which it would be told that the store failed.
abbrev pub asks_first : Command → Option ℕ
asks_first (Does (Have r key bytes)) = Some r
asks_first (Does (SetPart r key bytes)) = Some r
asks_first (Does (Add r path key bytes)) = Some r
asks_first line = None

abbrev pub is_full : List Entry → Option ℕ → Bool
is_full past None = false
is_full past (Some r) = nat_le most_entries (count_of past r)

-- the line is a close that lacks places, which then closes no end, or a block that comes to one, and ends there
abbrev pub lacks_at : DriverInput → Command → Driver → Bool
lacks_at g (Does (Close r other)) d = lacks_places d.past r other
lacks_at g (Par lines) d = is_stuck (block_end g lines d).driver (block_end g lines d).left
lacks_at g line d = false

-- the line asks the store of a repository whose history is full, or would make an entry too many, or comes to a close that lacks places
abbrev pub meets_limit : DriverInput → Command → Driver → Bool
meets_limit g line d = is_full d.past (asks_first line) || (is_too_long g (does g line d).past || lacks_at g line d)

-- The run then: the line's entries up to there, and the marks of the lines before it. A path that the line gave a key has it, since this
-- is done before a store is asked.
abbrev pub run_to_limit : DriverInput → Command → Driver → Run
run_to_limit g line d = record (run_with g (does g line d)) { entries = reverse (within_limit g (does g line d).past) }

-- the line is this close, or has it in its block
abbrev pub HasClose : Command → ℕ → ℕ → Type 0
HasClose (Does (Close r other)) q peer = (q ≡ r) × (peer ≡ other)
HasClose (Par lines) q peer = Member (record { repo = q; line = Closes peer }) lines
HasClose line q peer = ⊥

-- After these entries one of the lines comes to a close of more ends than there are places left in the history of its repository.
pub record LacksPlaces (g : DriverInput) (lines : List Command) (past : List Entry) : Type 0 where
  pub line : Command
  pub among : Member line lines
  pub repo : ℕ
  pub other : ℕ
  pub closes : HasClose line repo other
  pub known : repo < length g.repos
  pub lacks : lacks_places past repo other ≡ true

-- in which some repository has made all entries that it may
abbrev pub HasFull : DriverInput → List Entry → Type 0
HasFull g past = (r : ℕ) × (r < length g.repos) × (count_of past r ≡ most_entries)

-- ---- scripts

-- the run of a script, and whether it ended where a line met a full history
pub record LimitedRun : Type 0 where
  pub run : Run
  pub is_cut : Bool

abbrev pub drives_to_limit : DriverInput → List Command → Driver → LimitedRun
drives_to_limit g [] d = record { run = run_with g d; is_cut = false }
drives_to_limit g (line ∷ lines) d =
    if meets_limit g line d then record { run = run_to_limit g line d; is_cut = true } else drives_to_limit g lines (with_mark (does g line d))

abbrev pub limited_run : DriverInput → List Command → LimitedRun
limited_run g lines = drives_to_limit g lines at_first

-- the driver after the line that ends the run so, or after all lines
abbrev pub drives_until_cut : DriverInput → List Command → Driver → Driver
drives_until_cut g [] d = d
drives_until_cut g (line ∷ lines) d = if meets_limit g line d then does g line d else drives_until_cut g lines (with_mark (does g line d))

abbrev pub driver_at_cut : DriverInput → List Command → Driver
driver_at_cut g lines = drives_until_cut g lines at_first

-- ---- steps that meet a full history

-- A step leads from the one driver to the other by entries of r, in front of its past.
pub record AddsOwn (r : ℕ) (d after : Driver) : Type 0 where
  pub more : List Entry
  pub adds : after.past ≡ more ++ d.past
  pub own : Each (λ e. is_of r e ≡ true) more

-- A step of the driver that ends there comes to an entry of r, whose history is full by then: the run has all entries before that
-- one. No other repository has made more entries than it may, and those that the run has are one.
pub record StopsAtFull (g : DriverInput) (r : ℕ) (after : Driver) (run : Run) : Type 0 where
  pub known : r < length g.repos
  pub past : List Entry
  pub entries : run.entries ≡ reverse past
  pub lawful : IsRun run
  pub full : count_of past r ≡ most_entries
  pub few : (q : ℕ) → count_of past q ≤ most_entries
  pub more : List Entry
  pub next : Entry
  pub own : is_of r next ≡ true
  pub goes_on : after.past ≡ more ++ next ∷ past

-- ---- lines that change the tree

-- the line names a path: no other changes the tree
abbrev pub names_path : Command → Bool
names_path (Does (Add r path key bytes)) = true
names_path (Does (File path key)) = true
names_path line = false
