-- What a repository does of a block by its own history (own): it takes the lines of its agenda in order, and makes steps.
use Rattle.std.specs.Prelude.{◌≡◌, ℕ, ◌+◌, Bool, true, false, not, ◌&&◌, nat_lt, List, [], ◌∷◌, ◌++◌, filter, flat_map, length, map, reverse, Option, None}
use Rattle.std.specs.List.{list_any}
use Rattle.annex_base.specs.declared.kinds.Word.{Word}
use Rattle.run_data.specs.declared.entry.Entry.{Entry}
use Rattle.run_data.specs.declared.entry.EntryKind.TheVariants.{Begin, Close, Crash}
use Rattle.node_model.specs.AnyTime.{close_at, closes_all, ends_with}
use Rattle.node_model.specs.Ends.{EndName}
use Rattle.node_model.specs.Jobs.{Work}
use Rattle.node_model.specs.Look.{Effect}
use Rattle.node_model.specs.SetUp.{SetUp}
use Rattle.node_model.specs.State.{State}
use Rattle.run_model.specs.Run.{IsStep}
use Rattle.run_model.specs.States.{state_of}
use Rattle.driver_model.specs.Driver.{FailLine}
use Rattle.script_commands.specs.declared.command.BlockLine.{BlockLine}
use Rattle.script_commands.specs.declared.command.BlockLine.TheVariants.{Runs, Crashes, Closes, Fails}
use Rattle.block_model.specs.Following.{effect_of}

-- a repository takes the next line of its agenda, and makes these entries by it; or it makes a step
pub data Doing : Type 0 where
  Takes : BlockLine → List Entry → Doing
  Steps : Entry → Doing

abbrev pub made_by : Doing → List Entry
made_by (Takes line es) = es
made_by (Steps e) = e ∷ []

abbrev pub line_of : Doing → List BlockLine
line_of (Takes line es) = line ∷ []
line_of (Steps e) = []

-- the entries of what it does, and the lines that it takes
abbrev pub entries_of : List Doing → List Entry
entries_of ds = flat_map made_by ds

abbrev pub lines_taken : List Doing → List BlockLine
lines_taken ds = flat_map line_of ds

-- ---- what a line makes

-- its ends of connections with another that are open, in order of side, the client's first, and of slot
abbrev pub open_ends : State → ℕ → List EndName
open_ends st other = filter (λ a. (st.ends a).opened) (ends_with other true ++ ends_with other false)

abbrev pub closes_one : SetUp → State → EndName → Effect
closes_one s st a = record { kind = Close a.peer a.slot a.client; taken = None; sent = close_at s st a; lines = []; calls = [] }

-- what the entries of a line are: a job that begins, a crash, or the close of each end that is open with another, in order
abbrev pub made_of_line : SetUp → State → BlockLine → List Effect
made_of_line s st (Runs job) = record { kind = Begin (st.begun + 1) job; taken = None; sent = []; lines = []; calls = [] } ∷ []
made_of_line s st (Crashes clock) = record { kind = Crash clock; taken = None; sent = closes_all s st; lines = []; calls = [] } ∷ []
made_of_line s st (Closes other) = map (closes_one s st) (open_ends st other)
made_of_line s st (Fails call) = []

-- ---- which line it can take

-- A job begins where none runs that began in the block, which are those past this number, and a slot is free.
abbrev pub is_free : ℕ → List Work → Bool
is_free was ws = not (list_any (λ w. nat_lt was w.number) ws) && nat_lt (length ws) 4

-- any other line is taken when it is reached
abbrev pub can_take : ℕ → State → BlockLine → Bool
can_take was st (Runs job) = is_free was st.works
can_take was st line = true

abbrev pub can_go_on : ℕ → State → List BlockLine → Bool
can_go_on was st [] = false
can_go_on was st (line ∷ lines) = can_take was st line

-- ---- what it does

-- From this past, which has the newest entry first, it does all this: each line was one that it could take, and made the entries that
-- it makes; and each other entry was a step for some choice. It had begun so many jobs before the block.
abbrev pub DoesSo : SetUp → ℕ → List Entry → List Doing → Type 0
DoesSo s was past [] = Unit {0}
DoesSo s was past (Takes line es ∷ ds) =
    (can_take was (state_of s past) line ≡ true) × (map effect_of es ≡ made_of_line s (state_of s past) line) × DoesSo s was (reverse es ++ past) ds
DoesSo s was past (Steps e ∷ ds) = ((words : ℕ → Option Word) × IsStep s past words e) × DoesSo s was (e ∷ past) ds

-- the `fail` lines that r takes
abbrev pub fails_in_line : ℕ → BlockLine → List FailLine
fails_in_line r (Fails call) = record { repo = r; call = call } ∷ []
fails_in_line r line = []

abbrev pub fails_taken : ℕ → List Doing → List FailLine
fails_taken r ds = flat_map (fails_in_line r) (lines_taken ds)
