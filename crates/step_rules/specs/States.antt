-- What a judge of a run's entries carries, as data (own).
use Rattle.std.specs.Prelude.{◌≡◌, ◌≢◌, ℕ, ◌<◌, ◌≤◌, ◌^◌, List, [], length, reverse, slice_get, Option, Some, None, option_map}
use Rattle.annex_base.specs.Lists.{Each}
use Rattle.run_data.specs.Repos.{IsSetUp}
use Rattle.run_data.specs.declared.entry.Entry.{Entry}
use Rattle.run_data.specs.declared.entry.EntryKind.{EntryKind}
use Rattle.run_data.specs.declared.entry.EntryKind.TheVariants.{Begin}
use Rattle.run_data.specs.declared.entry.FrameView.{FrameView}
use Rattle.run_data.specs.declared.run.Run.{Run}
use Rattle.run_data.specs.declared.run.TreeMark.{TreeMark}
use Rattle.annex_key.specs.Tree.{paths_of}
use Rattle.node_model.specs.After.{first_state}
use Rattle.node_model.specs.SetUp.{SetUp}
use Rattle.node_model.specs.State.{State}
use Rattle.run_model.specs.Frames.{Way, way_of}
use Rattle.run_model.specs.Run.{IsRun, set_up, tree_at}
use Rattle.step_judging.specs.Carried.{Flight, Judge, first_word, judge_of}
use Rattle.step_judging.specs.Rules.{broken_rule}
use Rattle.step_judging.specs.Verdicts.{verdict}
use Rattle.state_checks.specs.Moments.{moment_of}
use Rattle.state_flights.specs.Flights.{flight_on}
use Rattle.step_state.specs.declared.state.RepoState.{RepoState}
use Rattle.step_rules.specs.Members.{AwaitsBy, IsBounded, IsMemberOf, paths_at}
use Rattle.step_rules.specs.Trees.{IsTreeBefore}
use Rattle.step_rules.specs.declared.member.Member.{Member}
use Rattle.step_rules.specs.declared.run_state.RunState.{RunState}
use Rattle.step_rules.specs.declared.words.Hears.{Hears}
use Rattle.step_rules.specs.declared.wanted.Wanted.{Wanted}
use Rattle.step_rules.specs.declared.wanted.Wanted.TheVariants.{Broken, NoMemory}

-- these data are those that the judge carries
pub record IsJudgeOf (x : RunState) (s : ℕ → SetUp) (j : Judge) : Type 0 where
  pub newest : option_map moment_of j.newest ≡ x.newest
  pub members : (r : ℕ) (m : Member) → slice_get x.members.items r ≡ Some m → IsMemberOf m (s r) (j.states r) (j.words r)
  pub others : (r : ℕ) → length x.members.items ≤ r → j.states r ≡ first_state (s r)
  pub flights : (w : Way) → j.flights w ≡ flight_on x.flights w

-- it is the state of the run after all of its entries, each of which was permitted
pub record IsAfter (x : RunState) (run : Run) : Type 0 where
  pub repos : run.repos ≡ x.repos.now
  pub tree : run.tree ≡ x.trees.marks.now
  pub taken : length run.entries ≡ x.taken
  pub lawful : IsRun run
  pub judge : IsJudgeOf x (set_up run) (judge_of (set_up run) (reverse run.entries))

-- how many entries were taken
abbrev pub taken_by : RunState → ℕ
taken_by x = x.taken

-- it is the state of some run, and its numbers are within bounds
pub record IsCarried (x : RunState) : Type 0 where
  pub many : length x.repos.now < 2 ^ 32
  pub set_up : Each IsSetUp x.repos.now
  pub count : length x.members.items ≡ length x.repos.now
  pub members : Each (IsBounded (length x.repos.now) x.taken) x.members.items
  pub tree : IsTreeBefore x.taken x.trees
  pub run : Run
  pub after : IsAfter x run

-- the state of the repository of this number, if there is one
abbrev pub state_at : List Member → Option ℕ → Option RepoState
state_at members None = None
state_at members (Some r) = option_map (λ m. m.state) (slice_get members r)

abbrev pub repo_at : RunState → ℕ → Option RepoState
repo_at x r = state_at x.members.items (Some r)

abbrev pub paths_in : Option Member → ℕ → List (List ℕ)
paths_in None job = []
paths_in (Some m) job = paths_at m.paths job

-- the paths that are kept for a job of a repository
abbrev pub job_paths_at : RunState → ℕ → ℕ → List (List ℕ)
job_paths_at x r job = paths_in (slice_get x.members.items r) job

-- what is wanted tells the rule that the entry breaks after the run, and the row that it found
abbrev pub TellsOf : Run → Entry → Wanted → Type 0
TellsOf run e (Broken rule found) = verdict (set_up run) (reverse run.entries) e ≡ Some (record { rule = rule; found = found })
TellsOf run e NoMemory = Unit {0}

-- ---- for private contracts

-- the entry may come after the run whose state it is
abbrev pub IsAllowed : RunState → Entry → Type 0
IsAllowed x e = (run : Run) → IsAfter x run → broken_rule (set_up run) (reverse run.entries) e ≡ None

-- these are the paths that the key has whose job an entry of this kind begins, in the tree at this place; for any other kind there are none
abbrev pub HasBegun : List TreeMark → ℕ → EntryKind → List (List ℕ) → Type 0
HasBegun marks place (Begin job what) paths = paths ≡ paths_of (tree_at marks place) what.key
HasBegun marks place kind paths = paths ≡ []

-- it is the word that a job hears which takes this frame by an entry of this kind, if one does
abbrev pub HearsOf : State → (Way → Flight) → ℕ → EntryKind → FrameView → Option Hears → Type 0
HearsOf st flights r kind f None = AwaitsBy st kind f.peer None
HearsOf st flights r kind f (Some h) = AwaitsBy st kind f.peer (Some h.job) × (h.peer ≡ f.peer) × (h.word ≡ first_word (flights (way_of r f)).waiting)

abbrev pub HearsAt : State → (Way → Flight) → ℕ → EntryKind → Option FrameView → Option Hears → Type 0
HearsAt st flights r kind None hears = hears ≡ None
HearsAt st flights r kind (Some f) hears = HearsOf st flights r kind f hears

abbrev pub HearsBy : State → (Way → Flight) → ℕ → Entry → Option Hears → Type 0
HearsBy st flights r e hears = HearsAt st flights r e.kind e.taken hears

-- the one of this number changed so, and the others stay
pub record ChangesMember (r : ℕ) (P : Member → Member → Type 0) (was now : List Member) : Type 0 where
  pub count : length now ≡ length was
  pub here : (m n : Member) → slice_get was r ≡ Some m → slice_get now r ≡ Some n → P m n
  pub others : (q : ℕ) → q ≢ r → slice_get now q ≡ slice_get was q
