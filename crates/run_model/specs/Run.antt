-- Runs of several repositories: the order of entries, what each does by its own past, and how frames go between them.
use Rattle.run_model.specs.States.{state_of}
use Rattle.std.specs.Prelude.{◌≡◌, ◌⊎◌, ℕ, ◌+◌, ◌<◌, ◌≤◌, ◌^◌, if◌then◌else◌, ◌==◌, nat_le, List, [], ◌∷◌, length, reverse, Option, Some, None, true}
use Rattle.std.specs.List.{fold}
use Rattle.annex_base.specs.Lists.{Each}
use Rattle.annex_base.specs.declared.kinds.Word.{Word}
use Rattle.annex_key.specs.Tree.{Entries, paths_of, with_key}
use Rattle.run_data.specs.declared.entry.Entry.{Entry}
use Rattle.run_data.specs.declared.entry.EntryKind.{EntryKind}
use Rattle.run_data.specs.declared.entry.EntryKind.TheVariants.{Begin, Gain, Crash, Wait, End}
use Rattle.run_data.specs.declared.entry.FrameView.{FrameView}
use Rattle.run_data.specs.declared.job.Outcome.{Outcome}
use Rattle.run_data.specs.declared.run.Run.{Run}
use Rattle.run_data.specs.declared.run.TreeMark.{TreeMark}
use Rattle.run_model.specs.Past.{Always, is_of, now}
use Rattle.run_data.specs.Repos.{IsSetUp}
use Rattle.node_model.specs.SetUp.{SetUp}
use Rattle.node_model.specs.Look.{Look, Effect, entry_of}
use Rattle.node_model.specs.Step.{step}
use Rattle.node_model.specs.AnyTime.{MayCome}
use Rattle.run_model.specs.Frames.{MayTake, way_of}
use Rattle.run_model.specs.Words.{word_told}

-- ---- set-ups

-- the tree after so many entries
abbrev pub tree_at : List TreeMark → ℕ → Entries
tree_at marks place = fold (λ tree m. if nat_le m.place place then with_key tree m.path m.key else tree) [] marks

-- the paths of a key as job j begins
abbrev pub paths_begun : List TreeMark → ℕ → ℕ → List (List ℕ) → EntryKind → List (List ℕ)
paths_begun marks place j was (Begin job what) = if job == j then paths_of (tree_at marks place) what.key else was
paths_begun marks place j was kind = was

abbrev pub paths_at : List TreeMark → List Entry → ℕ → ℕ → List (List ℕ)
paths_at marks [] r j = []
paths_at marks (e ∷ past) r j = if is_of r e then paths_begun marks (length past) j (paths_at marks past r j) e.kind else paths_at marks past r j

-- the paths that the key of job j of r had in the tree as the job began
abbrev pub job_paths : Run → ℕ → ℕ → List (List ℕ)
job_paths run r j = paths_at run.tree (reverse run.entries) r j

abbrev pub set_up : Run → ℕ → SetUp
set_up run r = record { number = r; repos = run.repos; paths = job_paths run r }

-- ---- order and bounds

-- the number of an entry's repository; a wait has none
abbrev pub repo_number : Option ℕ → ℕ
repo_number None = 0
repo_number (Some r) = r

-- after the newest entry, by time, then by count and then by number
abbrev pub ComesAfter : List Entry → Entry → Type 0
ComesAfter [] e = Unit {0}
ComesAfter (f ∷ past) e = (f.time < e.time) ⊎ ((f.count < e.count) ⊎ ((f.count ≡ e.count) × (repo_number f.repo < repo_number e.repo)))

abbrev pub TimeIs : ℕ → Entry → EntryKind → Option ℕ → Type 0
TimeIs before e (Wait ms) None = e.time ≡ before + ms
TimeIs before e kind (Some r) = e.time ≡ before
TimeIs before e kind None = ⊥

abbrev pub IsSmall : EntryKind → Type 0
IsSmall (Gain by size key) = size < 2 ^ 62
IsSmall (Crash clock) = clock ≤ 100000000000
IsSmall kind = Unit {0}

pub record ComesInOrder (past : List Entry) (e : Entry) : Type 0 where
  pub after : ComesAfter past e
  pub time_is : TimeIs (now past) e e.kind e.repo
  pub in_time : e.time ≤ 1000000000000
  pub counted : e.count < 2 ^ 62
  pub small : IsSmall e.kind

-- ---- a repository's own part

-- the entry is the step of the repository, where it finds this
pub record IsStep (s : SetUp) (past : List Entry) (words : ℕ → Option Word) (e : Entry) : Type 0 where
  pub look : Look
  pub made : Effect
  pub makes : step s (state_of s past) look ≡ Some made
  pub is : e ≡ entry_of s.number look made
  pub words_are : look.words ≡ words
  pub part_small : look.part < 2 ^ 62

-- or one that may come at any point
pub record ComesAnyTime (s : SetUp) (past : List Entry) (e : Entry) : Type 0 where
  pub may : MayCome s (state_of s past) e.lines e.sent e.kind
  pub takes_none : e.taken ≡ None

-- what the repository does by its own past
pub record OwnPart (s : SetUp) (past : List Entry) (words : ℕ → Option Word) (e : Entry) : Type 0 where
  pub known : s.number < length s.repos
  pub does : IsStep s past words e ⊎ ComesAnyTime s past e

-- each entry of the repository is its own part after those before it
abbrev pub OwnRun : SetUp → List Entry → Type 0
OwnRun s [] = Unit {0}
OwnRun s (e ∷ past) = (is_of s.number e ≡ true → (words : ℕ → Option Word) × OwnPart s past words e) × OwnRun s past

-- the bounds of an entry
pub record IsBounded (e : Entry) : Type 0 where
  pub in_time : e.time ≤ 1000000000000
  pub small : IsSmall e.kind

-- what a repository's own part stands on: the set-up, and its own entries so far, within bounds
pub record OwnPast (s : SetUp) (past : List Entry) : Type 0 where
  pub repos : Each IsSetUp s.repos
  pub run : OwnRun s past
  pub bounds : Always (λ p x. IsBounded x) past

-- a wait has nothing but its time
pub record OnlyWaits (e : Entry) : Type 0 where
  pub takes_none : e.taken ≡ None
  pub sends_none : e.sent ≡ []
  pub no_lines : e.lines ≡ []

-- ---- frames between repositories

-- what it takes was sent, and the words beside what a job took are those of its senders
pub record FramesPart (past : List Entry) (r : ℕ) (words : ℕ → Option Word) (e : Entry) : Type 0 where
  pub takes : (f : FrameView) → e.taken ≡ Some f → MayTake past (way_of r f) f
  pub tells : (j : ℕ) (outcome : Outcome) → e.kind ≡ End j outcome → (c : ℕ) → words c ≡ word_told past r j c

-- ---- runs

abbrev pub MayBe : (ℕ → SetUp) → List Entry → Entry → Option ℕ → Type 0
MayBe s past e None = OnlyWaits e
MayBe s past e (Some r) = (words : ℕ → Option Word) × OwnPart (s r) past words e × FramesPart past r words e

pub record RunStep (s : ℕ → SetUp) (past : List Entry) (e : Entry) : Type 0 where
  pub order : ComesInOrder past e
  pub may : MayBe s past e e.repo

-- each entry may come after those before it
abbrev pub RunPast : (ℕ → SetUp) → List Entry → Type 0
RunPast s [] = Unit {0}
RunPast s (e ∷ past) = RunStep s past e × RunPast s past

pub record IsRun (run : Run) : Type 0 where
  pub repos : Each IsSetUp run.repos
  pub steps : RunPast (set_up run) (reverse run.entries)
