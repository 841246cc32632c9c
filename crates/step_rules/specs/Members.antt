-- One repository of a run as data: its state, the paths of its jobs' keys, and the words that they heard (own).
use Rattle.std.specs.Prelude.{◌≡◌, ℕ, ◌<◌, ◌≤◌, Bool, true, false, ◌&&◌, ◌==◌, if◌then◌else◌, List, [], find, length, Option, Some, None, option_map, unwrap_or}
use Rattle.std.specs.Map.{lookup}
use Rattle.annex_base.specs.Lists.{Member as Among}
use Rattle.annex_base.specs.declared.kinds.Word.{Word}
use Rattle.indexmap.specs.IndexMap.{spare}
use Rattle.run_data.specs.declared.entry.EntryKind.{EntryKind}
use Rattle.run_data.specs.declared.entry.EntryKind.TheVariants.{Begin, Crash, End}
use Rattle.node_model.specs.Jobs.{Work}
use Rattle.node_model.specs.SetUp.{SetUp}
use Rattle.node_model.specs.Slots.{job_of}
use Rattle.node_model.specs.State.{State}
use Rattle.run_model.specs.Words.{awaits_of}
use Rattle.step_state.specs.States.{IsStateOf, IsWell, count_of, made_of}
use Rattle.job_makes.specs.Turns.{word_in}
use Rattle.step_rules.specs.declared.member.Member.{Member}
use Rattle.step_rules.specs.declared.paths.Paths.{Paths}
use Rattle.step_rules.specs.declared.words.Hears.{Hears}
use Rattle.step_rules.specs.declared.words.Words.{Words}

abbrev pub same_job : ℕ → ℕ → Bool
same_job a b = a == b

-- the paths that are kept for a job
abbrev pub paths_at : Paths → ℕ → List (List ℕ)
paths_at x job = unwrap_or (lookup (same_job job) x.kept.entries) []

abbrev pub paths_for : Paths → Option ℕ → List (List ℕ)
paths_for x None = []
paths_for x (Some job) = paths_at x job

-- the words that it heard, by the repositories that said them
abbrev pub words_at : Words → ℕ → List (Option Word)
words_at x job = unwrap_or (option_map (λ words. words.items) (lookup (same_job job) x.heard.entries)) []

-- the repository is in this state; its jobs heard these words; and for each running job the paths are kept that its key had
pub record IsMemberOf (x : Member) (s : SetUp) (st : State) (words : ℕ → ℕ → Option Word) : Type 0 where
  pub state : IsStateOf x.state s st
  pub heard : (job c : ℕ) → words job c ≡ word_in (words_at x.words job) c
  pub paths : (w : Work) → Among w st.works → s.paths w.number ≡ paths_at x.paths w.number

-- its numbers are within bounds, after at most so many entries, among so many repositories
pub record IsBounded (count made : ℕ) (x : Member) : Type 0 where
  pub well : IsWell x.state
  pub repos : count_of x.state ≡ count
  pub few : made_of x.state ≤ made

-- ---- an entry

-- what is kept for a job after an entry of this kind, which begins one whose key has these paths, or none
abbrev pub paths_after : ℕ → List (List ℕ) → EntryKind → List (List ℕ) → List (List ℕ)
paths_after job was (Begin j what) begun = if j == job then begun else was
paths_after job was (End j outcome) begun = if j == job then [] else was
paths_after job was (Crash clock) begun = []
paths_after job was kind begun = was

-- what is read for an entry of this kind, where the key of the job that it begins has these paths
abbrev pub paths_read : Paths → EntryKind → List (List ℕ) → List (List ℕ)
paths_read x (Begin job what) begun = begun
paths_read x kind begun = paths_for x (job_of kind)

abbrev pub words_after : (ℕ → ℕ → Option Word) → Option Hears → ℕ → ℕ → Option Word
words_after was None job c = was job c
words_after was (Some h) job c = if (h.job == job) && (h.peer == c) then h.word else was job c

-- a job that begins by this has these paths; where none begins, any are
abbrev pub BeginsWith : SetUp → EntryKind → List (List ℕ) → Type 0
BeginsWith s (Begin job what) begun = s.paths job ≡ begun
BeginsWith s kind begun = Unit {0}

-- ---- for private contracts

-- each job heard what it had heard
abbrev pub StaySaid : Words → Words → Type 0
StaySaid was now = (job c : ℕ) → word_in (words_at now job) c ≡ word_in (words_at was job) c

-- there is room for the word that a job hears
abbrev pub HasWordRoom : Option Hears → Words → Type 0
HasWordRoom None x = Unit {0}
HasWordRoom (Some h) x = (0 < spare x.heard) × (h.peer < length (words_at x h.job))

-- it is the job of an entry of this kind, if that awaits an answer with a word of this peer
abbrev pub AwaitsBy : State → EntryKind → ℕ → Option ℕ → Type 0
AwaitsBy st kind peer None = (job : ℕ) → job_of kind ≡ Some job → awaits_of peer (find (λ w. w.number == job) st.works) ≡ false
AwaitsBy st kind peer (Some job) = (job_of kind ≡ Some job) × (awaits_of peer (find (λ w. w.number == job) st.works) ≡ true)

-- there is room for the paths of a key and for the word that a job hears
pub record HasMemberRoom (hears : Option Hears) (x : Member) : Type 0 where
  pub paths : 0 < spare x.paths.kept
  pub words : HasWordRoom hears x.words

-- it is what it was, but for the room that it has
pub record StaysMember (was now : Member) : Type 0 where
  pub state : now.state ≡ was.state
  pub paths : now.paths.kept.entries ≡ was.paths.kept.entries
  pub words : StaySaid was.words now.words
