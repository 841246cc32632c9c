-- What the drops of one repository have read of its logs as data, and the states that have read so (own).
use Rattle.std.specs.Prelude.{◌≡◌, ℕ, ◌<◌, false, ◌==◌, List, [], ◌∷◌, find, filter, Option, Some, None, vec_len, vec_capacity}
use Rattle.std.specs.Option.{option_map}
use Rattle.annex_base.specs.Settings.{Settings}
use Rattle.run_data.specs.declared.entry.EntryKind.{EntryKind}
use Rattle.trust_groups.specs.Settings.{Lines, settings}
use Rattle.node_model.specs.After.{has_read}
use Rattle.node_model.specs.Jobs.{Work}
use Rattle.node_model.specs.SetUp.{SetUp}
use Rattle.node_model.specs.Slots.{job_of}
use Rattle.node_model.specs.State.{State}
use Rattle.state_reads.specs.Begun.{begun_drop}
use Rattle.state_reads.specs.Known.{AreLogsRead, KnownLogs, ids_of}
use Rattle.state_reads.specs.declared.kept.Kept.{Kept}
use Rattle.state_reads.specs.declared.reads.Reads.{Reads}

-- ---- what is kept

-- what stands there for the job of this number
abbrev pub reading_in : List Kept → ℕ → Option KnownLogs
reading_in kept job = option_map (λ k. k.known) (find (λ k. k.job == job) kept)

abbrev pub reading_at : Reads → ℕ → Option KnownLogs
reading_at x job = reading_in x.kept.items job

-- ---- the states that have read so

-- it is the one running job of its number
abbrev pub IsOnly : List Work → Work → Type 0
IsOnly works w = filter (λ v. v.number == w.number) works ≡ w ∷ []

-- a job has read what is kept for it; one for which nothing is kept isn't past its drop's first step, and would read what the logs
-- say now
abbrev pub HasReadAs : SetUp → State → Work → Option KnownLogs → Type 0
HasReadAs s st w None = (has_read w.part w.phase ≡ false) × (st.read w.number ≡ st.logs)
HasReadAs s st w (Some known) = AreLogsRead (st.read w.number) s w known

-- so has each running job; but two of one number have one reading, of which nothing is said
pub record HaveReadAs (s : SetUp) (x : Reads) (st : State) : Type 0 where
  pub each : (w : Work) → IsOnly st.works w → HasReadAs s st w (reading_at x w.number)

-- ---- what an entry adds

-- the key of the job that made an entry of this kind had these paths in the tree as the job began
abbrev pub HadPaths : SetUp → EntryKind → List (List ℕ) → Type 0
HadPaths s kind paths = (job : ℕ) → job_of kind ≡ Some job → s.paths job ≡ paths

-- it is what these settings say for the drop of the job, if there is one
abbrev pub IsReadFor : Settings → SetUp → Option Work → Option Kept → Type 0
IsReadFor settings s None None = Unit {0}
IsReadFor settings s (Some w) (Some k) = (k.job ≡ w.number) × AreLogsRead settings s w k.known
IsReadFor settings s w k = ⊥

-- it is what the files say for the drop at whose first step an entry of this kind may stand
abbrev pub IsChangeFor : SetUp → State → EntryKind → Option Kept → Type 0
IsChangeFor s st kind change = IsReadFor (settings st.lines) s (begun_drop st.works kind) change

-- what was read is what it was, but for the room that there is
pub record StaySame (was now : Reads) : Type 0 where
  pub kept : now.kept.items ≡ was.kept.items

-- there is room for what one more drop reads
abbrev pub HasRoom : Reads → Type 0
HasRoom x = vec_len x.kept < vec_capacity x.kept

-- ---- what one job reads

-- it is what these lines say for this job's drop, where the set-up has this number, these identifiers and these paths
abbrev pub IsKeptFor : Lines → ℕ → List (List ℕ) → List (List ℕ) → Work → Kept → Type 0
IsKeptFor lines repo ids paths w k = (k.job ≡ w.number) × ((s : SetUp) → s.number ≡ repo → ids_of s ≡ ids → s.paths w.number ≡ paths → AreLogsRead (settings lines) s w k.known)
