-- The entries that a repository may make at any point of a run: what the script begins, adds, closes or lets crash.
use Rattle.std.specs.Prelude.{◌≡◌, ◌≢◌, ℕ, ◌+◌, ◌<◌, ◌^◌, Bool, true, false, if◌then◌else◌, List, [], ◌∷◌, ◌++◌, flat_map, length, map, Option, Some, None}
use Rattle.annex_base.specs.Lists.{Each, Member}
use Rattle.annex_base.specs.declared.kinds.Call.{Call}
use Rattle.annex_base.specs.declared.kinds.Call.TheVariants.{Has, DropPart, Append, Commit, PutFile}
use Rattle.run_data.specs.KeyView.{first_fault, size_part}
use Rattle.trust_groups.specs.LineSet.{IsLineSet}
use Rattle.run_data.specs.declared.entry.EntryKind.{EntryKind}
use Rattle.run_data.specs.declared.entry.EntryKind.TheVariants.{Begin, Gain, Log, Compact, Close, Crash, Fault}
use Rattle.run_data.specs.declared.entry.By.TheVariants.{Script}
use Rattle.run_data.specs.declared.entry.FrameView.{FrameView}
use Rattle.run_data.specs.declared.entry.FrameText.TheVariants.{Closing}
use Rattle.run_data.specs.declared.entry.LogFile.{LogFile}
use Rattle.run_data.specs.declared.job.Job.{Job}
use Rattle.run_data.specs.declared.job.JobKind.{JobKind}
use Rattle.run_data.specs.declared.job.JobKind.TheVariants as kinds
use Rattle.node_model.specs.Files.{compact_lines}
use Rattle.run_data.specs.Files.{file_path, kind_of, HasPath}
use Rattle.run_data.specs.Repos.{fits_size}
use Rattle.node_model.specs.SetUp.{SetUp, others, slots}
use Rattle.node_model.specs.Ends.{EndName, frames}
use Rattle.node_model.specs.SessionStep.{is_filled}
use Rattle.node_model.specs.State.{State}

-- ---- a job begins

abbrev pub needs_peer : JobKind → Bool
needs_peer kinds.Drop = false
needs_peer kinds.Get = false
needs_peer _ = true

-- a peer is another repository of the run; each copy and move has one
abbrev pub IsPeer : SetUp → JobKind → Option ℕ → Type 0
IsPeer s kind None = needs_peer kind ≡ false
IsPeer s kind (Some peer) = (peer < length s.repos) × (peer ≢ s.number)

pub record MayBegin (s : SetUp) (st : State) (job : ℕ) (what : Job) : Type 0 where
  pub number_is : job ≡ st.begun + 1
  pub slot_free : length st.works < 4
  pub peer : IsPeer s what.kind what.peer
  pub valid : first_fault what.key ≡ None

-- ---- contents and lines

-- the content of the key comes from the script, where it isn't there, nor being filled
pub record MayGain (s : SetUp) (st : State) (size : ℕ) (key : List ℕ) : Type 0 where
  pub absent : st.present key ≡ false
  pub unfilled : is_filled s st key ≡ false
  pub fits : fits_size (size_part key) size ≡ true
  pub small : size < 2 ^ 62

-- lines in byte order, each once, and none that the file has already
pub record MayLog (s : SetUp) (st : State) (file : LogFile) (lines : List (List ℕ)) : Type 0 where
  pub path : HasPath file
  pub known : kind_of file ≢ None
  pub set : IsLineSet lines
  pub new : Each (λ line. ¬ Member line (st.lines (file_path file))) lines

-- a compaction takes a line away
pub record MayCompact (s : SetUp) (st : State) (file : LogFile) : Type 0 where
  pub shrinks : length (compact_lines (kind_of file) (st.lines (file_path file))) < length (st.lines (file_path file))

-- the calls of a script's step
abbrev pub is_scripts : Call → Bool
is_scripts Has = true
is_scripts DropPart = true
is_scripts Append = true
is_scripts Commit = true
is_scripts PutFile = true
is_scripts _ = false

-- ---- connections

-- the Close of an end that is open
abbrev pub close_at : SetUp → State → EndName → List FrameView
close_at s st a = if (st.ends a).opened then frames a (st.ends a) (Closing ∷ []) else []

-- all ends, in order of the peer's number, of side, the client's first, and of slot
abbrev pub ends_with : ℕ → Bool → List EndName
ends_with peer client = map (λ slot. record { peer = peer; slot = slot; client = client }) slots

abbrev pub all_ends : SetUp → List EndName
all_ends s = flat_map (λ peer. ends_with peer true ++ ends_with peer false) (others s)

abbrev pub closes_all : SetUp → State → List FrameView
closes_all s st = flat_map (close_at s st) (all_ends s)

-- ---- an entry of this kind may come, with these lines and these frames sent, whatever the repository is about

abbrev pub MayCome : SetUp → State → List (List ℕ) → List FrameView → EntryKind → Type 0
MayCome s st lines sent (Begin job what) = MayBegin s st job what × (lines ≡ []) × (sent ≡ [])
MayCome s st lines sent (Gain Script size key) = MayGain s st size key × (lines ≡ []) × (sent ≡ [])
MayCome s st lines sent (Log file) = MayLog s st file lines × (sent ≡ [])
MayCome s st lines sent (Compact file) = MayCompact s st file × (lines ≡ []) × (sent ≡ [])
MayCome s st lines sent (Fault call Script) = (is_scripts call ≡ true) × (lines ≡ []) × (sent ≡ [])
MayCome s st lines sent (Close peer slot client) =
    let a : EndName = record { peer = peer; slot = slot; client = client } in
    Member a (all_ends s) × ((st.ends a).opened ≡ true) × (lines ≡ []) × (sent ≡ close_at s st a)
MayCome s st lines sent (Crash clock) = (lines ≡ []) × (sent ≡ closes_all s st)
MayCome s st lines sent _ = ⊥
