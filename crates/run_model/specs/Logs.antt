-- What the entries so far say of the log files of each repository (git-annex internals: branch files).
use Rattle.std.specs.Prelude.{ℕ, Bool, true, false, ◌&&◌, ◌||◌, ◌==◌, if◌then◌else◌, not, List, [], ◌∷◌, ◌++◌, Option, Some, None, bytes_eq, option_map}
use Rattle.std.specs.List.{list_any}
use Rattle.std.specs.Option.{option_or, unwrap_or}
use Rattle.annex_base.specs.Settings.{Settings}
use Rattle.drop_proof.specs.declared.rule.Need.{Need}
use Rattle.union_merge.specs.Branch.{Files, file_at, lines_at, with_file, merged_file}
use Rattle.node_model.specs.Settings.{settings}
use Rattle.annex_base.specs.declared.kinds.Call.TheVariants.{PutFile}
use Rattle.run_data.specs.declared.entry.Entry.{Entry}
use Rattle.run_data.specs.declared.entry.EntryKind.{EntryKind}
use Rattle.run_data.specs.declared.entry.EntryKind.TheVariants.{Begin, Fault, Gain, Log, Compact, Talk}
use Rattle.run_data.specs.declared.entry.LogFile.{LogFile}
use Rattle.run_model.specs.Past.{is_of}
use Rattle.node_model.specs.Rows.{option_is}
use Rattle.run_data.specs.declared.entry.FrameView.{FrameView}
use Rattle.run_data.specs.declared.job.JobKind.{JobKind}
use Rattle.run_data.specs.declared.job.JobKind.TheVariants.{Drop}
use Rattle.p2p_wire.specs.declared.message.Message.TheVariants.{AlreadyHave, Success, Valid}
use Rattle.run_model.specs.Said.{Said, Says, message_in}
use Rattle.node_model.specs.Slots.{job_by, job_of}
use Rattle.run_model.specs.Frames.{last_request, said_of, up_of, way_of}
use Rattle.run_data.specs.Files.{file_path, kind_of}
use Rattle.node_model.specs.Files.{compact_lines}
use Rattle.node_model.specs.Knows.{need_by}

-- ---- every line ever added

abbrev pub added_by : List ℕ → EntryKind → List (List ℕ) → List (List ℕ)
added_by path (Log file) lines = if bytes_eq (file_path file) path then lines else []
added_by path _ lines = []

-- every line that an entry of r ever added to the file of this path
abbrev pub lines_ever : List Entry → ℕ → List ℕ → List (List ℕ)
lines_ever [] r path = []
lines_ever (e ∷ past) r path = if is_of r e then added_by path e.kind e.lines ++ lines_ever past r path else lines_ever past r path

-- ---- the lines that are kept

abbrev pub compact_file : LogFile → Files → Option (List (List ℕ)) → Files
compact_file file files None = files
compact_file file files (Some lines) = with_file files (file_path file) (compact_lines (kind_of file) lines)

-- an added line stands in its file from then on; a compaction takes the outdated lines of a file away
abbrev pub branch_after : Files → EntryKind → List (List ℕ) → Files
branch_after was (Log file) lines = merged_file was (file_path file) lines
branch_after was (Compact file) lines = compact_file file was (file_at was (file_path file))
branch_after was _ lines = was

-- the branch of r, which a repository begins without files
abbrev pub branch : List Entry → ℕ → Files
branch [] r = []
branch (e ∷ past) r = if is_of r e then branch_after (branch past r) e.kind e.lines else branch past r

-- the lines that r's file of this path has
abbrev pub lines_of_file : List Entry → ℕ → List ℕ → List (List ℕ)
lines_of_file past r path = lines_at (branch past r) path

-- ---- what a job reads

-- an entry of the job, other than its beginning, or a line that it owed and that failed
abbrev pub is_step : ℕ → EntryKind → Bool
is_step j (Begin job what) = false
is_step j (Fault PutFile source) = false
is_step j kind = option_is (job_of kind) j

-- the job takes an answer by which its peer has the content
abbrev pub has_it : Said → Option Said → Bool
has_it (Says AlreadyHave) asked = true
has_it (Says Success) (Some (Says Valid)) = true
has_it _ asked = false

abbrev pub hears_has_it : List Entry → ℕ → Option FrameView → Bool
hears_has_it past a None = false
hears_has_it past a (Some f) = not f.up && has_it (message_in f.body) (option_map said_of (last_request past (up_of (way_of a f))))

abbrev pub is_quiet : Option FrameView → List FrameView → Bool
is_quiet None [] = true
is_quiet _ sent = false

-- job j of a has made a step
abbrev pub has_stepped : List Entry → ℕ → ℕ → Bool
has_stepped past a j = list_any (λ e. is_of a e && is_step j e.kind) past

-- the transfer of a move is done by this entry of its job: the content has come, or the peer has it, or it was there at
-- once
abbrev pub ends_transfer : List Entry → ℕ → ℕ → Entry → EntryKind → Bool
ends_transfer past a j e (Gain source size key) = option_is (job_by source) j
ends_transfer past a j e (Talk job) = option_is job j && ((is_quiet e.taken e.sent && not (has_stepped past a j)) || hears_has_it past a e.taken)
ends_transfer past a j e _ = false

abbrev pub is_drop : JobKind → Bool
is_drop Drop = true
is_drop _ = false

abbrev pub starts_drop : List Entry → ℕ → ℕ → Entry → EntryKind → Bool
starts_drop past a j e (Begin job what) = (job == j) && is_drop what.kind
starts_drop past a j e kind = ends_transfer past a j e kind

-- job j of a is a drop, or is done with its transfer: then a move drops, and a get or a copy ends
abbrev pub in_drop : List Entry → ℕ → ℕ → Bool
in_drop [] a j = false
in_drop (e ∷ past) a j = in_drop past a j || (is_of a e && starts_drop past a j e e.kind)

-- what stood before the first step of the drop of job j of a, once it has made one
abbrev pub before_step : List Entry → ℕ → ℕ → Option (List Entry)
before_step [] a j = None
before_step (e ∷ past) a j = option_or (before_step past a j) (if is_of a e && (is_step j e.kind && in_drop past a j) then Some past else None)

-- The past that job j of a reads: its drop reads the logs at its first step (own).
abbrev pub read_at : List Entry → ℕ → ℕ → List Entry
read_at past a j = unwrap_or (before_step past a j) past

-- what the logs of r say, by every line ever added
abbrev pub settings_of : List Entry → ℕ → Settings
settings_of past r = settings (lines_ever past r)

-- the numbers of copies that job j of a reads, whose key has these paths
abbrev pub need_read : List (List ℕ) → List Entry → ℕ → ℕ → Need
need_read paths past a j = need_by (settings_of (read_at past a j) a) paths
