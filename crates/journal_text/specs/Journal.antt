-- The journal of a run (own): its repositories, the changes of its tree, and its entries with their frames and lines.
use Rattle.std.specs.Prelude.{ℕ, Bool, true, false, List, [], ◌∷◌, ◌++◌, length, codes, Option, Some, None}
use Rattle.std.specs.List.{flat_map}
use Rattle.std.specs.Fmt.{decimal}
use Rattle.annex_base.specs.RepoText.{repo_text}
use Rattle.annex_base.specs.declared.kinds.Found.{Found}
use Rattle.annex_base.specs.declared.kinds.Found.TheVariants as finds
use Rattle.drop_proof.specs.declared.rule.Need.{Need}
use Rattle.log_lines.specs.Files.{file_name}
use Rattle.script_words.specs.Fields.{call_word}
use Rattle.run_data.specs.declared.run.Run.{Run}
use Rattle.run_data.specs.declared.run.RepoView.{RepoView}
use Rattle.run_data.specs.declared.run.TreeMark.{TreeMark}
use Rattle.run_data.specs.declared.entry.Entry.{Entry}
use Rattle.run_data.specs.declared.entry.EntryKind.{EntryKind}
use Rattle.run_data.specs.declared.entry.EntryKind.TheVariants as kinds
use Rattle.run_data.specs.declared.entry.By.{By}
use Rattle.run_data.specs.declared.entry.By.TheVariants as bys
use Rattle.run_data.specs.declared.entry.LogFile.{LogFile}
use Rattle.run_data.specs.declared.entry.LogFile.TheVariants as files
use Rattle.run_data.specs.declared.entry.FrameView.{FrameView}
use Rattle.run_data.specs.declared.entry.FrameText.{FrameText}
use Rattle.run_data.specs.declared.entry.FrameText.TheVariants as bodies
use Rattle.run_data.specs.declared.job.Job.{Job}
use Rattle.run_model.specs.Past.{begun_job}
use Rattle.run_text.specs.Words.{number_or_dash}
use Rattle.run_text.specs.Names.{name_of, name_or_dash}
use Rattle.run_text.specs.Jobs.{job_text}
use Rattle.run_text.specs.Outcomes.{outcome_text}

-- A line ends with a newline.

-- ---- fields

-- for whom something was done
abbrev pub by_text : List RepoView → By → List ℕ
by_text repos bys.Script = codes "script"
by_text repos (bys.Job j) = codes "job:" ++ decimal j
by_text repos (bys.Peer p slot) = codes "peer:" ++ name_of repos p ++ codes "." ++ decimal slot

-- a key stands plainly, as the last field of its line
abbrev pub key_field : List ℕ → List ℕ
key_field key = codes " key=" ++ key

abbrev pub need_field : Need → List ℕ
need_field need = codes " need=" ++ decimal need.n ++ codes "," ++ decimal need.m

abbrev pub found_text : Found → List ℕ
found_text finds.Present = codes "present"
found_text finds.Absent = codes "absent"
found_text finds.Barred = codes "barred"
found_text finds.Held = codes "held"
found_text finds.Late = codes "late"
found_text finds.Nolock = codes "nolock"

abbrev pub side_text : Bool → List ℕ
side_text true = codes "client"
side_text false = codes "server"

-- the location log of a key, or the name of another file
abbrev pub file_text : LogFile → List ℕ
file_text (files.Location key) = codes "location " ++ key
file_text (files.Of kind) = file_name kind
file_text (files.Other name) = name

-- the job that the entry's repository had begun with this number
abbrev pub job_before : List Entry → Option ℕ → ℕ → Option Job
job_before past None j = None
job_before past (Some r) j = begun_job past r j

-- ---- entries

-- the line of a job that begins
abbrev pub begin_text : List RepoView → Option ℕ → Job → List ℕ
begin_text repos None what = []
begin_text repos (Some r) what = job_text repos r what

-- what an entry did, after these others (the newest first): the kind's word and its fields
abbrev pub kind_text : List RepoView → List Entry → Option ℕ → ℕ → EntryKind → List ℕ
kind_text repos past repo lines (kinds.Begin j what) = codes "begin " ++ decimal j ++ codes " " ++ begin_text repos repo what
kind_text repos past repo lines (kinds.Gain by size key) = codes "gain by=" ++ by_text repos by ++ codes " size=" ++ decimal size ++ key_field key
kind_text repos past repo lines (kinds.Share hold end by key) =
    codes "share hold=" ++ decimal hold ++ codes " end=" ++ decimal end ++ codes " for=" ++ by_text repos by ++ key_field key
kind_text repos past repo lines (kinds.Release hold key) = codes "release hold=" ++ decimal hold ++ key_field key
kind_text repos past repo lines (kinds.Check found key) = codes "check found=" ++ found_text found ++ key_field key
kind_text repos past repo lines (kinds.Bar j need key) = codes "bar " ++ decimal j ++ need_field need ++ key_field key
kind_text repos past repo lines (kinds.Order j target deadline need key) =
    codes "order " ++ decimal j ++ codes " target=" ++ name_of repos target ++ codes " deadline=" ++ number_or_dash deadline ++ need_field need ++ key_field key
kind_text repos past repo lines (kinds.Gone by key) = codes "gone by=" ++ by_text repos by ++ key_field key
kind_text repos past repo lines (kinds.Log file) = codes "log " ++ decimal lines ++ codes " " ++ file_text file
kind_text repos past repo lines (kinds.Compact file) = codes "compact " ++ file_text file
kind_text repos past repo lines (kinds.Talk job) = codes "talk " ++ number_or_dash job
kind_text repos past repo lines (kinds.Close peer slot client) =
    codes "close peer=" ++ name_of repos peer ++ codes " slot=" ++ decimal slot ++ codes " side=" ++ side_text client
kind_text repos past repo lines (kinds.Crash clock) = codes "crash clock=" ++ decimal clock
kind_text repos past repo lines (kinds.Wait milliseconds) = codes "wait " ++ decimal milliseconds
kind_text repos past repo lines (kinds.Fault call by) = codes "fault " ++ call_word call ++ codes " " ++ by_text repos by
kind_text repos past repo lines (kinds.End j outcome) = codes "end " ++ decimal j ++ outcome_text repos (job_before past repo j) outcome

-- the first line of an entry, with its repository; a wait has none
abbrev pub head_text : List RepoView → List Entry → Entry → List ℕ
head_text repos past e =
    decimal e.time ++ codes "." ++ decimal e.count ++ codes " " ++ name_or_dash repos e.repo ++ codes " "
    ++ kind_text repos past e.repo (length e.lines) e.kind ++ codes "\n"

abbrev pub way_text : Bool → List ℕ
way_text true = codes " up "
way_text false = codes " down "

abbrev pub body_text : FrameText → List ℕ
body_text bodies.Opening = codes "OPEN"
body_text bodies.Closing = codes "CLOSE"
body_text (bodies.Bytes n) = codes "BYTES " ++ decimal n
body_text (bodies.Line text) = text

-- a frame: the other end, the slot, the way, the epoch, its number there, and what it carries
abbrev pub frame_text : List RepoView → FrameView → List ℕ
frame_text repos f =
    name_of repos f.peer ++ codes " " ++ decimal f.slot ++ way_text f.up ++ decimal f.epoch ++ codes " " ++ decimal f.seq ++ codes " " ++ body_text f.body

abbrev pub taken_text : List RepoView → Option FrameView → List ℕ
taken_text repos None = []
taken_text repos (Some f) = codes "< " ++ frame_text repos f ++ codes "\n"

abbrev pub sent_text : List RepoView → FrameView → List ℕ
sent_text repos f = codes "> " ++ frame_text repos f ++ codes "\n"

abbrev pub added_text : List ℕ → List ℕ
added_text line = codes "| " ++ line ++ codes "\n"

abbrev pub entry_text : List RepoView → List Entry → Entry → List ℕ
entry_text repos past e = head_text repos past e ++ taken_text repos e.taken ++ flat_map (sent_text repos) e.sent ++ flat_map added_text e.lines

-- entries in order, after these others (the newest first)
abbrev pub entries_text : List RepoView → List Entry → List Entry → List ℕ
entries_text repos past [] = []
entries_text repos past (e ∷ es) = entry_text repos past e ++ entries_text repos (e ∷ past) es

-- ---- the whole

abbrev pub locks_text : Bool → List ℕ
locks_text true = codes " locks"
locks_text false = codes " nolock"

abbrev pub repo_line : RepoView → List ℕ
repo_line repo =
    codes "repo " ++ repo.name ++ codes " " ++ repo_text repo.id ++ codes " offset=" ++ decimal repo.offset ++ codes " version=" ++ decimal repo.version
    ++ locks_text repo.locks ++ codes "\n"

-- a change of the tree: how many entries stand before it, how many bytes its path has, the path and the key
abbrev pub path_line : TreeMark → List ℕ
path_line mark = codes "path " ++ decimal mark.place ++ codes " " ++ decimal (length mark.path) ++ codes " " ++ mark.path ++ codes " " ++ mark.key ++ codes "\n"

-- the journal of entries of these repositories, which changed the tree so
abbrev pub journal_of : List RepoView → List TreeMark → List Entry → List ℕ
journal_of repos tree entries =
    codes "journal " ++ decimal (length entries) ++ codes "\n" ++ flat_map repo_line repos ++ flat_map path_line tree
    ++ entries_text repos [] entries

abbrev pub journal : Run → List ℕ
journal run = journal_of run.repos run.tree run.entries
