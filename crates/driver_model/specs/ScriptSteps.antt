-- What the lines of a script do that aren't turns (own). A step stops at the first store call that fails.
use Rattle.std.specs.Prelude.{ℕ, ◌+◌, Bool, true, false, not, ◌||◌, if◌then◌else◌, nat_lt, List, [], ◌∷◌, ◌++◌, filter, length, Some, None}
use Rattle.annex_base.specs.declared.kinds.Call.{Call}
use Rattle.annex_base.specs.declared.kinds.Call.TheVariants as calls
use Rattle.log_lines.specs.declared.entry.LogKind.{LogKind}
use Rattle.log_lines.specs.declared.entry.Topic.{Topic}
use Rattle.log_lines.specs.declared.entry.Value.{Value}
use Rattle.log_lines.specs.LineText.{line_text}
use Rattle.log_lines.specs.Newest.{newest_stamp, next_stamp}
use Rattle.union_merge.specs.Branch.{Files}
use Rattle.union_merge.specs.LineSet.{difference}
use Rattle.run_data.specs.declared.entry.By.TheVariants.{Script}
use Rattle.run_data.specs.declared.entry.Entry.{Entry}
use Rattle.run_data.specs.declared.entry.EntryKind.{EntryKind}
use Rattle.run_data.specs.declared.entry.EntryKind.TheVariants as kinds
use Rattle.run_data.specs.declared.entry.FrameView.{FrameView}
use Rattle.run_data.specs.declared.entry.LogFile.{LogFile}
use Rattle.run_data.specs.declared.entry.LogFile.TheVariants.{Location, Of}
use Rattle.run_data.specs.declared.job.Job.{Job}
use Rattle.run_data.specs.Histories.{most_entries}
use Rattle.run_data.specs.Repos.{id_of}
use Rattle.run_model.specs.Past.{begun_count, is_of, now, present}
use Rattle.node_model.specs.Clocks.{wall}
use Rattle.run_model.specs.Logs.{branch, lines_of_file}
use Rattle.node_model.specs.Files.{compact_lines}
use Rattle.run_data.specs.Files.{file_of, file_path, kind_of}
use Rattle.node_model.specs.Ends.{EndName}
use Rattle.run_model.specs.States.{end_at, works}
use Rattle.node_model.specs.OwedLines.{if_new, stamp_at, status_line}
use Rattle.node_model.specs.SessionStep.{is_filled}
use Rattle.node_model.specs.AnyTime.{close_at, closes_all, ends_with}
use Rattle.driver_model.specs.Driver.{Driver, DriverInput, adds, answers, commits, drops_part, entry, fails_at, newest_count, notes, puts_part, set_up_of, state_at}

-- the call of the script fails
abbrev pub faults : ℕ → Call → Driver → Driver
faults r call d = notes r (kinds.Fault call Script) [] (answers r call d)

-- this is done, unless the call fails
abbrev pub unless_fails : ℕ → Call → Driver → Driver → Driver
unless_fails r call d done = if fails_at d r call then faults r call d else done

-- ---- lines of log files

-- the wall clock, which makes stamps
abbrev pub wall_of : DriverInput → Driver → ℕ → ℕ
wall_of g d r = wall g.repos r (now d.past)

abbrev pub lines_of : Driver → ℕ → LogFile → List (List ℕ)
lines_of d r file = lines_of_file d.past r (file_path file)

-- the lines that the file doesn't have
abbrev pub unknown_lines : Driver → ℕ → LogFile → List (List ℕ) → List (List ℕ)
unknown_lines d r file lines = difference lines (lines_of d r file)

-- these lines are added to the file
abbrev pub logs : ℕ → LogFile → List (List ℕ) → Driver → Driver
logs r file lines d = unless_fails r calls.PutFile d (notes r (kinds.Log file) lines d)

-- without a new line there is no store call and no entry
abbrev pub logs_some : ℕ → LogFile → List (List ℕ) → Driver → Driver
logs_some r file [] d = d
logs_some r file (line ∷ lines) d = logs r file (line ∷ lines) d

abbrev pub writes : ℕ → LogFile → List ℕ → Driver → Driver
writes r file line d = logs_some r file (unknown_lines d r file (line ∷ [])) d

-- the line of a setting: its stamp is that of the wall clock, or past the newest of the topic
abbrev pub setting_line : DriverInput → Driver → ℕ → LogKind → Topic → Value → List ℕ
setting_line g d r kind topic value =
    line_text kind (record { topic = topic; stamp = Some (next_stamp (newest_stamp kind (lines_of d r (Of kind)) topic) (stamp_at (wall_of g d r))); value = value })

abbrev pub sets : DriverInput → ℕ → LogKind → Topic → Value → Driver → Driver
sets g r kind topic value d = writes r (Of kind) (setting_line g d r kind topic value) d

-- the log of a content that came by the script: its entry stands in any case
abbrev pub logs_status : DriverInput → ℕ → List ℕ → Driver → Driver
logs_status g r key d =
    logs r (Location key) (if_new (lines_of d r (Location key)) (status_line (lines_of d r (Location key)) (id_of g.repos r) true (wall_of g d r))) d

abbrev pub is_nil : {X : Type 0} → List X → Bool
is_nil [] = true
is_nil (x ∷ xs) = false

-- the lines for the file at a path that it doesn't have
abbrev pub news : Driver → ℕ → List ℕ → List (List ℕ) → List (List ℕ)
news d r path lines = unknown_lines d r (file_of path) lines

-- the files of a bundle, one by one
abbrev pub merges_files : ℕ → Files → Driver → Driver
merges_files r [] d = d
merges_files r (f ∷ files) d =
    if is_nil (news d r f.0 f.1) then merges_files r files d
    else (if fails_at d r calls.PutFile then faults r calls.PutFile d
    else merges_files r files (notes r (kinds.Log (file_of f.0)) (news d r f.0 f.1) d))

abbrev pub merges : ℕ → ℕ → Driver → Driver
merges r other d = merges_files r (branch d.past other) d

-- a compaction takes a line of the file away
abbrev pub shrinks : Driver → ℕ → LogFile → Bool
shrinks d r file = nat_lt (length (compact_lines (kind_of file) (lines_of d r file))) (length (lines_of d r file))

abbrev pub compacts_files : ℕ → Files → Driver → Driver
compacts_files r [] d = d
compacts_files r (f ∷ files) d =
    if not (shrinks d r (file_of f.0)) then compacts_files r files d
    else (if fails_at d r calls.PutFile then faults r calls.PutFile d
    else compacts_files r files (notes r (kinds.Compact (file_of f.0)) [] d))

abbrev pub compacts : ℕ → Driver → Driver
compacts r d = compacts_files r (branch d.past r) d

-- ---- contents

-- the content is there, or is being filled
abbrev pub is_busy : DriverInput → Driver → ℕ → List ℕ → Bool
is_busy g d r key = present d.past r key || is_filled (set_up_of g d r) (state_at g d r) key

-- the part is dropped, and begun anew with these bytes
abbrev pub begins_part : ℕ → List ℕ → List ℕ → Driver → Driver
begins_part r key bytes d = unless_fails r calls.Append d (puts_part r key bytes d)

-- the part becomes the content
abbrev pub gets_content : ℕ → List ℕ → List ℕ → Driver → Driver
gets_content r key bytes d = notes r (kinds.Gain Script (length bytes) key) [] (commits r key d)

abbrev pub gains : DriverInput → ℕ → List ℕ → List ℕ → Driver → Driver
gains g r key bytes d = logs_status g r key (gets_content r key bytes d)

abbrev pub fills_up : DriverInput → ℕ → List ℕ → List ℕ → Driver → Driver
fills_up g r key bytes d = if fails_at d r calls.Append then faults r calls.Append d
    else unless_fails r calls.Commit (puts_part r key bytes d) (gains g r key bytes (puts_part r key bytes d))

-- what is done where the content isn't there, nor being filled
abbrev pub unless_busy : DriverInput → ℕ → List ℕ → Driver → Driver → Driver
unless_busy g r key d done = unless_fails r calls.Has d (if is_busy g d r key then d else unless_fails r calls.DropPart d done)

abbrev pub has : DriverInput → ℕ → List ℕ → List ℕ → Driver → Driver
has g r key bytes d = unless_busy g r key d (fills_up g r key bytes (drops_part r key d))

abbrev pub sets_part : DriverInput → ℕ → List ℕ → List ℕ → Driver → Driver
sets_part g r key bytes d = unless_busy g r key d (begins_part r key bytes (drops_part r key d))

-- ---- the tree

-- the path names the key from now on
abbrev pub enters : List ℕ → List ℕ → Driver → Driver
enters path key d = record d { tree = d.tree ++ record { place = length d.past; path = path; key = key } ∷ [] }

-- ---- jobs, connections, crashes and time

-- a job begins where fewer than four run
abbrev pub begins : ℕ → Job → Driver → Driver
begins r job d = if nat_lt (length (works d.past r)) 4 then notes r (kinds.Begin (begun_count d.past r + 1) job) [] d else d

-- an entry of r that only sends
abbrev pub sends : DriverInput → ℕ → EntryKind → List FrameView → Driver → Driver
sends g r kind sent d = adds (state_at g d r) r (record (entry d r kind []) { sent = sent }) d

abbrev pub closes_end : DriverInput → ℕ → EndName → Driver → Driver
closes_end g r a d = if (end_at d.past r a).opened then sends g r (kinds.Close a.peer a.slot a.client) (close_at (set_up_of g d r) (state_at g d r) a) d else d

abbrev pub closes_each : DriverInput → ℕ → List EndName → Driver → Driver
closes_each g r [] d = d
closes_each g r (a ∷ ends) d = closes_each g r ends (closes_end g r a d)

-- the ends of connections with another
abbrev pub ends_at : ℕ → List EndName
ends_at other = ends_with other true ++ ends_with other false

-- r has more of them open than there are places left in its history
abbrev pub lacks_places : List Entry → ℕ → ℕ → Bool
lacks_places past r other = nat_lt most_entries (length (filter (is_of r) past) + length (filter (λ a. (end_at past r a).opened) (ends_at other)))

-- the end of r of each connection with another; none where it lacks places
abbrev pub closes : DriverInput → ℕ → ℕ → Driver → Driver
closes g r other d = if lacks_places d.past r other then d else closes_each g r (ends_at other) d

-- its clock starts anew with this
abbrev pub crashes : DriverInput → ℕ → ℕ → Driver → Driver
crashes g r clock d = sends g r (kinds.Crash clock) (closes_all (set_up_of g d r) (state_at g d r)) d

abbrev pub waits : ℕ → Driver → Driver
waits milliseconds d =
    let e : Entry = record { time = now d.past + milliseconds; count = newest_count d.past + 1; repo = None; kind = kinds.Wait milliseconds; taken = None; sent = []; lines = [] } in
    record d { past = e ∷ d.past }

-- the next such call fails
abbrev pub will_fail : ℕ → Call → Driver → Driver
will_fail r call d = record d { fails = d.fails ++ record { repo = r; call = call } ∷ [] }
