-- What is counted of a run and its script: jobs that were done, jobs that ended otherwise, and beginnings without a slot (own).
use Rattle.std.specs.Prelude.{ℕ, ◌+◌, Bool, true, false, nat_lt, if◌then◌else◌, List, [], ◌∷◌, length, reverse}
use Rattle.std.specs.List.{range_with_len, sum_by}
use Rattle.run_data.specs.declared.entry.Entry.{Entry}
use Rattle.run_data.specs.declared.entry.EntryKind.{EntryKind}
use Rattle.run_data.specs.declared.entry.EntryKind.TheVariants.{Crash, End}
use Rattle.run_data.specs.declared.job.Outcome.{Outcome}
use Rattle.run_data.specs.declared.job.Outcome.TheVariants.{Refused, TransferRefused}
use Rattle.run_data.specs.declared.run.Run.{Run}
use Rattle.node_model.specs.Slots.{RunningJob}
use Rattle.run_model.specs.Past.{is_of, jobs}
use Rattle.script_commands.specs.declared.command.Command.{Command}
use Rattle.shown_text.specs.Lines.{slot_text}

-- A past is the entries before some place, the newest first.

-- ---- how jobs end

-- a job is done unless it is refused
abbrev pub is_done : Outcome → Bool
is_done (Refused cause) = false
is_done (TransferRefused cause) = false
is_done outcome = true

-- how many jobs an entry of the kind says to be done
abbrev pub done_by : EntryKind → ℕ
done_by (End j outcome) = if is_done outcome then 1 else 0
done_by kind = 0

-- how many it ends otherwise, of a repository in which these jobs run: the one that it refuses, or all by a crash
abbrev pub refused_by : List RunningJob → EntryKind → ℕ
refused_by running (End j outcome) = if is_done outcome then 0 else 1
refused_by running (Crash clock) = length running
refused_by running kind = 0

-- the jobs of r that were done
abbrev pub done_jobs : List Entry → ℕ → ℕ
done_jobs [] r = 0
done_jobs (e ∷ past) r = if is_of r e then done_jobs past r + done_by e.kind else done_jobs past r

-- those that ended otherwise
abbrev pub refused_jobs : List Entry → ℕ → ℕ
refused_jobs [] r = 0
refused_jobs (e ∷ past) r = if is_of r e then refused_jobs past r + refused_by (jobs past r) e.kind else refused_jobs past r

-- of all repositories
abbrev pub done_count : Run → ℕ
done_count run = sum_by (done_jobs (reverse run.entries)) (range_with_len 0 (length run.repos))

abbrev pub refused_count : Run → ℕ
refused_count run = sum_by (refused_jobs (reverse run.entries)) (range_with_len 0 (length run.repos))

-- ---- beginnings without a slot

-- the line, which made the entries from one place up to another, begins a job for which no slot was free: the report would say so
abbrev pub lacks_slot : Run → ℕ → ℕ → Command → Bool
lacks_slot run from upto command = nat_lt 0 (length (slot_text run from upto command))

-- how many of these lines do, of which the first made its entries from this place on, and each up to its mark
abbrev pub noslots_from : Run → ℕ → List Command → List ℕ → ℕ
noslots_from run from (c ∷ cs) (mark ∷ marks) = (if lacks_slot run from mark c then 1 else 0) + noslots_from run mark cs marks
noslots_from run from cs [] = 0
noslots_from run from [] marks = 0

abbrev pub noslot_count : List Command → Run → ℕ
noslot_count script run = noslots_from run 0 script run.marks
