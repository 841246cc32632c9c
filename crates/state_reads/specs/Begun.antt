-- The drops at whose first step an entry may stand, and those that are past it (own).
use Rattle.std.specs.Prelude.{ℕ, Bool, true, false, ◌==◌, if◌then◌else◌, List, find, Option, Some, None}
use Rattle.run_data.specs.declared.entry.EntryKind.{EntryKind}
use Rattle.node_model.specs.After.{has_read}
use Rattle.node_model.specs.Jobs.{Drops, Fresh, Part, Phase, Work}
use Rattle.node_model.specs.Slots.{job_of}

-- the drop of a job that is at this is to begin
abbrev pub begins : Part → Phase → Bool
begins Drops Fresh = true
begins part phase = false

-- the job, if its drop is to begin
abbrev pub if_begins : Option Work → Option Work
if_begins None = None
if_begins (Some w) = if begins w.part w.phase then Some w else None

-- the running job of this number
abbrev pub work_at : List Work → Option ℕ → Option Work
work_at ws None = None
work_at ws (Some job) = find (λ w. w.number == job) ws

-- the running job that made an entry of this kind, if its drop is to begin
abbrev pub begun_drop : List Work → EntryKind → Option Work
begun_drop ws kind = if_begins (work_at ws (job_of kind))

-- there is such a job, and its drop is past its first step; for private contracts
abbrev pub drop_has_read : Option Work → Bool
drop_has_read None = false
drop_has_read (Some w) = has_read w.part w.phase
