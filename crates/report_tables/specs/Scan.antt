-- A setting of a clock as runs have it, and what the end of a job changes in holds (own).
use Rattle.std.specs.Prelude.{ℕ, Bool, not, ◌||◌, if◌then◌else◌, List, filter, map}
use Rattle.run_data.specs.declared.entry.By.TheVariants.{Job as by_job}
use Rattle.run_data.specs.declared.row.Hold.{Hold}
use Rattle.node_model.specs.Clocks.{ClockSet}
use Rattle.node_model.specs.Rows.{keep_of, same_owner}
use Rattle.report_tables.specs.declared.clock.Setting.{Setting}

-- the setting, as the clocks of runs have it
abbrev pub set_of : Setting → ClockSet
set_of s = record { at = s.at; to = s.to }

-- the hold stays after the end of this job, which has its answers
abbrev pub outlives : ℕ → Hold → Bool
outlives j h = h.kept || not (same_owner h.owner (by_job j))

-- the holds after the end of a job, which has lost the answer to its order or not
abbrev pub holds_after_end : ℕ → Bool → List Hold → List Hold
holds_after_end j lost was = if lost then map (keep_of (by_job j)) was else filter (outlives j) was
