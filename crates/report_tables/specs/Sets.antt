-- What a table of settings knows (own).
use Rattle.std.specs.Prelude.{◌≡◌, ℕ, ◌<◌, List, length, None, IfSome}
use Rattle.std.specs.List.{slice_index_or}
use Rattle.union_merge.specs.Branch.{lines_at}
use Rattle.trust_groups.specs.Settings.{settings}
use Rattle.trust_groups.specs.View.{settings_of}
use Rattle.run_data.specs.declared.entry.Entry.{Entry}
use Rattle.report_tables.specs.declared.sets.Sets.{Sets}
use Rattle.run_model.specs.Logs.{branch}

-- The table has a place for each of so many repositories, and what was read for one is what its branch sets after these entries,
-- the newest first.
pub record HasSets (sets : Sets) (repositories : ℕ) (past : List Entry) : Type 0 where
  pub number_is : length sets.read.items ≡ repositories
  pub each : (r : ℕ) → r < repositories → IfSome (slice_index_or sets.read.items r None) (λ indices. settings_of indices ≡ settings (lines_at (branch past r)))
