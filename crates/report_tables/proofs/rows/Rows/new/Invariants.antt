-- What holds at each turn of the loops of `rows::Rows::new`.
use Rattle.std.proofs.Common.{◌≡◌, ◌<◌, ℕ, [], length}
use Rattle.std.specs.List.{slice_index_or}
use Rattle.report_tables.specs.declared.rows.RepoRows.{RepoRows}
use Rattle.report_tables.specs.Rows.{HasRepo}
use Rattle.report_tables.proofs.rows.Rows.new.Given as goal

abbrev pub invariant-loop-repo : goal.invariant-loop-repo
invariant-loop-repo l = (length l.rows.items ≡ l.repo-index)
    × ((r : ℕ) (none : RepoRows) → r < l.repo-index → HasRepo (slice_index_or l.rows.items r none) l.repos [] r)
