-- What holds at each turn of the loops of `run_report::report`.
use Rattle.std.proofs.Common.{◌≡◌, ◌≤◌, ◌+◌, ◌++◌, length, take}
use Rattle.std.specs.Slice.Iter.{iter_rest}
use Rattle.std.specs.Iterator.Adapters.{zip_first, zip_second}
use Rattle.annex_base.specs.Lists.{Each}
use Rattle.run_paths.specs.Paths.{IsIndexOf}
use Rattle.report_text.specs.Report.{report, report_from}
use Rattle.report_tables.specs.Walk.{ShowsKnown, StandsIn}
use Rattle.report_text.proofs.run_report.report.Given as goal

abbrev pub invariant-loop-command : goal.invariant-loop-command
invariant-loop-command l = StandsIn l.walk l.run
    × Each (ShowsKnown (length l.run.repos)) (iter_rest (zip_first l.command-iterator))
    × (report l.script l.run ≡ l.out.items ++ report_from l.run l.from l.changes l.syncs.items (iter_rest (zip_first l.command-iterator)) (iter_rest (zip_second l.command-iterator)))
    × (l.changes + length (iter_rest (zip_first l.command-iterator)) ≤ length l.script)
    × IsIndexOf (take l.changes l.run.tree) l.index
