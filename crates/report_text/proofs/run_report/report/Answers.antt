-- What the proof of `run_report::report` needs beside the tactics.
use Rattle.std.proofs.Common.{arith, rules, List, ℕ, [], ◌∙◌, ap, sym, ◌++◌}
use Rattle.std.proofs.lemmas.Grind.{common_steps}
use Rattle.std.proofs.lemmas.Slice.Zip.{either_empty_from_Zip}
use Rattle.report_text.proofs.Reported.{report_end}
use Rattle.report_text.proofs.run_report.report.Goals as goal

pub returns : goal.returns
returns c =
    let over = either_empty_from_Zip c.loop-command.command-iterator c.next.new.self c.next.result c.in-None.is c.next.ensures.steps in
    (rw (c.as_slice-entries.ensures, c.as_slice-told.ensures.value) at c.in_ok-put_ended.ensures)
    ∙ ap (λ (l : List ℕ). c.loop-command.out.items ++ l) (sym (report_end c.args.run.now c.loop-command.from c.loop-command.changes c.loop-command.syncs.items _ _ over))
    ∙ sym c.loop-command.invariant.2

pub loop-command-init : goal.loop-command-init
loop-command-init c = (search rules, search rules, search rules, search rules, c.in_ok-index.ensures [])

pub loop-command-preserved : goal.loop-command-preserved
loop-command-preserved c =
    (search rules, search rules, grind (arith, common_steps), search rules, c.trees_have_all_marks_before.ensures.further c.args.run.now.tree c.loop-command.changes c.changes_of-changes.result _ c.in_ok-put_line.ensures.index)
