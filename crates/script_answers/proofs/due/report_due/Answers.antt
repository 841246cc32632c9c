-- The run of the script is what the report wants, and is good.
use Rattle.std.proofs.Common.{◌++◌, inr, sym, ap, ◌∙◌, subst, List, length, arith}
use Rattle.annex_base.specs.Lists.{Each}
use Rattle.script_commands.specs.declared.command.Command.{Command}
use Rattle.driver_script.specs.Script.{IsScript}
use Rattle.report_text.specs.Report.{report}
use Rattle.report_text.specs.Walk.{ShowsKnown}
use Rattle.script_answers.specs.Top.{entries_name, limit_text}
use Rattle.script_answers.proofs.DueLemmas.{HaveOneReading}
use Rattle.script_answers.proofs.GoodLemmas.{Laws, cut_is_due, good_run, run_has_repos, run_shows_known, whole_is_due}
use Rattle.script_answers.proofs.ReportLemmas.{run_ahead, run_formed}
use Rattle.script_answers.proofs.due.report_due.Goals as goal

pub report-requires-clause-formed : goal.report-requires-clause-formed
report-requires-clause-formed c =
    let run = c.args.ran.now.run in
    run_formed run c.requires.run.lawful (c.runs_log_lines.ensures run c.requires.run.lawful)

pub report-requires-clause-ahead : goal.report-requires-clause-ahead
report-requires-clause-ahead c = run_ahead c.args.ran.now.run c.requires.run.lawful

pub report-requires-clause-few : goal.report-requires-clause-few
report-requires-clause-few c =
    let is : IsScript c.args._bytes.now c.args.script.now = record { says = c.requires.says; built = c.requires.run.built } in
    let few = c.scripts_may_be_driven.ensures.few c.args._bytes.now c.args.script.now is in
    let same = ap length (run_has_repos c.args._bytes.now c.args.script.now _ c.args.ran.now.run c.requires.says c.requires.run) in
    omega (arith, few, same)

pub report-requires-clause-known : goal.report-requires-clause-known
report-requires-clause-known c =
    let stand = c.commands_stand.ensures c.args._bytes.now c.args.script.now c.requires.says in
    subst (λ (cs : List Command). Each (ShowsKnown (length c.args.ran.now.run.repos)) cs) (sym c.lines-commands.ensures)
    (run_shows_known c.args._bytes.now c.args.script.now _ c.args.ran.now.run c.requires.says c.requires.run stand)

pub returns-then-ran-clause-due : goal.returns-then-ran-clause-due
returns-then-ran-clause-due c =
    let written = c.in_ok-put_limit.ensures ∙ ap (λ text. text ++ limit_text entries_name 100000) (c.in_ok-text.ensures ∙ ap (λ cs. report cs c.args.ran.now.run) c.lines-commands.ensures) in
    inr (inr (cut_is_due c.args._bytes.now c.args.script.now _ c.args.ran.now.run c.requires.says c.requires.run _ c.requires.short c.cut_script_runs_have_a_full_history.ensures c.if-ran.true written))

pub returns-then-ran-clause-good : goal.returns-then-ran-clause-good
returns-then-ran-clause-good c =
    let law = c.scripts_are_built_or_not.ensures in
    let one : HaveOneReading = record { script = law.script; line = law.line; one = law.one } in
    let laws : Laws = record { copies = c.runs_keep_copies.ensures; safe = c.runs_are_safe.ensures; causes = c.refusals_have_causes.ensures } in
    good_run c.args._bytes.now c.args.script.now _ c.args.ran.now.run c.requires.says c.requires.run one laws

pub returns-clause-due : goal.returns-clause-due
returns-clause-due c =
    let written = c.in_ok-text.ensures ∙ ap (λ cs. report cs c.args.ran.now.run) c.lines-commands.ensures in
    whole_is_due c.args._bytes.now c.args.script.now _ c.args.ran.now.run c.requires.says c.requires.run _ c.requires.short c.if-ran.false written

pub returns-clause-good : goal.returns-clause-good
returns-clause-good c =
    let law = c.scripts_are_built_or_not.ensures in
    let one : HaveOneReading = record { script = law.script; line = law.line; one = law.one } in
    let laws : Laws = record { copies = c.runs_keep_copies.ensures; safe = c.runs_are_safe.ensures; causes = c.refusals_have_causes.ensures } in
    good_run c.args._bytes.now c.args.script.now _ c.args.ran.now.run c.requires.says c.requires.run one laws
