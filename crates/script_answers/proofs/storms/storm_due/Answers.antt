-- The run of a storm's script is what its line wants, and is good.
use Rattle.std.proofs.Common.{ap, ◌∙◌, length, arith}
use Rattle.driver_script.specs.Script.{IsScript}
use Rattle.storm_line.specs.Line.{storm_line}
use Rattle.script_answers.proofs.DueLemmas.{HaveOneReading}
use Rattle.script_answers.proofs.GoodLemmas.{Laws, run_has_repos}
use Rattle.script_answers.proofs.ReportLemmas.{run_ahead, run_formed}
use Rattle.script_answers.proofs.StormLemmas.{answered_by, cut_answers, line_answers}
use Rattle.script_answers.proofs.storms.storm_due.Goals as goal

pub storm_line-requires-clause-formed : goal.storm_line-requires-clause-formed
storm_line-requires-clause-formed c =
    let run = c.args.ran.now.run in
    run_formed run c.requires.run.lawful (c.runs_log_lines.ensures run c.requires.run.lawful)

pub storm_line-requires-clause-ahead : goal.storm_line-requires-clause-ahead
storm_line-requires-clause-ahead c = run_ahead c.args.ran.now.run c.requires.run.lawful

pub storm_line-requires-clause-few : goal.storm_line-requires-clause-few
storm_line-requires-clause-few c =
    let is : IsScript c.args._bytes.now c.args.script.now = record { says = c.requires.says; built = c.requires.run.built } in
    let few = c.scripts_may_be_driven.ensures.few c.args._bytes.now c.args.script.now is in
    let same = ap length (run_has_repos c.args._bytes.now c.args.script.now _ c.args.ran.now.run c.requires.says c.requires.run) in
    omega (arith, few, same)

pub returns-then-ran : goal.returns-then-ran
returns-then-ran c =
    let law = c.scripts_are_built_or_not.ensures in
    let one : HaveOneReading = record { script = law.script; line = law.line; one = law.one } in
    answered_by c.limit_due.result c.args.storm.number c.args.storm.jobs _ _ c.limit_due.ensures
    (cut_answers c.args.storm.number c.args.storm.jobs c.args._bytes.now c.args.script.now _ c.args.ran.now.run c.requires.text c.requires.says c.requires.run one
    c.storms_say_their_commands.ensures c.if-ran.true)

pub returns : goal.returns
returns c =
    let law = c.scripts_are_built_or_not.ensures in
    let one : HaveOneReading = record { script = law.script; line = law.line; one = law.one } in
    let laws : Laws = record { copies = c.runs_keep_copies.ensures; safe = c.runs_are_safe.ensures; causes = c.refusals_have_causes.ensures } in
    let written = c.in_ok-text.ensures ∙ ap (λ cs. storm_line c.args.storm.number c.args.storm.jobs cs c.args.ran.now.run) c.lines-commands.ensures in
    line_answers c.args.storm.number c.args.storm.jobs c.args._bytes.now c.args.script.now _ c.args.ran.now.run c.requires.text c.requires.says c.requires.run _ one c.storms_say_their_commands.ensures laws
    c.good_storms_keep_their_keys.ensures c.if-ran.false written
