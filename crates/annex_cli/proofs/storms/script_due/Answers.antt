-- Either no part is missing, or the first command for which one is missing is named.
use Rattle.std.proofs.Common.{ap, sym, ◌∙◌}
use Rattle.driver_script.specs.Lines.{first_unbuilt}
use Rattle.script_answers.proofs.StormLemmas.{missing_answers}
use Rattle.annex_cli.proofs.storms.script_due.Goals as goal

pub run_due-requires-clause-built : goal.run_due-requires-clause-built
run_due-requires-clause-built g c = λ κs lives. ap first_unbuilt (sym c.lines-commands.ensures) ∙ sym c.first_missing.ensures ∙ c.in-None.is

pub missing_due-requires-clause-first : goal.missing_due-requires-clause-first
missing_due-requires-clause-first g c = ap first_unbuilt (sym c.lines-commands.ensures) ∙ sym c.first_missing.ensures ∙ c.in-Some.is

pub returns-in-Some : goal.returns-in-Some
returns-in-Some g c =
    missing_answers c.missing_due.result c.args.storm.number c.args.storm.jobs c.args.bytes.now c.requires.text c.missing_due.ensures.due c.missing_due.ensures.script
