-- The script may be run.
use Rattle.std.proofs.Common.{arith}
use Rattle.driver_script.specs.Script.{IsScript}
use Rattle.annex_cli.proofs.due.run_due.Goals as goal

pub run_script-requires-clause-stand : goal.run_script-requires-clause-stand
run_script-requires-clause-stand g c = λ κs lives. c.commands_stand.ensures c.args.bytes.now c.args.script.now c.requires.says

pub run_script-requires-clause-run : goal.run_script-requires-clause-run
run_script-requires-clause-run g c = λ κs lives.
    let is : IsScript c.args.bytes.now c.args.script.now = record { says = c.requires.says; built = c.requires.built } in
    let law = c.scripts_may_be_driven.ensures in
    let few = law.few c.args.bytes.now c.args.script.now is in
    record { few = omega (arith, few); each = law.repos c.args.bytes.now c.args.script.now is; apart = law.apart c.args.bytes.now c.args.script.now is }

pub run_script-requires-clause-repos : goal.run_script-requires-clause-repos
run_script-requires-clause-repos g c = λ κs lives.
    c.scripts_may_be_driven.ensures.few c.args.bytes.now c.args.script.now (record { says = c.requires.says; built = c.requires.built })

pub run_script-requires-clause-few : goal.run_script-requires-clause-few
run_script-requires-clause-few g c = λ κs lives.
    let lines = c.scripts_have_few_lines.ensures c.args.bytes.now c.args.script.now c.requires.says in
    let short = c.requires.short in
    omega (arith, lines, short)
