-- A new fleet stands where the driver begins; after all lines it has the script's run.
use Rattle.std.proofs.Common.{false, refl, sym, subst}
use Rattle.run_data.specs.declared.run.Run.{Run}
use Rattle.driver_script.specs.Inputs.{driver_input_of}
use Rattle.script_answers.specs.Runs.{IsRunOf}
use Rattle.annex_cli.proofs.RunLemmas.{done_at_last}
use Rattle.annex_cli.proofs.runs.run_script.Goals as goal

pub run_lines-ended-requires-clause-stands : goal.run_lines-ended-requires-clause-stands
run_lines-ended-requires-clause-stands g c = λ κs lives. c.in_ok-fleet.ensures.stands (driver_input_of c.args.script.now) refl (record { decides = c.bytes_are_matched.ensures })

pub returns-in-Ok : goal.returns-in-Ok
returns-in-Ok g c = subst (λ (run : Run). IsRunOf c.args.script.now false run) (sym c.finish-run.ensures) (done_at_last _ c.args.script.now c.run_lines-ended.new.fleet c.in-Ok.ensures.done)
