-- What the proof of `allowed::step_allowed` needs beside the tactics.
use Rattle.std.proofs.Common.{ap, arith, subst, sym, take, ◌+◌, ◌∙◌, ◌≤◌}
use Rattle.step_rules.specs.Allowed.{TellsFirst}
use Rattle.step_rules.specs.Runs.{start_of}
use Rattle.step_rules.specs.States.{IsAfter}
use Rattle.step_rules.proofs.Changing.{first_told, handed_on}
use Rattle.step_rules.proofs.Places.{at_start}
use Rattle.step_rules.proofs.Starts.{start_more}
use Rattle.step_rules.proofs.allowed.step_allowed.Goals as goal

pub returns-in_err-take-clause-wanted : goal.returns-in_err-take-clause-wanted
returns-in_err-take-clause-wanted c =
    let run = c.args.run.now in
    let i = c.loop-entry.entry-index in
    let e = c.entry-item.result in
    let w = c.in_err-take.field-0.0 in
    let at = at_start run.entries c.split_at.result.0.now (c.args.place + 1) i e (c.split_at.ensures.front ∙ ap (take (c.args.place + 1)) c.as_slice.ensures) c.loop-entry-test.true c.entry-item.is in
    let low = at.0 in
    let within : i ≤ c.args.place = omega (arith, low) in
    let after = c.loop-entry.invariant.after in
    handed_on (TellsFirst run c.args.place) c.from_residual-in_err-take.result w c.from_residual-in_err-take.ensures.1
    (first_told run c.args.place i e w within after.lawful at.1 (c.in_err-take.ensures.wanted (start_of run i) after))

pub loop-entry-preserved : goal.loop-entry-preserved
loop-entry-preserved c =
    let run = c.args.run.now in
    let i = c.loop-entry.entry-index in
    let e = c.entry-item.result in
    let at = at_start run.entries c.split_at.result.0.now (c.args.place + 1) i e (c.split_at.ensures.front ∙ ap (take (c.args.place + 1)) c.as_slice.ensures) c.loop-entry-test.true c.entry-item.is in
    record {
      carried = c.in_ok-take.ensures.carried;
      after = subst (IsAfter c.take.new.self) (sym (start_more run i e at.1)) (c.in_ok-take.ensures.ok (start_of run i) c.loop-entry.invariant.after);
      taken = c.in_ok-take.ensures.taken ∙ ap (λ n. n + 1) c.loop-entry.invariant.taken;
    }
