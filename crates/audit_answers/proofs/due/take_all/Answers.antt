-- What the proof of `due::take_all` needs beside the tactics.
use Rattle.std.proofs.Common.{◌+◌, ap, sym, ◌∙◌}
use Rattle.step_rules.specs.Runs.{start_of}
use Rattle.audit_answers.proofs.Taking.{at_same, none_of, was_refused, was_taken}
use Rattle.audit_answers.proofs.due.take_all.Goals as goal

pub returns-then-is_some-clause-taken : goal.returns-then-is_some-clause-taken
returns-then-is_some-clause-taken c =
    let run = c.args.run.now in
    let i = c.loop-entry.entry-index in
    let e = c.entry-item.result in
    let at = at_same run.entries c.as_slice-entry-items.result.now i e c.as_slice-entry-items.ensures c.loop-entry-test.true c.entry-item.is in
    let of = c.loop-entry.invariant.of in
    was_refused run i c.loop-entry.place e c.take.new.auditor c.in_ok-refusal.refusal (sym c.is_some.ensures ∙ c.if-is_some.true) at of.after.lawful c.loop-entry.invariant.place
    (c.in_ok-refusal.ensures.taken (start_of run i) of)

pub loop-entry-preserved : goal.loop-entry-preserved
loop-entry-preserved c =
    let run = c.args.run.now in
    let i = c.loop-entry.entry-index in
    let e = c.entry-item.result in
    let at = at_same run.entries c.as_slice-entry-items.result.now i e c.as_slice-entry-items.ensures c.loop-entry-test.true c.entry-item.is in
    let none = sym c.is_some.ensures ∙ c.if-is_some.false in
    record {
      carried = c.in_ok-refusal.ensures.carried;
      of = was_taken run i c.loop-entry.place e c.take.new.auditor c.in_ok-refusal.refusal none at (c.in_ok-refusal.ensures.taken (start_of run i) c.loop-entry.invariant.of);
      taken = c.in_ok-refusal.ensures.count (none_of c.in_ok-refusal.refusal none) ∙ ap (λ n. n + 1) c.loop-entry.invariant.taken;
      place = ap (λ n. n + 1) c.loop-entry.invariant.place;
    }
