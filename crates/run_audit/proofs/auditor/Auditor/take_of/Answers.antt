-- What the proof of `auditor::Auditor::take_of` needs beside the tactics.
use Rattle.std.proofs.Common.{refl}
use Rattle.run_data.specs.declared.run.Run.{Run}
use Rattle.step_rules.specs.Runs.{with_entry}
use Rattle.step_rules.specs.States.{TellsOf}
use Rattle.run_audit.specs.Audited.{IsAuditorOf}
use Rattle.run_audit.specs.declared.auditor.Auditor.{Auditor}
use Rattle.run_audit.proofs.Taken.{Laws, few, handed_on, on_err_always, stays, taken}
use Rattle.run_audit.proofs.auditor.Auditor.take_of.Goals as goal

pub returns-in_err-ready-clause-same : goal.returns-in_err-ready-clause-same
returns-in_err-ready-clause-same c =
    let x = c.args.self.now in
    let y : Auditor = record x { records = c.ready.new.self } in
    on_err_always c.from_residual-in_err-ready.result (stays x y (λ run after. after) refl c.in_err-ready.ensures.same refl)

pub returns-in_err-ready-clause-carried : goal.returns-in_err-ready-clause-carried
returns-in_err-ready-clause-carried c =
    let x = c.args.self.now in
    let y : Auditor = record x { records = c.ready.new.self } in
    let run = c.requires.carried.run in
    record { carried = c.requires.carried.carried; run = run; of = stays x y (λ run after. after) refl c.in_err-ready.ensures.same refl run c.requires.carried.of }

pub returns-in_err-reserve-clause-same : goal.returns-in_err-reserve-clause-same
returns-in_err-reserve-clause-same c =
    let x = c.args.self.now in
    let y : Auditor = record x { records = c.ready.new.self; orders = c.reserve.new.self } in
    on_err_always c.from_residual-in_err-reserve.result (stays x y (λ run after. after) refl c.in_ok-ready.ensures.same c.in_err-reserve.ensures.same)

pub returns-in_err-reserve-clause-carried : goal.returns-in_err-reserve-clause-carried
returns-in_err-reserve-clause-carried c =
    let x = c.args.self.now in
    let y : Auditor = record x { records = c.ready.new.self; orders = c.reserve.new.self } in
    let run = c.requires.carried.run in
    record { carried = c.requires.carried.carried; run = run; of = stays x y (λ run after. after) refl c.in_ok-ready.ensures.same c.in_err-reserve.ensures.same run c.requires.carried.of }

pub returns-in_err-take-clause-wanted : goal.returns-in_err-take-clause-wanted
returns-in_err-take-clause-wanted c =
    handed_on (λ w. (run : Run) → IsAuditorOf c.args.self.now run → TellsOf run c.args.entry.now w) c.from_residual-in_err-take.result c.in_err-take.field-0.0 c.from_residual-in_err-take.ensures.1 (λ run of. c.in_err-take.ensures.wanted run of.after)

pub returns-in_err-take-clause-same : goal.returns-in_err-take-clause-same
returns-in_err-take-clause-same c =
    let x = c.args.self.now in
    let y : Auditor = record x { state = c.take.new.self; records = c.ready.new.self; orders = c.reserve.new.self } in
    on_err_always c.from_residual-in_err-take.result (stays x y c.in_err-take.ensures.same refl c.in_ok-ready.ensures.same c.in_ok-reserve.ensures.same)

pub returns-in_err-take-clause-carried : goal.returns-in_err-take-clause-carried
returns-in_err-take-clause-carried c =
    let x = c.args.self.now in
    let y : Auditor = record x { state = c.take.new.self; records = c.ready.new.self; orders = c.reserve.new.self } in
    let run = c.requires.carried.run in
    record { carried = c.in_err-take.ensures.carried; run = run; of = stays x y c.in_err-take.ensures.same refl c.in_ok-ready.ensures.same c.in_ok-reserve.ensures.same run c.requires.carried.of }

pub note-requires-clause-few : goal.note-requires-clause-few
note-requires-clause-few c = few c.args.self.now c.requires.carried c.requires.few c.ready.new.self c.in_ok-ready.ensures.same

pub returns-clause-ok : goal.returns-clause-ok
returns-clause-ok c =
    let x = c.args.self.now in
    let y : Auditor = record x { state = c.take.new.self; records = c.note.new.self; orders = c.keep.new.self } in
    let laws : Laws = record {
      drops = record {
        removes = c.removals_tell_their_evidence.ensures;
        obeys = c.removals_take_their_orders.ensures;
        orders = c.orders_tell_their_evidence.ensures;
        frames = c.orders_are_kept_by_their_frames.ensures;
      };
      starts = c.starts_of_runs_break_no_rule.ensures;
      permits = c.rules_decide.ensures.permits;
    } in
    taken laws x y c.args.entry.now c.args.repo c.requires.own c.in_ok-take.ensures.ok refl c.ready.new.self c.in_ok-ready.ensures.same c.in_ok-proof.proof c.in_ok-proof.ensures c.note.ensures
    c.reserve.new.self c.in_ok-reserve.ensures.same c.in_ok-ordered.ordered c.in_ok-ordered.ensures c.keep.ensures

pub returns-clause-carried : goal.returns-clause-carried
returns-clause-carried c = record {
  carried = c.in_ok-take.ensures.carried;
  run = with_entry c.requires.carried.run c.args.entry.now;
  of = returns-clause-ok c c.requires.carried.run c.requires.carried.of;
}
