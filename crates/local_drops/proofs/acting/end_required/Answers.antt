-- The content is required, or isn't there.
use Rattle.std.proofs.Common.{Some, Ok, refl, ap, sym, subst, ◌∙◌}
use Rattle.node_model.specs.Look.{failed_in}
use Rattle.content_lock.specs.declared.refusals.BarRefused.TheVariants as bars
use Rattle.drop_phases.specs.declared.turn.Output.{Output}
use Rattle.drop_phases.specs.Working.{sight}
use Rattle.drop_phases.specs.Leaving.{Fails, store}
use Rattle.drop_phases.specs.Feeding.{IsOfLocal}
use Rattle.drop_phases.proofs.Callings.{local_closed}
use Rattle.local_drops.proofs.LocalCalls.{begin_fails, begin_makes}
use Rattle.local_drops.proofs.Firsts.{absent_did, fails_did, required_did}
use Rattle.local_drops.proofs.Goings.{refusal_gone, unbarred_gone}
use Rattle.local_drops.proofs.acting.end_required.Goals as goal

pub returns-in-Ok-false-clause-does : goal.returns-in-Ok-false-clause-does
returns-in-Ok-false-clause-does g c = λ time number rows own.
    absent_did (sight (g.H.Here.reading c.args.here.now) (g.H.Here.ends c.args.here.now) time number) rows rows
    (store (g.K.Keeper.contents c.args.keeper.now) (g.K.Keeper.records c.args.keeper.now) (g.K.Keeper.faults c.args.keeper.now)) (store (g.K.Keeper.contents c.has.new.self) (g.K.Keeper.records c.has.new.self) (g.K.Keeper.faults c.has.new.self))
    c.args.worker.now c.args.worker.now c.requires.local c.requires.fresh c.requires.bare own c.in_ok-sends.sends c.in_ok-sends.ensures refl c.in-Ok-false.ensures.contents c.in-Ok-false.ensures.records
    c.in-Ok-false.ensures.later (Ok c.refused-in-Ok-false.result) (λ k told. rw c.key.ensures at (sym (c.in-Ok-false.ensures.ok k told) ∙ c.in-Ok-false.field-0-test)) (refl, ap Ok c.refused-in-Ok-false.ensures)

pub returns-in-Ok-true-clause-does : goal.returns-in-Ok-true-clause-does
returns-in-Ok-true-clause-does g c = λ time number rows own.
    required_did (sight (g.H.Here.reading c.args.here.now) (g.H.Here.ends c.args.here.now) time number) rows rows
    (store (g.K.Keeper.contents c.args.keeper.now) (g.K.Keeper.records c.args.keeper.now) (g.K.Keeper.faults c.args.keeper.now)) (store (g.K.Keeper.contents c.has.new.self) (g.K.Keeper.records c.has.new.self) (g.K.Keeper.faults c.has.new.self))
    c.args.worker.now c.args.worker.now c.requires.local c.requires.fresh c.requires.bare own c.in_ok-sends.sends c.in_ok-sends.ensures refl c.in-Ok-true.ensures.contents c.in-Ok-true.ensures.records
    c.in-Ok-true.ensures.later c.in_ok-expression.expression (Ok c.refused.result) (c.requires.required ∙ ap Some (sym c.in_ok-expression.ensures.cases)) (λ k told. rw c.key.ensures at (sym (c.in-Ok-true.ensures.ok k told) ∙ c.in-Ok-true.field-0-test)) (refl, ap Ok c.refused.ensures)

pub returns-in-Err-clause-does : goal.returns-in-Err-clause-does
returns-in-Err-clause-does g c = λ time number rows own.
    let failed : Fails c.args.worker.now c.fail.new.self c.fail.result = record { kind = c.fail.ensures.says.0; sends = c.fail.ensures.says.1; ended = c.fail.ensures.says.2; next = c.fail.ensures.next } in
    fails_did (sight (g.H.Here.reading c.args.here.now) (g.H.Here.ends c.args.here.now) time number) rows rows
    (store (g.K.Keeper.contents c.args.keeper.now) (g.K.Keeper.records c.args.keeper.now) (g.K.Keeper.faults c.args.keeper.now)) (store (g.K.Keeper.contents c.has.new.self) (g.K.Keeper.records c.has.new.self) (g.K.Keeper.faults c.has.new.self))
    c.args.worker.now c.fail.new.self c.requires.local c.requires.fresh c.requires.bare own c.in_ok-sends.sends c.in_ok-sends.ensures refl c.in-Err.ensures.contents c.in-Err.ensures.records
    c.in-Err.ensures.later c.fail.result failed c.in-Err.ensures.cause

pub returns-in-Ok-false-clause-begun : goal.returns-in-Ok-false-clause-begun
returns-in-Ok-false-clause-begun g c = refusal_gone (g.H.Here.reading c.args.here.now) c.args.worker.now c.args.worker.now _ _ c.requires.bare refl refl refl (ap Ok c.refused-in-Ok-false.ensures)

pub returns-in-Ok-true-clause-begun : goal.returns-in-Ok-true-clause-begun
returns-in-Ok-true-clause-begun g c = refusal_gone (g.H.Here.reading c.args.here.now) c.args.worker.now c.args.worker.now _ _ c.requires.bare refl refl refl (ap Ok c.refused.ensures)

pub returns-in-Err-clause-begun : goal.returns-in-Err-clause-begun
returns-in-Err-clause-begun g c =
    let failed : Fails c.args.worker.now c.fail.new.self c.fail.result = record { kind = c.fail.ensures.says.0; sends = c.fail.ensures.says.1; ended = c.fail.ensures.says.2; next = c.fail.ensures.next } in
    unbarred_gone (g.H.Here.reading c.args.here.now) c.args.worker.now c.fail.new.self c.in_ok-sends.sends bars.StoreFault (Ok c.fail.result) c.requires.bare (failed, tt)

pub returns-in-Ok-false-clause-calls : goal.returns-in-Ok-false-clause-calls
returns-in-Ok-false-clause-calls g c = λ time number rows own.
    begin_makes (sight (g.H.Here.reading c.args.here.now) (g.H.Here.ends c.args.here.now) time number) (g.K.Keeper.contents c.args.keeper.now) rows c.args.worker.now (g.K.Keeper.failing c.args.keeper.now) (g.K.Keeper.failing c.has.new.self) c.requires.local c.requires.fresh
    (local_closed c.args.worker.now rows (subst IsOfLocal (sym c.requires.bare) tt) own) c.refused-in-Ok-false.result (ap (λ (o : Output). failed_in o.kind) c.refused-in-Ok-false.ensures) c.in-Ok-false.ensures.failing

pub returns-in-Ok-true-clause-calls : goal.returns-in-Ok-true-clause-calls
returns-in-Ok-true-clause-calls g c = λ time number rows own.
    begin_makes (sight (g.H.Here.reading c.args.here.now) (g.H.Here.ends c.args.here.now) time number) (g.K.Keeper.contents c.args.keeper.now) rows c.args.worker.now (g.K.Keeper.failing c.args.keeper.now) (g.K.Keeper.failing c.has.new.self) c.requires.local c.requires.fresh
    (local_closed c.args.worker.now rows (subst IsOfLocal (sym c.requires.bare) tt) own) c.refused.result (ap (λ (o : Output). failed_in o.kind) c.refused.ensures) c.in-Ok-true.ensures.failing

pub returns-in-Err-clause-calls : goal.returns-in-Err-clause-calls
returns-in-Err-clause-calls g c = λ time number rows own.
    begin_fails (sight (g.H.Here.reading c.args.here.now) (g.H.Here.ends c.args.here.now) time number) (g.K.Keeper.contents c.args.keeper.now) rows c.args.worker.now (g.K.Keeper.failing c.args.keeper.now) (g.K.Keeper.failing c.has.new.self) c.requires.local c.requires.fresh
    (local_closed c.args.worker.now rows (subst IsOfLocal (sym c.requires.bare) tt) own) c.fail.result (ap failed_in c.fail.ensures.says.0) c.in-Err.ensures.failing
