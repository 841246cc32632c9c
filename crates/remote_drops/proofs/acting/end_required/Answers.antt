-- The end of a job whose target requires the content.
use Rattle.std.proofs.Common.{Some, sym, ap, subst, ◌∙◌}
use Rattle.drop_phases.specs.declared.phase.Phase.{Phase}
use Rattle.drop_phases.specs.Feeding.{FitsRemote}
use Rattle.drop_phases.specs.Leaving.{store}
use Rattle.drop_phases.specs.Working.{sight}
use Rattle.remote_drops.proofs.RemoteCalls.{required_makes}
use Rattle.remote_drops.proofs.RemoteGoings.{required_did}
use Rattle.remote_drops.proofs.Sharings.{unbarred}
use Rattle.remote_requests.proofs.RemoteBegun.{end_gone}
use Rattle.remote_requests.proofs.Apart.{end_stays}
use Rattle.remote_drops.proofs.acting.end_required.Goals as goal

pub finish-requires-clause-bare : goal.finish-requires-clause-bare
finish-requires-clause-bare g c =
    unbarred c.args.worker.now.token (subst (λ (ph : Phase). FitsRemote ph c.args.worker.now.token) c.requires.at c.requires.stands.fits)

pub returns-clause-did : goal.returns-clause-did
returns-clause-did g c = λ number.
    required_did (g.H.Here.reading c.args.here.now) (g.H.Here.ends c.args.here.now) c.args.time number c.args.worker.now c.finish.new.worker c.args.table.now c.finish.new.table
    (store (g.K.Keeper.contents c.args.keeper.now) (g.K.Keeper.records c.args.keeper.now) (g.K.Keeper.faults c.args.keeper.now)) (store (g.K.Keeper.contents c.finish.new.keeper) (g.K.Keeper.records c.finish.new.keeper) (g.K.Keeper.faults c.finish.new.keeper))
    c.args.target c.in_ok-expression.expression c.finish.result c.requires.stands.remote c.requires.at (c.requires.required ∙ ap Some (sym c.in_ok-expression.ensures.cases)) c.finish.ensures.did

pub returns-clause-calls : goal.returns-clause-calls
returns-clause-calls g c = λ number.
    required_makes (sight (g.H.Here.reading c.args.here.now) (g.H.Here.ends c.args.here.now) c.args.time number) (g.K.Keeper.contents c.args.keeper.now) c.args.table.now c.args.worker.now (g.K.Keeper.failing c.args.keeper.now) (g.K.Keeper.failing c.finish.new.keeper) c.args.target
    c.in_ok-expression.expression c.finish.result c.requires.stands.remote c.requires.at (c.requires.required ∙ ap Some (sym c.in_ok-expression.ensures.cases)) c.finish.ensures.calls

pub returns-clause-begun : goal.returns-clause-begun
returns-clause-begun g c = end_gone (g.H.Here.reading c.args.here.now) c.args.worker.now c.finish.new.worker c.finish.result c.requires.stands.fits c.finish.ensures.begun

pub returns-clause-ended : goal.returns-clause-ended
returns-clause-ended g c = c.finish.ensures.ended (subst (λ (ph : Phase). FitsRemote ph c.args.worker.now.token) c.requires.at c.requires.stands.fits)

pub returns-clause-apart : goal.returns-clause-apart
returns-clause-apart g c = end_stays c.args.target c.args.worker.now c.finish.new.worker c.finish.result c.finish.ensures.apart
