-- Where it goes on from.
use Rattle.std.proofs.Common.{◌≡◌, rules, sym, subst, ◌∙◌}
use Rattle.drop_phases.specs.Working.{sight}
use Rattle.remote_drops.proofs.RemoteCalls.{outcome_makes}
use Rattle.remote_drops.proofs.RemoteGoings.{outcome_goes}
use Rattle.drop_phases.proofs.Numbers.{each_number}
use Rattle.drop_phases.specs.Begun.{IsToEnd}
use Rattle.remote_requests.specs.Remote.{EndsSo}
use Rattle.drop_phases.specs.Leaving.{GoesSo, store}
use Rattle.drop_phases.specs.declared.phase.Phase.{Phase}
use Rattle.drop_phases.specs.declared.phase.Phase.TheVariants as phases
use Rattle.remote_requests.proofs.RemoteBegun.{end_gone, still_own}
use Rattle.remote_requests.proofs.Apart.{end_stays, stays_in}
use Rattle.remote_drops.proofs.acting.act.Goals as goal

pub returns-in-Next-clause-did : goal.returns-in-Next-clause-did
returns-in-Next-clause-did g c = c.go_on.ensures.did c.args.input.now.number

pub returns-in_ok-outcome-in-Removed-clause-did : goal.returns-in_ok-outcome-in-Removed-clause-did
returns-in_ok-outcome-in-Removed-clause-did g c =
    outcome_goes (g.H.Here.reading c.args.here.now) (g.H.Here.ends c.args.here.now) c.args.input.now.time c.args.input.now.number c.args.worker.now c.finish.new.worker c.args.table.now c.finish.new.table
    (store (g.K.Keeper.contents c.args.keeper.now) (g.K.Keeper.records c.args.keeper.now) (g.K.Keeper.faults c.args.keeper.now)) (store (g.K.Keeper.contents c.finish.new.keeper) (g.K.Keeper.records c.finish.new.keeper) (g.K.Keeper.faults c.finish.new.keeper))
    c.in_ok-outcome-in-Removed.outcome c.finish.result (search rules) c.in_ok-outcome-in-Removed.ensures c.finish.ensures.did

pub returns-in-Next-clause-numbered : goal.returns-in-Next-clause-numbered
returns-in-Next-clause-numbered g c = each_number c.args.input.now.number c.go_on.result c.go_on.ensures.numbered

pub returns-in_ok-outcome-in-Removed-clause-numbered : goal.returns-in_ok-outcome-in-Removed-clause-numbered
returns-in_ok-outcome-in-Removed-clause-numbered g c = each_number c.args.input.now.number c.finish.result c.finish.ensures.numbered

pub returns-in-Next-clause-calls : goal.returns-in-Next-clause-calls
returns-in-Next-clause-calls g c = c.go_on.ensures.calls c.args.input.now.number

pub returns-in_ok-outcome-in-Removed-clause-calls : goal.returns-in_ok-outcome-in-Removed-clause-calls
returns-in_ok-outcome-in-Removed-clause-calls g c =
    outcome_makes (sight (g.H.Here.reading c.args.here.now) (g.H.Here.ends c.args.here.now) c.args.input.now.time c.args.input.now.number) (g.K.Keeper.contents c.args.keeper.now) c.args.table.now c.args.worker.now (g.K.Keeper.failing c.args.keeper.now) (g.K.Keeper.failing c.finish.new.keeper) c.in_ok-outcome-in-Removed.outcome c.finish.result (search rules)
    (λ p fails rest. c.in_ok-outcome-in-Removed.ensures c.args.input.now.time c.args.input.now.number c.args.table.now p fails rest) c.finish.ensures.calls

pub go_on-requires-clause-own : goal.go_on-requires-clause-own
go_on-requires-clause-own g c = c.requires.own (λ fresh. let both : phases.Next ≡ phases.Fresh = sym c.in-Next.is ∙ (c.phase.ensures ∙ fresh) in cc)

pub returns-in_ok-outcome-in-Removed-clause-begun : goal.returns-in_ok-outcome-in-Removed-clause-begun
returns-in_ok-outcome-in-Removed-clause-begun g c = end_gone (g.H.Here.reading c.args.here.now) c.args.worker.now c.finish.new.worker c.finish.result c.requires.stands.fits c.finish.ensures.begun

pub returns-in-Next-clause-own : goal.returns-in-Next-clause-own
returns-in-Next-clause-own g c =
    still_own (g.H.Here.reading c.args.here.now) c.args.table.now c.go_on.new.table
    (store (g.K.Keeper.contents c.args.keeper.now) (g.K.Keeper.records c.args.keeper.now) (g.K.Keeper.faults c.args.keeper.now)) (store (g.K.Keeper.contents c.go_on.new.keeper) (g.K.Keeper.records c.go_on.new.keeper) (g.K.Keeper.faults c.go_on.new.keeper)) c.args.worker.now c.go_on.new.worker
    (GoesSo (sight (g.H.Here.reading c.args.here.now) (g.H.Here.ends c.args.here.now) c.args.input.now.time c.args.input.now.number) (g.K.Keeper.contents c.args.keeper.now) c.args.table.now c.go_on.new.table c.args.worker.now c.go_on.new.worker) c.go_on.result (c.go_on.ensures.did c.args.input.now.number)
    (c.requires.own (λ fresh. let both : phases.Next ≡ phases.Fresh = sym c.in-Next.is ∙ (c.phase.ensures ∙ fresh) in cc))

pub returns-in_ok-outcome-in-Removed-clause-own : goal.returns-in_ok-outcome-in-Removed-clause-own
returns-in_ok-outcome-in-Removed-clause-own g c =
    let to : IsToEnd c.args.worker.now.phase = search rules in
    still_own (g.H.Here.reading c.args.here.now) c.args.table.now c.finish.new.table
    (store (g.K.Keeper.contents c.args.keeper.now) (g.K.Keeper.records c.args.keeper.now) (g.K.Keeper.faults c.args.keeper.now)) (store (g.K.Keeper.contents c.finish.new.keeper) (g.K.Keeper.records c.finish.new.keeper) (g.K.Keeper.faults c.finish.new.keeper)) c.args.worker.now c.finish.new.worker
    (EndsSo (g.H.Here.reading c.args.here.now) (g.H.Here.ends c.args.here.now) c.args.input.now.time c.args.table.now c.finish.new.table c.args.worker.now c.finish.new.worker c.in_ok-outcome-in-Removed.outcome) c.finish.result c.finish.ensures.did
    (c.requires.own (λ fresh. subst (λ (ph : Phase). IsToEnd ph) fresh to))

pub returns-in-Next-clause-apart : goal.returns-in-Next-clause-apart
returns-in-Next-clause-apart g c = stays_in (g.H.Here.reading c.args.here.now).repo c.args.target c.args.worker.now c.go_on.new.worker c.go_on.result c.go_on.ensures.apart

pub returns-in_ok-outcome-in-Removed-clause-apart : goal.returns-in_ok-outcome-in-Removed-clause-apart
returns-in_ok-outcome-in-Removed-clause-apart g c =
    stays_in (g.H.Here.reading c.args.here.now).repo c.args.target c.args.worker.now c.finish.new.worker c.finish.result (end_stays c.args.target c.args.worker.now c.finish.new.worker c.finish.result c.finish.ensures.apart)
