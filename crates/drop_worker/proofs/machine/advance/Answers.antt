-- Of a local drop, or of a remote one.
use Rattle.std.proofs.Common.{sym, ◌∙◌, subst}
use Rattle.drop_proof.specs.declared.rule.Side.{Side}
use Rattle.drop_phases.specs.Leaving.{store}
use Rattle.drop_phases.specs.Sides.{CanShare, FitsSide, HearsOwn, side_in}
use Rattle.drop_phases.specs.Working.{sight}
use Rattle.drop_worker.proofs.Machines.{local_did, no_target, remote_did, target_other, target_peer, target_remote}
use Rattle.drop_worker.proofs.Goings.{local_own, remote_own}
use Rattle.remote_requests.proofs.Apart.{local_apart, remote_apart}
use Rattle.drop_worker.proofs.machine.advance.Goals as goal

pub step_local-requires-clause-local : goal.step_local-requires-clause-local
step_local-requires-clause-local g c = no_target (side_in c.args.worker.now) c.args.worker.now.job.peer (g.H.Here.reading c.args.here.now) c.requires.target (sym c.target.ensures ∙ c.in-None.is)

pub step_local-requires-clause-fits : goal.step_local-requires-clause-fits
step_local-requires-clause-fits g c =
    subst (λ (s : Side). FitsSide s c.args.worker.now.phase c.args.worker.now.token)
    (no_target (side_in c.args.worker.now) c.args.worker.now.job.peer (g.H.Here.reading c.args.here.now) c.requires.target (sym c.target.ensures ∙ c.in-None.is)) c.requires.fits

pub step_remote-requires-clause-stands : goal.step_remote-requires-clause-stands
step_remote-requires-clause-stands g c =
    let w = c.args.worker.now in
    let is = target_remote (side_in c.args.worker.now) c.args.worker.now.job.peer c.in-Some.target (sym c.target.ensures ∙ c.in-Some.is) in
    record {
      remote = record { side = is; peer = target_peer (side_in w) w.job.peer c.in-Some.target (sym c.target.ensures ∙ c.in-Some.is) };
      owns = c.requires.owns;
      fits = subst (λ (s : Side). FitsSide s w.phase w.token) is c.requires.fits;
      agrees = (subst (λ (s : Side). CanShare s (g.K.Keeper.records c.args.keeper.now) c.args.table.now.holds c.args.input.now.number) is c.requires.shares).0;
    }

pub step_remote-requires-clause-other : goal.step_remote-requires-clause-other
step_remote-requires-clause-other g c =
    target_other (side_in c.args.worker.now) c.args.worker.now.job.peer c.in-Some.target (g.H.Here.reading c.args.here.now) c.requires.target (sym c.target.ensures ∙ c.in-Some.is)

pub step_remote-requires-clause-fresh : goal.step_remote-requires-clause-fresh
step_remote-requires-clause-fresh g c =
    (subst (λ (s : Side). CanShare s (g.K.Keeper.records c.args.keeper.now) c.args.table.now.holds c.args.input.now.number)
    (target_remote (side_in c.args.worker.now) c.args.worker.now.job.peer c.in-Some.target (sym c.target.ensures ∙ c.in-Some.is)) c.requires.shares).1

pub returns-in-None-clause-does : goal.returns-in-None-clause-does
returns-in-None-clause-does g c =
    let w = c.args.worker.now in
    let local = no_target (side_in c.args.worker.now) c.args.worker.now.job.peer (g.H.Here.reading c.args.here.now) c.requires.target (sym c.target.ensures ∙ c.in-None.is) in
    local_did (sight (g.H.Here.reading c.args.here.now) (g.H.Here.ends c.args.here.now) c.args.input.now.time c.args.input.now.number) c.args.table.now c.step_local.new.table (store (g.K.Keeper.contents c.args.keeper.now) (g.K.Keeper.records c.args.keeper.now) (g.K.Keeper.faults c.args.keeper.now)) (store (g.K.Keeper.contents c.step_local.new.keeper) (g.K.Keeper.records c.step_local.new.keeper) (g.K.Keeper.faults c.step_local.new.keeper))
    w c.step_local.new.worker c.args.input.now.taken c.args.input.now.word c.step_local.result local (subst (λ (s : Side). FitsSide s w.phase w.token) local c.requires.fits) c.step_local.ensures.does

pub returns-in-Some-clause-does : goal.returns-in-Some-clause-does
returns-in-Some-clause-does g c =
    let w = c.args.worker.now in
    remote_did (sight (g.H.Here.reading c.args.here.now) (g.H.Here.ends c.args.here.now) c.args.input.now.time c.args.input.now.number) c.args.table.now c.step_remote.new.table (store (g.K.Keeper.contents c.args.keeper.now) (g.K.Keeper.records c.args.keeper.now) (g.K.Keeper.faults c.args.keeper.now)) (store (g.K.Keeper.contents c.step_remote.new.keeper) (g.K.Keeper.records c.step_remote.new.keeper) (g.K.Keeper.faults c.step_remote.new.keeper))
    w c.step_remote.new.worker c.args.input.now.taken c.args.input.now.word c.step_remote.result (target_remote (side_in c.args.worker.now) c.args.worker.now.job.peer c.in-Some.target (sym c.target.ensures ∙ c.in-Some.is)) c.step_remote.ensures.did

pub step_remote-requires-clause-own : goal.step_remote-requires-clause-own
step_remote-requires-clause-own g c = λ later.
    subst (λ (s : Side). HearsOwn s (g.H.Here.reading c.args.here.now) c.args.worker.now) (target_remote (side_in c.args.worker.now) c.args.worker.now.job.peer c.in-Some.target (sym c.target.ensures ∙ c.in-Some.is)) (c.requires.own later)

pub returns-in-None-clause-own : goal.returns-in-None-clause-own
returns-in-None-clause-own g c =
    local_own (side_in c.args.worker.now) (g.H.Here.reading c.args.here.now) c.step_local.new.worker c.step_local.result (no_target (side_in c.args.worker.now) c.args.worker.now.job.peer (g.H.Here.reading c.args.here.now) c.requires.target (sym c.target.ensures ∙ c.in-None.is))

pub returns-in-Some-clause-own : goal.returns-in-Some-clause-own
returns-in-Some-clause-own g c =
    remote_own (side_in c.args.worker.now) (g.H.Here.reading c.args.here.now) c.step_remote.new.worker c.step_remote.result (target_remote (side_in c.args.worker.now) c.args.worker.now.job.peer c.in-Some.target (sym c.target.ensures ∙ c.in-Some.is)) c.step_remote.ensures.own

pub returns-in-None-clause-apart : goal.returns-in-None-clause-apart
returns-in-None-clause-apart g c =
    let w = c.args.worker.now in
    local_apart (side_in w) w.job.peer (g.H.Here.reading c.args.here.now).repo w c.step_local.new.worker c.step_local.result (no_target (side_in w) w.job.peer (g.H.Here.reading c.args.here.now) c.requires.target (sym c.target.ensures ∙ c.in-None.is))

pub returns-in-Some-clause-apart : goal.returns-in-Some-clause-apart
returns-in-Some-clause-apart g c =
    let w = c.args.worker.now in
    let is = sym c.target.ensures ∙ c.in-Some.is in
    remote_apart (side_in w) w.job.peer (g.H.Here.reading c.args.here.now).repo c.in-Some.target w c.step_remote.new.worker c.step_remote.result (target_remote (side_in w) w.job.peer c.in-Some.target is) (target_peer (side_in w) w.job.peer c.in-Some.target is)
    (target_other (side_in w) w.job.peer c.in-Some.target (g.H.Here.reading c.args.here.now) c.requires.target is).1 c.step_remote.ensures.apart
