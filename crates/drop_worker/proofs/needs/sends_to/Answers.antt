-- The peers, of a state.
use Rattle.std.proofs.Common.{sym, ◌∙◌, subst}
use Rattle.drop_proof.specs.declared.rule.Side.{Side}
use Rattle.drop_phases.specs.Sides.{FitsSide, HearsOwn, side_in}
use Rattle.drop_worker.proofs.Machines.{no_target, target_other, target_peer, target_remote}
use Rattle.drop_worker.proofs.Owings.{at_time, needs_so}
use Rattle.drop_worker.proofs.needs.sends_to.Goals as goal

pub needed-requires-clause-local : goal.needed-requires-clause-local
needed-requires-clause-local g c = no_target (side_in c.args.worker.now) c.args.worker.now.job.peer (g.H.Here.reading c.args.here.now) c.requires.target (sym c.target.ensures ∙ c.in-None.is)

pub needed-requires-clause-fits : goal.needed-requires-clause-fits
needed-requires-clause-fits g c =
    let w = c.args.worker.now in
    subst (λ (s : Side). FitsSide s w.phase w.token) (no_target (side_in w) w.job.peer (g.H.Here.reading c.args.here.now) c.requires.target (sym c.target.ensures ∙ c.in-None.is)) c.requires.fits

pub needed_remotely-requires-clause-remote : goal.needed_remotely-requires-clause-remote
needed_remotely-requires-clause-remote g c =
    let w = c.args.worker.now in
    let is = sym c.target.ensures ∙ c.in-Some.is in
    record { side = target_remote (side_in w) w.job.peer c.in-Some.target is; peer = target_peer (side_in w) w.job.peer c.in-Some.target is }

pub returns-in-None-clause-does : goal.returns-in-None-clause-does
returns-in-None-clause-does g c = needs_so (g.H.Here.reading c.args.here.now) (g.H.Here.ends c.args.here.now) c.args.time c.args.worker.now c.needed.result c.needed.ensures.does

pub returns-in-Some-clause-does : goal.returns-in-Some-clause-does
returns-in-Some-clause-does g c =
    needs_so (g.H.Here.reading c.args.here.now) (g.H.Here.ends c.args.here.now) c.args.time c.args.worker.now c.needed_remotely.result
    (at_time (g.H.Here.reading c.args.here.now) (g.H.Here.ends c.args.here.now) c.args.time c.args.worker.now c.needed_remotely.result c.needed_remotely.ensures.does)

pub needed_remotely-requires-clause-other : goal.needed_remotely-requires-clause-other
needed_remotely-requires-clause-other g c =
    target_other (side_in c.args.worker.now) c.args.worker.now.job.peer c.in-Some.target (g.H.Here.reading c.args.here.now) c.requires.target (sym c.target.ensures ∙ c.in-Some.is)

pub needed_remotely-requires-clause-own : goal.needed_remotely-requires-clause-own
needed_remotely-requires-clause-own g c = λ later.
    subst (λ (s : Side). HearsOwn s (g.H.Here.reading c.args.here.now) c.args.worker.now) (target_remote (side_in c.args.worker.now) c.args.worker.now.job.peer c.in-Some.target (sym c.target.ensures ∙ c.in-Some.is)) (c.requires.own later)
