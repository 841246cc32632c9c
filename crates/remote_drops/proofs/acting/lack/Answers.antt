-- What a remote drop states that lacks evidence.
use Rattle.std.proofs.Common.{ℕ, List, ap, ◌∙◌}
use Rattle.annex_base.proofs.Conditions.{eqb_turned}
use Rattle.node_model.specs.Evidence.{failures}
use Rattle.drop_phases.specs.Working.{sight}
use Rattle.drop_judging.specs.Judging.{cause_at, offer_of}
use Rattle.remote_drops.proofs.RemoteEvidences.{lacks_remotely}
use Rattle.remote_drops.proofs.acting.lack.Goals as goal

pub returns : goal.returns
returns g c = λ time number rows p fails rest.
    let read = g.H.Here.reading c.args.here.now in
    let ends = g.H.Here.ends c.args.here.now in
    let w = c.args.worker.now in
    lacks_remotely (sight read ends time number) rows p fails rest w c.args.items.now c.args.target c.requires.remote c.requires.known c.in_ok-proof.proof c.in_ok-proof.ensures
    (eqb_turned read.repo c.args.target c.requires.apart) c.from_vec.result (c.from_vec.ensures ∙ (c.in_ok-causes.ensures ∙ ap (λ (l : List ℕ). failures (offer_of read w) (cause_at read w) l) c.requires.all))
