-- What a remote drop states whose target obeyed.
use Rattle.std.proofs.Common.{ℕ, List, [], ap, ◌∙◌}
use Rattle.drop_proof.specs.declared.rule.Side.TheVariants.{Remote}
use Rattle.node_model.specs.Knows.{obeyed_outcome}
use Rattle.drop_phases.specs.Working.{sight}
use Rattle.drop_judging.specs.Judging.{evidence_of}
use Rattle.remote_drops.proofs.RemoteEvidences.{obeyed_is}
use Rattle.remote_drops.proofs.acting.obeyed.Goals as goal

pub returns : goal.returns
returns g c = λ time number rows p fails rest.
    let read = g.H.Here.reading c.args.here.now in
    let ends = g.H.Here.ends c.args.here.now in
    let w = c.args.worker.now in
    c.obeyed_outcome.ensures ∙ (ap (λ o. obeyed_outcome o c.in_ok-proof.proof) c.word.ensures
    ∙ obeyed_is (sight read ends time number) rows p fails rest w c.deref-2.result.now c.args.target c.requires.remote
    (c.deref-2.ensures.value ∙ (c.in_ok-items.ensures.known ∙ ap (λ (l : List ℕ). evidence_of Remote read w l []) (c.deref.ensures.value ∙ c.in_ok-candidates.ensures.all)))
    c.in_ok-proof.proof c.in_ok-proof.ensures)
