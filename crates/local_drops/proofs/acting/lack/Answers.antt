-- What it states.
use Rattle.std.proofs.Common.{ap, ◌∙◌, []}
use Rattle.drop_proof.specs.declared.rule.Side.TheVariants.{Local}
use Rattle.node_model.specs.Evidence.{failures}
use Rattle.drop_judging.specs.Judging.{cause_at, evidence_of, offer_of}
use Rattle.drop_phases.specs.Working.{sight}
use Rattle.local_drops.proofs.Stated.{lacks_did}
use Rattle.local_drops.proofs.acting.lack.Goals as goal

pub returns-clause-does : goal.returns-clause-does
returns-clause-does g c = λ time number k.
    let r = g.H.Here.reading c.args.here.now in
    let w = c.args.worker.now in
    lacks_did (sight r (g.H.Here.ends c.args.here.now) time number) c.args.table.now c.finish.new.table k w c.finish.new.worker c.finish.result c.args.items.now c.in_ok-proof.proof c.requires.side
    (c.requires.known ∙ ap (λ l. evidence_of Local r w l []) c.requires.all) c.in_ok-proof.ensures c.from_vec.result
    (c.from_vec.ensures ∙ (c.in_ok-causes.ensures ∙ ap (λ l. failures (offer_of r w) (cause_at r w) l) c.requires.all)) (c.finish.ensures.does time number k)
