-- What it states.
use Rattle.std.proofs.Common.{ap, ◌∙◌, []}
use Rattle.drop_proof.specs.declared.rule.Side.TheVariants.{Local}
use Rattle.drop_judging.specs.Judging.{evidence_of}
use Rattle.drop_phases.specs.Working.{sight}
use Rattle.local_drops.proofs.Stated.{dropped_did}
use Rattle.local_drops.proofs.acting.drop_done.Goals as goal

pub returns-clause-does : goal.returns-clause-does
returns-clause-does g c = λ time number k.
    let r = g.H.Here.reading c.args.here.now in
    let w = c.args.worker.now in
    dropped_did (sight r (g.H.Here.ends c.args.here.now) time number) c.args.table.now c.finish.new.table k w c.finish.new.worker c.finish.result c.deref-2.result.now c.in_ok-proof.proof c.requires.side
    (c.deref-2.ensures.value ∙ (c.in_ok-items.ensures.known ∙ ap (λ l. evidence_of Local r w l []) (c.deref.ensures.value ∙ c.in_ok-candidates.ensures.all))) c.in_ok-proof.ensures c.requires.at (c.finish.ensures.does time number k)
