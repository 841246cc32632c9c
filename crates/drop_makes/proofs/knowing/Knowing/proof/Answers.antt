-- What the proof of `knowing::Knowing::proof` needs beside the tactics.
use Rattle.std.proofs.Common.{◌≡◌, subst, ◌∙◌}
use Rattle.std.specs.Prelude.{IfOk}
use Rattle.run_data.specs.declared.job.Proof.{Proof}
use Rattle.node_model.specs.Evidence.{proof_of}
use Rattle.drop_makes.proofs.knowing.Knowing.proof.Goals as goal

pub returns : goal.returns
returns c =
    subst (λ (told : Proof). IfOk c.proof.result (λ p. p ≡ told)) (λ i. proof_of (c.count.ensures i) (c.need.ensures i) ((c.deref.ensures.value ∙ c.args.self.now.known) i)) c.proof.ensures
