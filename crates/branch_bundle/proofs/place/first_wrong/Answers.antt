-- What the proof of `place::first_wrong` needs beside the tactics.
use Rattle.std.proofs.Common.{◌∙◌, sym, subst, arith}
use Rattle.std.proofs.Math.Seq.{take-length}
use Rattle.std.proofs.lemmas.Bool.{true≢false}
use Rattle.branch_bundle.specs.Bundle.{BeginsBundle}
use Rattle.branch_bundle.proofs.TestLemmas.{begins_empty, some_text}
use Rattle.branch_bundle.proofs.place.first_wrong.Goals as goal

pub loop-high-init : goal.loop-high-init
loop-high-init c =
    let wrong : BeginsBundle c.args.text.now → ⊥ = λ begins. true≢false (sym (c.begins_bundle.ensures.1 begins) ∙ c.if-begins_bundle.false) in
    record {
      order = some_text c.args.text.now wrong;
      within = omega arith;
      before = begins_empty;
      wrong = λ begins. wrong (subst BeginsBundle (take-length c.args.text.now) begins);
    }
