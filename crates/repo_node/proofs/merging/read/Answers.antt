-- What the proof of `merging::read` needs beside the tactics.
use Rattle.std.proofs.Common.{◌≡◌, ℕ, Err, ap, subst, ◌∙◌}
use Rattle.branch_bundle.specs.Bundle.{IsFirstWrong}
use Rattle.branch_bundle.specs.declared.fault.BundleFault.{BundleFault}
use Rattle.node_past.specs.declared.refused.NodeRefused.TheVariants as refusals
use Rattle.repo_node.proofs.merging.read.Goals as goal

same_place : (at other : ℕ) → refusals.BadBundle at ≡ refusals.BadBundle other → at ≡ other
same_place at other same = cc

pub returns-in-Err-BadBundle-clause-wrong : goal.returns-in-Err-BadBundle-clause-wrong
returns-in-Err-BadBundle-clause-wrong c = λ at same.
    subst (λ (p : ℕ). IsFirstWrong c.args.bytes.now p) (same_place c.in-Err-BadBundle.at at same)
    (c.read_bundle.ensures.wrong c.in-Err-BadBundle.at (c.in-Err-BadBundle.is ∙ ap (λ (e : BundleFault). Err e) c.in-Err-BadBundle.field-0-is))
