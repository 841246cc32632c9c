-- What the proof of `laws::bundles_are_exact` needs beside the tactics.
use Rattle.std.proofs.Common.{◌∙◌, refl, sym}
use Rattle.branch_bundle.proofs.ExactLemmas.{one_branch, one_place}
use Rattle.branch_bundle.proofs.laws.bundles_are_exact.Goals as goal

pub returns : goal.returns
returns c = record {
  bundle = λ files is. record { branch = is; spelled = refl };
  one_text = λ files x y first second. first.spelled ∙ sym second.spelled;
  one_branch = one_branch c.texts_of_sets_read_back.ensures;
  one_place = one_place;
}
