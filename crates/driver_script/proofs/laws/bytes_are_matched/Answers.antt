-- A verdict that is right is the one of the key's content.
use Rattle.std.proofs.Common.{◌≡◌, true, ap, refl}
use Rattle.key_verify.specs.declared.verdict.Verdict.{Verdict}
use Rattle.key_verify.specs.declared.verdict.Verdict.TheVariants.{Right, WrongSize, WrongDigest}
use Rattle.script_lang.specs.Verify.{is_right}
use Rattle.driver_script.proofs.laws.bytes_are_matched.Goals as goal

right_is : (verdict : Verdict) → is_right verdict ≡ true → verdict ≡ Right
right_is Right is = refl
right_is (WrongSize want got) is = absurd cc
right_is (WrongDigest want got) is = absurd cc

pub returns : goal.returns
returns c = λ key bytes. ((λ is. (c.verdicts_are_matches.ensures key bytes).0 (right_is _ is)), (λ is. ap is_right ((c.verdicts_are_matches.ensures key bytes).1 is)))
