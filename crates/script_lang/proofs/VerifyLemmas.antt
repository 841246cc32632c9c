-- A content of a key has the right verdict, and a made key is the text of one.
use Rattle.std.proofs.Common.{◌≡◌, ℕ, List, true, refl}
use Rattle.annex_key.specs.KeyText.{IsKey, IsKeyText}
use Rattle.key_verify.specs.MakingKeys as making
use Rattle.key_verify.specs.Matching.{verdict_of}
use Rattle.key_verify.specs.Sums.{sum_of}
use Rattle.key_verify.specs.declared.verdict.Verdict.{Verdict}
use Rattle.key_verify.specs.declared.verdict.Verdict.TheVariants.{Right, WrongSize, WrongDigest}
use Rattle.script_forms.specs.Verify.{is_content_of, is_right, made_key}

right_of : (v : Verdict) → is_right v ≡ true → v ≡ Right
right_of Right e = refl
right_of (WrongSize want got) e = absurd cc
right_of (WrongDigest want got) e = absurd cc

pub right_is : (key content : List ℕ) → is_content_of key content ≡ true → verdict_of key (sum_of key content) ≡ Right
unfolding is_content_of
right_is key content e = right_of (verdict_of key (sum_of key content)) e

pub made_is : (path content : List ℕ) → IsKey (making.made_key path content) → IsKeyText (made_key path content)
unfolding made_key
made_is path content is = record { parts = making.made_key path content; key = is; spelled = refl }
