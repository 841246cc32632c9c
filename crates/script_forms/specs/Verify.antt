-- Contents and their keys, as tests (git-annex backends).
use Rattle.std.specs.Prelude.{ℕ, List, Bool, true, false}
use Rattle.annex_key.specs.KeyText.{key_text}
use Rattle.key_verify.specs.MakingKeys as making
use Rattle.key_verify.specs.Matching.{verdict_of}
use Rattle.key_verify.specs.Sums.{sum_of}
use Rattle.key_verify.specs.declared.verdict.Verdict.{Verdict}
use Rattle.key_verify.specs.declared.verdict.Verdict.TheVariants.{Right, WrongSize, WrongDigest}

abbrev pub is_right : Verdict → Bool
is_right Right = true
is_right _ = false

-- whether the content matches the key: the law `verdicts_are_matches` of key_verify says when a verdict is right
unfoldable pub is_content_of : List ℕ → List ℕ → Bool
is_content_of key content = is_right (verdict_of key (sum_of key content))

-- the SHA256E key of the content, with the extension of the path
unfoldable pub made_key : List ℕ → List ℕ → List ℕ
made_key path content = key_text (making.made_key path content)
