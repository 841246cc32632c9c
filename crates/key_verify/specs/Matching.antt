-- The content of a key (git-annex backends).
use Rattle.std.specs.Prelude.{◌≡◌, ◌==◌, ℕ, List, length, Option, Some, None, IfSome, if◌then◌else◌}
use Rattle.std.specs.Str.{bytes_eq}
use Rattle.annex_key.specs.View.{size_part}
use Rattle.key_verify.specs.declared.digester.Sum.{Sum}
use Rattle.key_verify.specs.declared.verdict.Verdict.{Verdict}
use Rattle.key_verify.specs.declared.verdict.Verdict.TheVariants.{Right, WrongSize, WrongDigest}
use Rattle.key_verify.specs.Digests.{key_method, digest_of, digest_text, wanted_digest}

-- a key's content has its size, if the key tells one, and its digest, if the backend is one of the ten
pub record MatchesKey (key bytes : List ℕ) : Type 0 where
  pub size : IfSome (size_part key) (λ n. n ≡ length bytes)
  pub digest : IfSome (wanted_digest key) (λ text. text ≡ digest_text (digest_of (key_method key) bytes))

abbrev pub told_verdict : List ℕ → List ℕ → Verdict
told_verdict want got = if bytes_eq got want then Right else WrongDigest want got

abbrev pub digest_verdict : Option (List ℕ) → List ℕ → Verdict
digest_verdict None got = Right
digest_verdict (Some want) got = told_verdict want got

abbrev pub size_verdict : Option ℕ → ℕ → Verdict → Verdict
size_verdict None got next = next
size_verdict (Some want) got next = if want == got then next else WrongSize want got

-- the verdict on a content of this sum: a wrong size comes before a wrong digest (own)
abbrev pub verdict_of : List ℕ → Sum → Verdict
verdict_of key sum = size_verdict (size_part key) sum.size (digest_verdict (wanted_digest key) (digest_text sum.digest))
