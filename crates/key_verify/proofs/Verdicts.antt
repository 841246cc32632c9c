-- A verdict is Right exactly on the key's content.
use Rattle.std.proofs.Common.{◌≡◌, ◌↔◌, ℕ, List, rules, subst, sym, Result, IfOk, Ok, Err}
use Rattle.annex_base.specs.declared.memory.NoMemory.{NoMemory}
use Rattle.key_verify.specs.declared.digester.Sum.{Sum}
use Rattle.key_verify.specs.declared.verdict.Verdict.{Verdict}
use Rattle.key_verify.specs.declared.verdict.Verdict.TheVariants.{Right}
use Rattle.key_verify.specs.Sums.{sum_of}
use Rattle.key_verify.specs.Matching.{MatchesKey, verdict_of}

pub verdict_right : (key bytes : List ℕ) → (verdict_of key (sum_of key bytes) ≡ Right) ↔ MatchesKey key bytes
verdict_right key bytes = search rules

pub judged_right : (key bytes : List ℕ) (sum : Sum) (r : Result Verdict NoMemory) → IfOk r (λ v. v ≡ verdict_of key sum) → sum ≡ sum_of key bytes → IfOk r (λ v. (v ≡ Right) ↔ MatchesKey key bytes)
judged_right key bytes sum (Ok v) is same =
    let it : v ≡ verdict_of key (sum_of key bytes) = subst (λ (s : Sum). v ≡ verdict_of key s) same is in
    subst (λ (w : Verdict). (w ≡ Right) ↔ MatchesKey key bytes) (sym it) (verdict_right key bytes)
judged_right key bytes sum (Err e) is same = tt
