-- The candidates of a remote drop, one more at a time.
use Rattle.std.proofs.Common.{◌≡◌, ◌≢◌, ℕ, ◌+◌, Bool, true, false, not, List, [], ◌∷◌, ◌++◌, ap, ◌∙◌, arith}
use Rattle.std.specs.Prelude.{◌==◌, if◌then◌else◌}
use Rattle.std.specs.List.{range_with_len}
use Rattle.std.proofs.lemmas.Bool.Decides.{nat_tests}
use Rattle.std.proofs.lemmas.List.{append-nil}
use Rattle.std.proofs.lemmas.List.Elements.{filter-append}
use Rattle.node_model.specs.Evidence.{but}
use Rattle.drop_judging.proofs.Judgings.{but_other, but_self}

-- the own repository
pub same_own : (target r n : ℕ) → n ≡ r → but target (but r (range_with_len 0 (n + 1))) ≡ but target (but r (range_with_len 0 n))
same_own target r n is = ap (but target) (but_self r n is)

more_but : (target : ℕ) (xs : List ℕ) (n : ℕ) (b : Bool) → (n == target) ≡ b → but target (xs ++ n ∷ []) ≡ but target xs ++ (if not b then n ∷ [] else [])
more_but target xs n b e = filter-append (λ x. not (x == target)) xs (n ∷ []) ∙ ap (λ (b : Bool). but target xs ++ (if not b then n ∷ [] else [])) e

-- the target
pub same_target : (target r n : ℕ) → n ≢ r → n ≡ target → but target (but r (range_with_len 0 (n + 1))) ≡ but target (but r (range_with_len 0 n))
same_target target r n other is =
    let e : (n == target) ≡ true = grind (arith, nat_tests) in
    ap (but target) (but_other r n other) ∙ (more_but target (but r (range_with_len 0 n)) n true e ∙ append-nil (but target (but r (range_with_len 0 n))))

-- another
pub one_more : (target r n : ℕ) → n ≢ r → n ≢ target → but target (but r (range_with_len 0 (n + 1))) ≡ but target (but r (range_with_len 0 n)) ++ n ∷ []
one_more target r n other apart =
    let e : (n == target) ≡ false = grind (arith, nat_tests) in
    ap (but target) (but_other r n other) ∙ more_but target (but r (range_with_len 0 n)) n false e
