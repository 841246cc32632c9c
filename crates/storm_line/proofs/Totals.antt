-- Sums over the first repositories.
use Rattle.std.proofs.Common.{◌≡◌, ℕ, suc, ◌+◌, ◌*◌, ◌≤◌, sym, ap, ◌∙◌, subst, arith}
use Rattle.std.specs.List.{range_with_len, sum_by}
use Rattle.std.proofs.Math.Nat.{mul-le-mul_right}
use Rattle.std.proofs.lemmas.List.Sums.{sum_by_push}
use Rattle.annex_base.proofs.Numbers.{range_more}

-- the sum so far, with that of one more
pub total_more : (f : ℕ → ℕ) (n total more : ℕ) → total ≡ sum_by f (range_with_len 0 n) → more ≡ f n → total + more ≡ sum_by f (range_with_len 0 (n + 1))
total_more f n total more so_far is =
    ap (λ (k : ℕ). total + k) is ∙ ap (λ (k : ℕ). k + f n) so_far ∙ sym (ap (sum_by f) (range_more n) ∙ sum_by_push f (range_with_len 0 n) n)

-- each adds at most so many
pub bound_more : (n most total more : ℕ) → total ≤ n * most → more ≤ most → total + more ≤ (n + 1) * most
bound_more n most total more so_far is =
    let next : n + 1 ≡ suc n = omega arith in
    let within : total + more ≤ suc n * most = omega (arith, so_far, is) in
    subst (λ (k : ℕ). total + more ≤ k * most) (sym next) within

-- at most sixteen do
pub bound : (n most total : ℕ) → total ≤ n * most → n ≤ 16 → total ≤ 16 * most
bound n most total so_far few = let all = mul-le-mul_right most few in omega (arith, so_far, all)
