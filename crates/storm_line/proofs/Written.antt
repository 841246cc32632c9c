-- A line with equal numbers.
use Rattle.std.proofs.Common.{◌≡◌, ℕ, ap, ◌∙◌}
use Rattle.storm_line.specs.Line.{line_text}

pub line_same : (number jobs d r n k d' r' n' k' : ℕ) → d ≡ d' → r ≡ r' → n ≡ n' → k ≡ k' → line_text number jobs d r n k ≡ line_text number jobs d' r' n' k'
line_same number jobs d r n k d' r' n' k' done refused noslots kept =
    ap (λ (x : ℕ). line_text number jobs x r n k) done ∙ ap (λ (x : ℕ). line_text number jobs d' x n k) refused ∙ ap (λ (x : ℕ). line_text number jobs d' r' x k) noslots
    ∙ ap (λ (x : ℕ). line_text number jobs d' r' n' x) kept
