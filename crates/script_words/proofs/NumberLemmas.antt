-- Numbers up to a bound, and their words.
use Rattle.std.proofs.Common.{◌≡◌, ℕ, ◌<◌, ◌≤◌, ◌^◌, List, [], Some, length, refl, sym, ap, subst, ◌∙◌, arith}
use Rattle.std.specs.Prelude.{nat_le}
use Rattle.std.specs.Fmt.{decimal}
use Rattle.std.specs.Str.Parse.{digits_value}
use Rattle.std.proofs.lemmas.Bool.{leb-true, le-leb}
use Rattle.std.proofs.lemmas.Fmt.{digits_value-decimal, decimal_digit}
use Rattle.std.proofs.lemmas.Option.{cond_some}
use Rattle.annex_base.specs.Decimal.{number_of}
use Rattle.annex_base.proofs.DecimalLemmas.{number_is, number_some, numerals}
use Rattle.annex_base.proofs.Options.{bind_some}
use Rattle.script_words.specs.Numbers.{up_to, number_up_to}

pub decimal_filled : (n : ℕ) → n < 2 ^ 64 → [] ≡ decimal n → ⊥
decimal_filled n small none =
    let zero_is : 0 ≡ n = ap (digits_value 10) none ∙ digits_value-decimal numerals n small in
    omega (arith, ap length none ∙ ap (λ k. length (decimal k)) (sym zero_is) ∙ ap length (decimal_digit 0 (omega arith)))

pub number_read : (greatest n : ℕ) → n ≤ greatest → n < 2 ^ 64 → number_up_to greatest (decimal n) ≡ Some n
unfolding number_up_to
number_read greatest n within small = rw (number_is n small, le-leb n greatest within) refl

pub number_written : (greatest n : ℕ) (word : List ℕ) → number_up_to greatest word ≡ Some n → (word ≡ decimal n) × (n ≤ greatest) × (n < 2 ^ 64)
unfolding number_up_to
number_written greatest n word e =
    let found = bind_some (number_of word) (up_to greatest) n e in
    let is = number_some word found.0 found.1 in
    let bound = cond_some (nat_le found.0 greatest) found.0 n found.2 in
    (is.0 ∙ ap decimal bound.1, subst (λ k. k ≤ greatest) bound.1 (leb-true found.0 greatest bound.0), subst (λ k. k < 2 ^ 64) bound.1 is.1)
