-- The size of a part is told by the line that asks for what is left of it, or offers it.
use Rattle.std.proofs.Common.{◌≡◌, ℕ, ◌<◌, ◌^◌, true, List, [], ◌∷◌, ◌++◌, length, refl, ap, ◌∙◌, arith}
use Rattle.std.specs.List.{list_all, position_or_len}
use Rattle.std.specs.Char.{digit_value}
use Rattle.std.specs.Fmt.{decimal}
use Rattle.std.specs.Str.Parse.{AllDigits, digits_value}
use Rattle.std.proofs.lemmas.Bool.{lt-ltb}
use Rattle.std.proofs.lemmas.Bool.Decides.{nat_tests}
use Rattle.std.proofs.Math.Seq.{take-length}
use Rattle.std.proofs.lemmas.Str.Parse.{digit_from_value}
use Rattle.std.proofs.lemmas.Fmt.{digits_decimal, digits_value-decimal}
use Rattle.annex_base.specs.Lines.{is_space, is_not_space}
use Rattle.annex_base.proofs.DecimalLemmas.{numerals}
use Rattle.annex_base.proofs.Lists.{prefix_len-whole}
use Rattle.annex_base.proofs.Words.{digits-before_space}
use Rattle.p2p_wire.specs.declared.message.Message.TheVariants.{Get, PutFrom}
use Rattle.p2p_wire.specs.Messages.{rest_in, text_of, word_in}
use Rattle.step_judging.specs.Telling.{number_behind, small_part}

digit_no_space : (c : ℕ) → digit_value c < 10 → is_not_space c ≡ true
digit_no_space c small = let in_range = digit_from_value c small in grind (arith, nat_tests)

digits_no_space : (ds : List ℕ) → AllDigits 10 ds → list_all is_not_space ds ≡ true
digits_no_space [] all = refl
digits_no_space (d ∷ ds) all = rw (digit_no_space d all.0) (digits_no_space ds all.1)

alone : (ds : List ℕ) → AllDigits 10 ds → word_in ds ≡ ds
alone ds all = let whole : position_or_len is_space ds ≡ length ds = prefix_len-whole is_not_space ds (digits_no_space ds all) in rw whole (take-length ds)

value_is : (n : ℕ) → n < 2 ^ 62 → digits_value 10 (decimal n) ≡ n
value_is n small = digits_value-decimal numerals n (omega arith)

digits_of : (n : ℕ) → n < 2 ^ 62 → AllDigits 10 (decimal n)
digits_of n small = digits_decimal numerals n (omega arith)

small_is : (n : ℕ) → n < 2 ^ 62 → small_part n ≡ n
small_is n small = rw (lt-ltb n (2 ^ 62) small) refl

pub get_told : (n : ℕ) (key : List ℕ) → n < 2 ^ 62 → small_part (number_behind (rest_in (text_of (Get n [] key)))) ≡ n
get_told n key small =
    let word : word_in (decimal n ++ 32 ∷ 32 ∷ key) ≡ decimal n = digits-before_space (decimal n) (32 ∷ key) (digits_of n small) in
    ap (λ (w : List ℕ). small_part (digits_value 10 w)) word ∙ ap small_part (value_is n small) ∙ small_is n small

pub put_told : (n : ℕ) → n < 2 ^ 62 → small_part (number_behind (rest_in (text_of (PutFrom n)))) ≡ n
put_told n small =
    ap (λ (w : List ℕ). small_part (digits_value 10 w)) (alone (decimal n) (digits_of n small)) ∙ ap small_part (value_is n small) ∙ small_is n small
