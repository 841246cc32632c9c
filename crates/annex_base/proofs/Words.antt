-- Words that a space ends, and the digits among them.
use Rattle.std.proofs.Common.{◌≡◌, ℕ, ◌+◌, ◌<◌, ◌≤◌, true, List, [], ◌∷◌, ◌++◌, length, drop, refl, arith}
use Rattle.std.specs.List.{before_first, list_all, position_or_len}
use Rattle.std.specs.Char.{digit_value}
use Rattle.std.specs.Str.Parse.{AllDigits}
use Rattle.std.proofs.lemmas.Bool.Decides.{nat_tests}
use Rattle.std.proofs.lemmas.List.{drop_at, length-append, take_at}
use Rattle.std.proofs.lemmas.Str.Parse.{digit_from_value}
use Rattle.annex_base.specs.Lines.{space, is_space, is_not_space}
use Rattle.annex_base.proofs.Lists.{prefix_len-stops}

digit_no_space : (c : ℕ) → digit_value c < 10 → is_not_space c ≡ true
digit_no_space c small = let in_range = digit_from_value c small in grind (arith, nat_tests)

digits_no_space : (ds : List ℕ) → AllDigits 10 ds → list_all is_not_space ds ≡ true
digits_no_space [] all = refl
digits_no_space (d ∷ ds) all = rw (digit_no_space d all.0) (digits_no_space ds all.1)

digits_end : (ds rest : List ℕ) → AllDigits 10 ds → position_or_len is_space (ds ++ space ∷ rest) ≡ length ds
digits_end ds rest all = prefix_len-stops is_not_space ds space rest (digits_no_space ds all) refl

-- digits, and what stands behind a space
pub digits-before_space : (ds rest : List ℕ) → AllDigits 10 ds → before_first is_space (ds ++ space ∷ rest) ≡ ds
digits-before_space ds rest all = rw (digits_end ds rest all) (take_at ds (space ∷ rest) (length ds) refl)

pub digits-from_space : (ds rest : List ℕ) → AllDigits 10 ds → drop (position_or_len is_space (ds ++ space ∷ rest)) (ds ++ space ∷ rest) ≡ space ∷ rest
digits-from_space ds rest all = rw (digits_end ds rest all) (drop_at ds (space ∷ rest) (length ds) refl)

-- a word, and a space and the rest
pub length-word_and_rest : (word rest : List ℕ) (n m : ℕ) → length word ≤ n → length rest ≤ m → length (word ++ space ∷ rest) ≤ n + 1 + m
length-word_and_rest word rest n m a b = let both : length (word ++ space ∷ rest) ≡ length word + length (space ∷ rest) = length-append word (space ∷ rest) in omega (arith, both, a, b)
