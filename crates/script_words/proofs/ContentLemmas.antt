-- A content is read exactly from the words that describe it.
use Rattle.std.proofs.Common.{◌≡◌, inl, inr, ℕ, ◌+◌, ◌<◌, ◌^◌, true, List, [], ◌∷◌, ◌++◌, length, take, drop, Some, Result, Ok, Err, refl, sym, ap, subst, ◌∙◌, arith, drop-drop}
use Rattle.std.specs.Prelude.{not, codes, bytes_eq}
use Rattle.std.specs.Char.{is_ascii_digit}
use Rattle.std.specs.Fmt.{decimal}
use Rattle.std.specs.List.{position_or_len, before_first, after_first}
use Rattle.std.specs.Option.{option_or}
use Rattle.std.specs.Result.{result_ok}
use Rattle.std.proofs.lemmas.Bool.{eqb-true, not-false}
use Rattle.std.proofs.lemmas.Bool.Decides.{nat_tests}
use Rattle.std.proofs.lemmas.List.{take-append-drop, take_at, drop_at}
use Rattle.std.proofs.lemmas.Option.{cond_some, same_Some}
use Rattle.std.proofs.Math.Seq.{drop-append-add}
use Rattle.annex_base.specs.Lines.{colon}
use Rattle.hex.specs.Hex.{decode_of}
use Rattle.annex_base.specs.Decimal.{number_of}
use Rattle.annex_base.specs.OptionSteps.{◌>>=◌}
use Rattle.annex_base.proofs.Conditions.{bytes_eq-refl, bytes_eq-true}
use Rattle.annex_base.proofs.DecimalLemmas.{number_is, number_some}
use Rattle.annex_base.proofs.Numbers.{decimal-all}
use Rattle.annex_base.proofs.Options.{bind_some, option_or-was}
use Rattle.script_words.specs.Marks.{behind_mark}
use Rattle.script_words.specs.Numbers.{number_up_to}
use Rattle.script_words.specs.Contents.{is_colon, fill_bytes, fill_numbers, text_content, hex_content, fill_content, content_of, Describes}
use Rattle.script_words.specs.Contents.Describes.{Text, Hex, Fill}
use Rattle.script_words.proofs.FrontLemmas.{Stops, rest_stops, front_len}
use Rattle.script_words.proofs.NumberLemmas.{decimal_filled, number_read, number_written}

-- ---- marks

pub mark_found : (mark rest : List ℕ) → behind_mark mark (mark ++ rest) ≡ Some rest
unfolding behind_mark
mark_found mark rest =
    rw (take_at mark rest (length mark) refl, bytes_eq-refl mark, drop_at mark rest (length mark) refl) refl

pub mark_written : (mark word rest : List ℕ) → behind_mark mark word ≡ Some rest → word ≡ mark ++ rest
unfolding behind_mark
mark_written mark word rest e =
    let found = cond_some (bytes_eq (take (length mark) word) mark) (drop (length mark) word) rest e in
    sym (take-append-drop (length mark) word) ∙ ap (λ l. l ++ drop (length mark) word) (bytes_eq-true (take (length mark) word) mark found.0) ∙ ap (λ l. mark ++ l) found.1

-- ---- a content that is described is read

not_colon : (d : ℕ) → is_ascii_digit d ≡ true → not (is_colon d) ≡ true
not_colon d digit = grind (arith, nat_tests)

colon_found : (n : ℕ) (rest : List ℕ) → position_or_len is_colon (decimal n ++ colon ∷ rest) ≡ length (decimal n)
colon_found n rest = front_len (λ b. not (is_colon b)) (decimal n) (colon ∷ rest) (decimal-all (λ b. not (is_colon b)) not_colon n) refl

numbers_found : (n s : ℕ) → n < 2 ^ 64 → s < 251 → fill_numbers (decimal n ++ colon ∷ decimal s) ≡ Some (n, s)
unfolding fill_numbers
numbers_found n s small low =
    let at = colon_found n (decimal s) in
    let front : before_first is_colon (decimal n ++ colon ∷ decimal s) ≡ decimal n =
    ap (λ k. take k (decimal n ++ colon ∷ decimal s)) at ∙ take_at (decimal n) (colon ∷ decimal s) (length (decimal n)) refl in
    let back : after_first is_colon (decimal n ++ colon ∷ decimal s) ≡ decimal s =
    ap (λ k. drop (k + 1) (decimal n ++ colon ∷ decimal s)) at ∙ drop-append-add (decimal n) (colon ∷ decimal s) 1 in
    rw (front, back, number_is n small, number_read 250 s (omega (arith, low)) (omega (arith, low))) refl

pub content_found : (word content : List ℕ) → Describes word content → content_of word ≡ Some content
unfolding content_of behind_mark
content_found _ _ (Text text) = refl
content_found _ _ (Hex digits bytes is) = rw is refl
content_found _ _ (Fill n s small low) = rw (numbers_found n s small low) refl

-- ---- a content that is read is described

ok_some : {A E : Type 0} (r : Result A E) (y : A) → result_ok r ≡ Some y → r ≡ Ok y
ok_some (Ok x) y e = cc
ok_some (Err d) y e = absurd cc

text_described : (word content : List ℕ) → text_content word ≡ Some content → Describes word content
text_described word content e = subst (λ w. Describes w content) (sym (mark_written (codes "text:") word content e)) (Text content)

hex_described : (word content : List ℕ) → hex_content word ≡ Some content → Describes word content
hex_described word content e =
    let found = bind_some (behind_mark (codes "hex:") word) (λ digits. result_ok (decode_of digits)) content e in
    subst (λ w. Describes w content) (sym (mark_written (codes "hex:") word found.0 found.1)) (Hex found.0 content (ok_some (decode_of found.0) content found.2))

-- what stands from the first colon on, where a number follows it
from_colon : (bytes : List ℕ) (s : ℕ) → Stops (λ b. not (is_colon b)) bytes → s < 2 ^ 64 → drop 1 bytes ≡ decimal s → bytes ≡ colon ∷ decimal s
from_colon [] s stops small e = absurd (decimal_filled s small e)
from_colon (b ∷ bytes) s stops small e = ap (λ c. c ∷ bytes) (eqb-true b colon (not-false _ stops)) ∙ ap (λ l. colon ∷ l) e

-- the numbers that a filling's text says
record IsFill (text : List ℕ) (x : ℕ × ℕ) : Type 0 where
  text_is : text ≡ decimal (x.0) ++ colon ∷ decimal (x.1)
  small : x.0 < 2 ^ 64
  low : x.1 < 251

numbers_written : (text : List ℕ) (x : ℕ × ℕ) → fill_numbers text ≡ Some x → IsFill text x
unfolding fill_numbers
numbers_written text x e =
    let end = position_or_len is_colon text in
    let first = bind_some (number_of (before_first is_colon text)) (λ n. number_up_to 250 (after_first is_colon text) >>= λ s. Some (n, s)) x e in
    let second = bind_some (number_up_to 250 (after_first is_colon text)) (λ s. Some (first.0, s)) x first.2 in
    let n = number_some (before_first is_colon text) first.0 first.1 in
    let s = number_written 250 second.0 (after_first is_colon text) second.1 in
    let back = from_colon (drop end text) second.0 (rest_stops (λ b. not (is_colon b)) text) s.2 (drop-drop 1 end text ∙ s.0) in
    subst (IsFill text) (same_Some (first.0, second.0) x second.2) (record {
      text_is = sym (take-append-drop end text) ∙ ap (λ l. l ++ drop end text) n.0 ∙ ap (λ l. decimal first.0 ++ l) back;
      small = n.1;
      low = omega (arith, s.1);
    })

fill_described : (word content : List ℕ) → fill_content word ≡ Some content → Describes word content
fill_described word content e =
    let found = bind_some (behind_mark (codes "fill:") word) (λ text. fill_numbers text >>= λ x. Some (fill_bytes x.0 x.1)) content e in
    let numbers = bind_some (fill_numbers found.0) (λ x. Some (fill_bytes x.0 x.1)) content found.2 in
    let x = numbers.0 in
    let is = numbers_written found.0 x numbers.1 in
    let word_is : word ≡ codes "fill:" ++ (decimal x.0 ++ colon ∷ decimal x.1) =
    mark_written (codes "fill:") word found.0 found.1 ∙ ap (λ l. codes "fill:" ++ l) is.text_is in
    subst (λ w. Describes w content) (sym word_is) (subst (Describes _) (same_Some (fill_bytes x.0 x.1) content numbers.2) (Fill x.0 x.1 is.small is.low))

pub content_described : (word content : List ℕ) → content_of word ≡ Some content → Describes word content
unfolding content_of
content_described word content e = elim (option_or-was (text_content word) (option_or (hex_content word) (fill_content word)) content e) [
  | inl text ↦ text_described word content text
  | inr other ↦ elim (option_or-was (hex_content word) (fill_content word) content other) [
    | inl hex ↦ hex_described word content hex
    | inr fill ↦ fill_described word content fill
  ]
]
