-- The first and the last word of a line.
use Rattle.std.proofs.Common.{◌⊎◌, inl, inr, ◌≡◌, ℕ, suc, ◌+◌, ◌-◌, ◌<◌, nat_lt, List, [], ◌∷◌, ◌++◌, length, length-append, take, drop, reverse, get_or, Some, None, refl, sym, ap, subst, ◌∙◌, arith}
use Rattle.std.specs.List.{position_or_len, suffix_len}
use Rattle.std.proofs.Math.Seq.{drop-append-add}
use Rattle.std.proofs.lemmas.Bool.{ltb-true, lt-ltb, le-ltb, eqb-true, cases_Bool}
use Rattle.std.proofs.lemmas.List.{reverse-append, length-reverse, take_at}
use Rattle.std.proofs.lemmas.List.Sums.{split_at_first, passes_at_first}
use Rattle.std.proofs.lemmas.Option.{cond_some, same_Some}
use Rattle.annex_base.proofs.Lists.{list_all_reverse, prefix_len-stops, prefix_len-whole}
use Rattle.annex_base.proofs.Options.{none_and_some}
use Rattle.annex_base.specs.Lines.{space, is_not_space, is_space}
use Rattle.log_grammar.specs.LineText.{IsWord}
use Rattle.log_grammar.specs.Reading.{first_word, last_word}

-- ---- the first word

pub word_len : (word rest : List ℕ) → IsWord word → position_or_len is_space (word ++ space ∷ rest) ≡ length word
word_len word rest is = prefix_len-stops is_not_space word space rest is refl

pub word_len-whole : (word : List ℕ) → IsWord word → position_or_len is_space word ≡ length word
word_len-whole word is = prefix_len-whole is_not_space word is

pub first_again : (word rest : List ℕ) → IsWord word → first_word (word ++ space ∷ rest) ≡ Some (word, rest)
unfolding first_word
first_again word rest is =
    let line = word ++ space ∷ rest in
    let within : length word < length line = omega (arith, length-append word (space ∷ rest)) in
    rw (word_len word rest is, lt-ltb (length word) (length line) within, take_at word (space ∷ rest) (length word) refl, drop-append-add word (space ∷ rest) 1) refl

pub first_takes : (line : List ℕ) (x : List ℕ × List ℕ) → first_word line ≡ Some x → line ≡ x.0 ++ space ∷ x.1
unfolding first_word
first_takes line x e =
    let n = position_or_len is_space line in
    let h = cond_some (nat_lt n (length line)) (take n line, drop (n + 1) line) x e in
    let within : n < length line = ltb-true n (length line) h.0 in
    let at : get_or line n 0 ≡ space = eqb-true (get_or line n 0) space (passes_at_first is_space line 0 within) in
    split_at_first is_space line 0 within ∙ ap (λ (b : ℕ). take n line ++ b ∷ drop (n + 1) line) at
    ∙ ap (λ (y : List ℕ × List ℕ). y.0 ++ space ∷ y.1) h.1

-- ---- the last word

last_len : (front word : List ℕ) → IsWord word → suffix_len is_not_space (front ++ space ∷ word) ≡ length word
last_len front word is =
    let turned : reverse (front ++ space ∷ word) ≡ reverse word ++ space ∷ reverse front =
    reverse-append front (space ∷ word) ∙ ap (λ (l : List ℕ). l ++ reverse front) (reverse-append (space ∷ []) word) ∙ append_one (reverse word) space (reverse front) in
    rw turned (prefix_len-stops is_not_space (reverse word) space (reverse front) (list_all_reverse is_not_space word is) refl ∙ length-reverse word) where
      append_one : (xs : List ℕ) (b : ℕ) (ys : List ℕ) → (xs ++ b ∷ []) ++ ys ≡ xs ++ b ∷ ys
      append_one [] b ys = refl
      append_one (x ∷ xs) b ys = ap (λ l. x ∷ l) (append_one xs b ys)

pub last_again : (front word : List ℕ) → IsWord word → last_word (front ++ space ∷ word) ≡ Some (front, word)
unfolding last_word
last_again front word is =
    let line = front ++ space ∷ word in
    let whole : length line ≡ length front + suc (length word) = length-append front (space ∷ word) in
    let within : length word < length line = omega (arith, whole) in
    let before : length line - length word - 1 ≡ length front = omega (arith, whole) in
    let after : length line - length word ≡ length front + 1 = omega (arith, whole) in
    rw (last_len front word is, lt-ltb (length word) (length line) within, before, after, take_at front (space ∷ word) (length front) refl, drop-append-add front (space ∷ word) 1) refl

-- a list has a last space, or none
record HasLast (line : List ℕ) : Type 0 where
  front : List ℕ
  word : List ℕ
  is : IsWord word
  spelled : line ≡ front ++ space ∷ word

last_or_none : (line : List ℕ) → IsWord line ⊎ HasLast line
last_or_none [] = inl refl
last_or_none (b ∷ bs) =
    elim (last_or_none bs) [
      | inr has ↦ inr (record { front = b ∷ has.front; word = has.word; is = has.is; spelled = ap (λ l. b ∷ l) has.spelled })
      | inl whole ↦ elim (cases_Bool (is_space b)) [
        | inl at ↦ inr (record { front = []; word = bs; is = whole; spelled = ap (λ c. c ∷ bs) (eqb-true b space at) })
        | inr other ↦ inl (rw (other, whole) refl)
      ]
    ]

last_none : (line : List ℕ) → IsWord line → last_word line ≡ None
unfolding last_word
last_none line is =
    let whole : suffix_len is_not_space line ≡ length line = prefix_len-whole is_not_space (reverse line) (list_all_reverse is_not_space line is) ∙ length-reverse line in
    rw (whole, le-ltb (length line) (length line) (omega arith)) refl

pub last_takes : (line : List ℕ) (x : List ℕ × List ℕ) → last_word line ≡ Some x → IsWord x.1 × (line ≡ x.0 ++ space ∷ x.1)
last_takes line x e =
    elim (last_or_none line) [
      | inl whole ↦ absurd (none_and_some (last_word line) x (last_none line whole) e)
      | inr has ↦
          let same : (has.front, has.word) ≡ x = same_Some (has.front, has.word) x (sym (last_again has.front has.word has.is) ∙ sym (ap last_word has.spelled) ∙ e) in
          subst (λ (y : List ℕ × List ℕ). IsWord y.1 × (line ≡ y.0 ++ space ∷ y.1)) same (has.is, has.spelled)
    ]
