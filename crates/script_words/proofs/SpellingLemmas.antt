-- What is found in a line is what is written there.
use Rattle.std.proofs.Common.{◌≡◌, ◌≢◌, inl, inr, ℕ, suc, ◌+◌, true, false, List, [], ◌∷◌, ◌++◌, length, take, drop, refl, sym, ap, subst, ◌∙◌, arith, append_assoc, drop-drop, one-add}
use Rattle.std.specs.Prelude.{◌==◌}
use Rattle.std.specs.List.{prefix_len, list_all}
use Rattle.std.specs.Str.{is_utf8}
use Rattle.std.proofs.lemmas.Bool.{and_from, and_parts, eqb-true, not-false, not-true, or_parts}
use Rattle.std.proofs.lemmas.List.{take-append-drop, take_at, drop_at, length-append, append-nil}
use Rattle.std.proofs.lemmas.List.Folds.{length-prefix_len}
use Rattle.std.proofs.Math.ListN.{drop_of_length-le}
use Rattle.annex_base.specs.Lines.{space, is_space, is_not_space}
use Rattle.annex_base.proofs.Conditions.{if_is, by_test}
use Rattle.annex_base.proofs.Lists.{prefix_len-whole}
use Rattle.script_words.proofs.FrontLemmas.{front_passes, Stops, rest_stops, front_len}
use Rattle.script_words.specs.Places.{LineWord}
use Rattle.script_words.specs.declared.words.NextWord.TheVariants.{NoWord, BadWord, Word}
use Rattle.script_words.specs.Words.{quote, is_not_quote, is_break, closes, text_word, quoted_word, plain_word, word_from, after_spaces, next_word, has_space, printed_word}
use Rattle.script_words.specs.Spelling.{begins_quoted, Spells, IsNext, IsBlank}
use Rattle.script_words.specs.Spelling.Spells.{Plain, Quoted}

-- ---- a word that is written is found

break_stops : (rest : List ℕ) → is_break rest ≡ true → Stops is_not_space rest
break_stops [] ends = tt
break_stops (b ∷ rest) ends = rw ends refl

text_found : (at after : ℕ) (text : List ℕ) → is_utf8 text ≡ true → text_word at text after ≡ Word (record { place = at; text = text; after = after })
text_found at after text utf8 = rw utf8 refl

plain_found : (at b : ℕ) (bs rest : List ℕ) → (b == quote) ≡ false → list_all is_not_space (b ∷ bs) ≡ true → is_utf8 (b ∷ bs) ≡ true → is_break rest ≡ true → word_from at ((b ∷ bs) ++ rest) ≡ Word (record { place = at; text = b ∷ bs; after = at + length (b ∷ bs) })
unfolding word_from plain_word
plain_found at b bs rest unquoted all utf8 ends =
    let n : prefix_len is_not_space ((b ∷ bs) ++ rest) ≡ length (b ∷ bs) = front_len is_not_space (b ∷ bs) rest all (break_stops rest ends) in
    rw unquoted (ap (λ k. text_word at (take k ((b ∷ bs) ++ rest)) (at + k)) n ∙ ap (λ t. text_word at t (at + length (b ∷ bs))) (take_at (b ∷ bs) rest (length (b ∷ bs)) refl) ∙ text_found at (at + length (b ∷ bs)) (b ∷ bs) utf8)

quoted_len : (text : List ℕ) → length (quote ∷ text ++ quote ∷ []) ≡ length text + 2
quoted_len text = omega (arith, length-append text (quote ∷ []))

quoted_found : (at : ℕ) (text rest : List ℕ) → list_all is_not_quote text ≡ true → is_utf8 text ≡ true → is_break rest ≡ true → quoted_word at (text ++ quote ∷ rest) ≡ Word (record { place = at; text = text; after = at + length text + 2 })
unfolding quoted_word
quoted_found at text rest all utf8 ends =
    let n : prefix_len is_not_quote (text ++ quote ∷ rest) ≡ length text = front_len is_not_quote text (quote ∷ rest) all refl in
    rw (n, drop_at text (quote ∷ rest) (length text) refl, take_at text (quote ∷ rest) (length text) refl, ends) (text_found at (at + length text + 2) text utf8)

written : (at : ℕ) (spelled text rest : List ℕ) → Spells spelled text → is_utf8 text ≡ true → is_break rest ≡ true → word_from at (spelled ++ rest) ≡ Word (record { place = at; text = text; after = at + length spelled })
unfolding word_from
written at _ _ rest (Plain [] some unquoted all) utf8 ends = absurd (some refl)
written at _ _ rest (Plain (b ∷ bs) some unquoted all) utf8 ends = plain_found at b bs rest unquoted all utf8 ends
written at _ _ rest (Quoted text all) utf8 ends =
    let behind : at + length text + 2 ≡ at + length (quote ∷ text ++ quote ∷ []) = omega (arith, quoted_len text) in
    ap (quoted_word at) (append_assoc text (quote ∷ []) rest) ∙ quoted_found at text rest all utf8 ends ∙ ap (λ k. Word (record { place = at; text = text; after = k })) behind

spelled_stops : (spelled text rest : List ℕ) → Spells spelled text → Stops is_space (spelled ++ rest)
spelled_stops _ _ rest (Plain [] some unquoted all) = absurd (some refl)
spelled_stops _ _ rest (Plain (b ∷ bs) some unquoted all) = not-true (b == space) (and_parts (is_not_space b) (list_all is_not_space bs) all).0
spelled_stops _ _ rest (Quoted text all) = refl

same_word : (w : LineWord) (p a : ℕ) → w.place ≡ p → w.after ≡ a → Word (record { place = p; text = w.text; after = a }) ≡ Word w
same_word w p a begins ends = rw (← begins, ← ends) refl

pub next_found : (line : List ℕ) (place : ℕ) (w : LineWord) → IsNext line place w → next_word line place ≡ Word w
unfolding next_word
next_found line place w next =
    let spaces = next.spaces in
    let words = next.spelled ++ next.rest in
    let n : prefix_len is_space (drop place line) ≡ length spaces =
    ap (prefix_len is_space) next.goes_on ∙ front_len is_space spaces words next.spaces_are (spelled_stops next.spelled w.text next.rest next.spelling) in
    let behind : drop (place + length spaces) line ≡ words =
    sym (drop-drop (length spaces) place line) ∙ ap (drop (length spaces)) next.goes_on ∙ drop_at spaces words (length spaces) refl in
    let at = place + length spaces in
    ap (λ k. word_from (place + k) (drop (place + k) line)) n ∙ ap (word_from at) behind
    ∙ written at next.spelled w.text next.rest next.spelling next.utf8 next.ends
    ∙ same_word w at (at + length next.spelled) next.begins_at (next.ends_at ∙ ap (λ k. k + length next.spelled) next.begins_at)

-- ---- a word that is found is written

word_is : (v w : LineWord) → Word v ≡ Word w → v ≡ w
word_is v w e = cc

text_is : (at after : ℕ) (text : List ℕ) (w : LineWord) → text_word at text after ≡ Word w → (is_utf8 text ≡ true) × (record { place = at; text = text; after = after } ≡ w)
text_is at after text w e = elim (if_is (is_utf8 text) (Word (record { place = at; text = text; after = after })) (BadWord at) (Word w) e) [
  | inl found ↦ (found.0, word_is (record { place = at; text = text; after = after }) w found.1)
  | inr none ↦ let wrong : BadWord at ≡ Word w = none.1 in absurd cc
]

-- the bytes begin with the word as it is written
record Written (at : ℕ) (bytes : List ℕ) (w : LineWord) : Type 0 where
  spelled : List ℕ
  rest : List ℕ
  bytes_are : bytes ≡ spelled ++ rest
  spelling : Spells spelled w.text
  utf8 : is_utf8 w.text ≡ true
  ends : is_break rest ≡ true
  begins_at : w.place ≡ at
  ends_at : w.after ≡ at + length spelled

stops_break : (rest : List ℕ) → Stops is_not_space rest → is_break rest ≡ true
stops_break [] stops = refl
stops_break (b ∷ rest) stops = not-false _ stops

plain_written : (at b : ℕ) (bytes : List ℕ) (w : LineWord) → is_space b ≡ false → (b == quote) ≡ false → plain_word at (b ∷ bytes) ≡ Word w → Written at (b ∷ bytes) w
unfolding plain_word
plain_written at b bytes w past unquoted e =
    let n = prefix_len is_not_space (b ∷ bytes) in
    let m = prefix_len is_not_space bytes in
    let n_is : n ≡ suc m = rw past (one-add m) in
    let is = text_is at (at + n) (take n (b ∷ bytes)) w e in
    let front : take n (b ∷ bytes) ≡ b ∷ take m bytes = ap (λ k. take k (b ∷ bytes)) n_is in
    subst (Written at (b ∷ bytes)) is.1 (record {
      spelled = take n (b ∷ bytes);
      rest = drop n (b ∷ bytes);
      bytes_are = sym (take-append-drop n (b ∷ bytes));
      spelling = Plain (take n (b ∷ bytes)) (λ none. let other : b ∷ take m bytes ≡ [] = sym front ∙ none in absurd cc) (ap begins_quoted front ∙ unquoted) (front_passes is_not_space (b ∷ bytes));
      utf8 = is.0;
      ends = stops_break (drop n (b ∷ bytes)) (rest_stops is_not_space (b ∷ bytes));
      begins_at = refl;
      ends_at = ap (λ k. at + k) (sym (length-prefix_len is_not_space (b ∷ bytes)));
    })

closed_is : (bytes : List ℕ) → Stops is_not_quote bytes → closes bytes ≡ true → (rest : List ℕ) × (bytes ≡ quote ∷ rest) × (is_break rest ≡ true)
closed_is [] stops e = absurd cc
closed_is (b ∷ rest) stops e = (rest, ap (λ x. x ∷ rest) (eqb-true b quote (not-false _ stops)), e)

quoted_written : (at : ℕ) (bytes : List ℕ) (w : LineWord) → quoted_word at bytes ≡ Word w → Written at (quote ∷ bytes) w
unfolding quoted_word
quoted_written at bytes w e =
    let n = prefix_len is_not_quote bytes in
    let text = take n bytes in
    elim (if_is (closes (drop n bytes)) (text_word at text (at + n + 2)) (BadWord at) (Word w) e) [
      | inl found ↦
          let is = text_is at (at + n + 2) text w found.1 in
          let closed = closed_is (drop n bytes) (rest_stops is_not_quote bytes) found.0 in
          let whole : bytes ≡ (text ++ quote ∷ []) ++ closed.0 =
          sym (take-append-drop n bytes) ∙ ap (λ l. text ++ l) closed.1 ∙ sym (append_assoc text (quote ∷ []) closed.0) in
          subst (Written at (quote ∷ bytes)) is.1 (record {
            spelled = quote ∷ text ++ quote ∷ [];
            rest = closed.0;
            bytes_are = ap (λ l. quote ∷ l) whole;
            spelling = Quoted text (front_passes is_not_quote bytes);
            utf8 = is.0;
            ends = closed.2;
            begins_at = refl;
            ends_at = omega (arith, quoted_len text, length-prefix_len is_not_quote bytes);
          })
      | inr none ↦ let wrong : BadWord at ≡ Word w = none.1 in absurd cc
    ]

word_written : (at : ℕ) (bytes : List ℕ) (w : LineWord) → Stops is_space bytes → word_from at bytes ≡ Word w → Written at bytes w
unfolding word_from
word_written at [] w past e = absurd cc
word_written at (b ∷ bytes) w past e = elim (if_is (b == quote) (quoted_word at bytes) (plain_word at (b ∷ bytes)) (Word w) e) [
  | inl found ↦ subst (λ q. Written at (q ∷ bytes) w) (sym (eqb-true b quote found.0)) (quoted_written at bytes w found.1)
  | inr found ↦ plain_written at b bytes w past found.0 found.1
]

pub next_written : (line : List ℕ) (place : ℕ) (w : LineWord) → next_word line place ≡ Word w → IsNext line place w
unfolding next_word
next_written line place w e =
    let d = drop place line in
    let k = prefix_len is_space d in
    let on : drop k d ≡ drop (place + k) line = drop-drop k place line in
    let is = word_written (place + k) (drop (place + k) line) w (subst (Stops is_space) on (rest_stops is_space d)) e in
    record {
      spaces = take k d;
      spelled = is.spelled;
      rest = is.rest;
      goes_on = sym (take-append-drop k d) ∙ ap (λ l. take k d ++ l) (on ∙ is.bytes_are);
      spaces_are = front_passes is_space d;
      spelling = is.spelling;
      utf8 = is.utf8;
      ends = is.ends;
      begins_at = is.begins_at ∙ ap (λ n. place + n) (sym (length-prefix_len is_space d));
      ends_at = is.ends_at ∙ ap (λ n. n + length is.spelled) (sym is.begins_at);
    }

-- ---- no word

pub blank_found : (line : List ℕ) (place : ℕ) → IsBlank line place → next_word line place ≡ NoWord
unfolding next_word word_from
blank_found line place blank =
    let d = drop place line in
    let n = prefix_len-whole is_space d blank in
    let none : drop (place + length d) line ≡ [] = sym (drop-drop (length d) place line) ∙ drop_of_length-le d (omega arith) in
    ap (λ k. word_from (place + k) (drop (place + k) line)) n ∙ ap (word_from (place + length d)) none

text_not_none : (at after : ℕ) (text : List ℕ) → text_word at text after ≡ NoWord → ⊥
text_not_none at after text e = elim (if_is (is_utf8 text) (Word (record { place = at; text = text; after = after })) (BadWord at) NoWord e) [
  | inl found ↦ let wrong : Word (record { place = at; text = text; after = after }) ≡ NoWord = found.1 in absurd cc
  | inr found ↦ let wrong : BadWord at ≡ NoWord = found.1 in absurd cc
]

quoted_not_none : (at : ℕ) (bytes : List ℕ) → quoted_word at bytes ≡ NoWord → ⊥
unfolding quoted_word
quoted_not_none at bytes e =
    let n = prefix_len is_not_quote bytes in
    elim (if_is (closes (drop n bytes)) (text_word at (take n bytes) (at + n + 2)) (BadWord at) NoWord e) [
      | inl found ↦ text_not_none at (at + n + 2) (take n bytes) found.1
      | inr found ↦ let wrong : BadWord at ≡ NoWord = found.1 in absurd cc
    ]

plain_not_none : (at : ℕ) (bytes : List ℕ) → plain_word at bytes ≡ NoWord → ⊥
unfolding plain_word
plain_not_none at bytes e = let n = prefix_len is_not_space bytes in text_not_none at (at + n) (take n bytes) e

none_is : (at : ℕ) (bytes : List ℕ) → word_from at bytes ≡ NoWord → bytes ≡ []
unfolding word_from
none_is at [] e = refl
none_is at (b ∷ bytes) e = elim (if_is (b == quote) (quoted_word at bytes) (plain_word at (b ∷ bytes)) NoWord e) [
  | inl found ↦ absurd (quoted_not_none at bytes found.1)
  | inr found ↦ absurd (plain_not_none at (b ∷ bytes) found.1)
]

pub none_blank : (line : List ℕ) (place : ℕ) → next_word line place ≡ NoWord → IsBlank line place
unfolding next_word
none_blank line place e =
    let d = drop place line in
    let k = prefix_len is_space d in
    let none : drop k d ≡ [] = drop-drop k place line ∙ none_is (place + k) (drop (place + k) line) e in
    let whole : take k d ≡ d = sym (append-nil (take k d)) ∙ ap (λ l. take k d ++ l) (sym none) ∙ take-append-drop k d in
    subst (λ l. list_all is_space l ≡ true) whole (front_passes is_space d)

-- ---- a wrong word

text_wrong : (at after place : ℕ) (text : List ℕ) → text_word at text after ≡ BadWord place → place ≡ at
text_wrong at after place text e = elim (if_is (is_utf8 text) (Word (record { place = at; text = text; after = after })) (BadWord at) (BadWord place) e) [
  | inl found ↦ let wrong : Word (record { place = at; text = text; after = after }) ≡ BadWord place = found.1 in absurd cc
  | inr found ↦ let same : BadWord at ≡ BadWord place = found.1 in cc
]

quoted_wrong : (at place : ℕ) (bytes : List ℕ) → quoted_word at bytes ≡ BadWord place → place ≡ at
unfolding quoted_word
quoted_wrong at place bytes e =
    let n = prefix_len is_not_quote bytes in
    elim (if_is (closes (drop n bytes)) (text_word at (take n bytes) (at + n + 2)) (BadWord at) (BadWord place) e) [
      | inl found ↦ text_wrong at (at + n + 2) place (take n bytes) found.1
      | inr found ↦ let same : BadWord at ≡ BadWord place = found.1 in cc
    ]

plain_wrong : (at place : ℕ) (bytes : List ℕ) → plain_word at bytes ≡ BadWord place → place ≡ at
unfolding plain_word
plain_wrong at place bytes e = let n = prefix_len is_not_space bytes in text_wrong at (at + n) place (take n bytes) e

word_wrong : (at place : ℕ) (bytes : List ℕ) → word_from at bytes ≡ BadWord place → place ≡ at
unfolding word_from
word_wrong at place [] e = absurd cc
word_wrong at place (b ∷ bytes) e = elim (if_is (b == quote) (quoted_word at bytes) (plain_word at (b ∷ bytes)) (BadWord place) e) [
  | inl found ↦ quoted_wrong at place bytes found.1
  | inr found ↦ plain_wrong at place (b ∷ bytes) found.1
]

pub next_wrong : (line : List ℕ) (place at : ℕ) → next_word line place ≡ BadWord at → at ≡ after_spaces line place
unfolding next_word
next_wrong line place at e = word_wrong (after_spaces line place) at (drop (after_spaces line place) line) e

-- ---- a word that is printed

no_space : (text : List ℕ) → has_space text ≡ false → list_all is_not_space text ≡ true
no_space [] e = refl
no_space (b ∷ bs) e =
    let both = or_parts (is_space b) (has_space bs) e in and_from (is_not_space b) (list_all is_not_space bs) (rw both.0 refl) (no_space bs both.1)

has_none : (text : List ℕ) → list_all is_not_space text ≡ true → has_space text ≡ false
has_none [] e = refl
has_none (b ∷ bs) e =
    let both = and_parts (is_not_space b) (list_all is_not_space bs) e in rw (not-true (b == space) both.0, has_none bs both.1) refl

printed_quoted : (text : List ℕ) → text ≢ [] → list_all is_not_quote text ≡ true → Spells (printed_word text) text
printed_quoted [] some all = absurd (some refl)
printed_quoted (b ∷ bs) some all =
    by_test (has_space (b ∷ bs))
    (λ e. rw e (Quoted (b ∷ bs) all))
    (λ e. rw e (Plain (b ∷ bs) some (not-true (b == quote) (and_parts (is_not_quote b) (list_all is_not_quote bs) all).0) (no_space (b ∷ bs) e)))

pub printed_spells : (spelled text : List ℕ) → Spells spelled text → text ≢ [] → Spells (printed_word text) text
printed_spells _ _ (Plain text some unquoted all) filled = rw (has_none text all) (Plain text some unquoted all)
printed_spells _ _ (Quoted text all) filled = printed_quoted text filled all
