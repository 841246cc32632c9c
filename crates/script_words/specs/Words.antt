-- How a line of a script is cut into words, and how a word is printed (own).
use Rattle.std.specs.Prelude.{ℕ, ◌+◌, ◌<◌, ◌≤◌, Bool, true, false, not, ◌==◌, List, [], ◌∷◌, ◌++◌, length, take, drop, if◌then◌else◌}
use Rattle.std.specs.List.{prefix_len, list_any}
use Rattle.std.specs.Str.{is_utf8}
use Rattle.annex_base.specs.Lines.{space, is_space, is_not_space}
use Rattle.script_words.specs.Places.{Cursor}
use Rattle.script_words.specs.declared.words.NextWord.{NextWord}
use Rattle.script_words.specs.declared.words.NextWord.TheVariants.{NoWord, BadWord, Word}

abbrev pub quote : ℕ
quote = 34

abbrev pub is_not_quote : ℕ → Bool
is_not_quote b = not (b == quote)

-- the word at a place which says this; one that isn't UTF-8 is wrong at its first byte
abbrev pub text_word : ℕ → List ℕ → ℕ → NextWord
text_word place text after = if is_utf8 text then Word (record { place = place; text = text; after = after }) else BadWord place

-- whether a space or the line's end comes next
abbrev pub is_break : List ℕ → Bool
is_break [] = true
is_break (b ∷ rest) = b == space

-- whether a quote stands first that closes a word
abbrev pub closes : List ℕ → Bool
closes [] = false
closes (b ∷ rest) = is_break rest

-- the word whose first quote stands at the place, of the bytes behind that quote
unfoldable pub quoted_word : ℕ → List ℕ → NextWord
quoted_word place bytes =
    let n = prefix_len is_not_quote bytes in
    if closes (drop n bytes) then text_word place (take n bytes) (place + n + 2) else BadWord place

-- the word without quotes at the place, of the bytes from there on
unfoldable pub plain_word : ℕ → List ℕ → NextWord
plain_word place bytes = let n = prefix_len is_not_space bytes in text_word place (take n bytes) (place + n)

-- The word at the place, of the bytes from there on: words are separated by spaces, and a word whose first byte is a
-- double quote runs to the next quote.
unfoldable pub word_from : ℕ → List ℕ → NextWord
word_from place [] = NoWord
word_from place (b ∷ bytes) = if b == quote then quoted_word place bytes else plain_word place (b ∷ bytes)

-- the place behind the spaces that stand there
abbrev pub after_spaces : List ℕ → ℕ → ℕ
after_spaces line place = place + prefix_len is_space (drop place line)

-- the place of a line's first word, behind the spaces that it begins with
abbrev pub first_place : List ℕ → ℕ
first_place line = prefix_len is_space line

-- the next word of a line from a place on: none, a wrong one at its first byte, or a word
unfoldable pub next_word : List ℕ → ℕ → NextWord
next_word line place = let start = after_spaces line place in word_from start (drop start line)

-- all that follows the space at the place, as one word; another byte there is wrong
unfoldable pub rest_from : ℕ → List ℕ → NextWord
rest_from place [] = NoWord
rest_from place (b ∷ bytes) = if b == space then text_word (place + 1) bytes (place + 1 + length bytes) else BadWord place

-- the rest of a line behind the one space that follows the word before it: none where the line ends there
unfoldable pub rest_word : List ℕ → ℕ → NextWord
rest_word line place = rest_from place (drop place line)

-- the cursor behind what was found: at the line's end where there is no word, and as before at a wrong one
abbrev pub behind : Cursor → NextWord → Cursor
behind c NoWord = record { line = c.line; place = length c.line }
behind c (BadWord at) = c
behind c (Word word) = record { line = c.line; place = word.after }

-- what was found stands behind the cursor and within its line, and a word ends behind the cursor
abbrev pub IsAhead : Cursor → NextWord → Type 0
IsAhead c NoWord = Unit {0}
IsAhead c (BadWord at) = (c.place ≤ at) × (at < length c.line)
IsAhead c (Word word) = (c.place ≤ word.place) × (word.place ≤ word.after) × (c.place < word.after) × (word.after ≤ length c.line)

-- ---- words that are printed

abbrev pub has_space : List ℕ → Bool
has_space word = list_any is_space word

-- how a word is printed: in double quotes where it has a space
abbrev pub printed_word : List ℕ → List ℕ
printed_word word = if has_space word then quote ∷ word ++ quote ∷ [] else word
