-- The formula that a text spells, read from left to right (git-annex-preferred-content; the grammar is own).
use Rattle.std.specs.Prelude.{ℕ, zero, suc, ◌*◌, ◌^◌, Bool, nat_le, nat_lt, ◌&&◌, ◌==◌, if◌then◌else◌, List, [], ◌∷◌, codes, bytes_eq, drop, find, length, take, Option, Some, None, option_map, Ok, Err}
use Rattle.std.specs.Char.{is_ascii_digit}
use Rattle.std.specs.List.{list_all, prefix_len}
use Rattle.std.specs.Option.{option_or}
use Rattle.std.specs.Result.{result_ok}
use Rattle.std.specs.Str.Parse.{digits_value}
use Rattle.annex_base.specs.Lines.{colon}
use Rattle.annex_base.specs.OptionSteps.{◌>>=◌}
use Rattle.annex_base.specs.declared.kinds.Level.TheVariants.{Untrusted, Semitrusted, Trusted}
use Rattle.glob_match.specs.Spelled.{glob_in}
use Rattle.glob_match.specs.declared.item.Item.{Item}
use Rattle.wanted_expr.specs.declared.data.Among.{Among}
use Rattle.wanted_expr.specs.declared.data.Among.TheVariants.{All, OfLevel, OfLevelOrMore, InGroup}
use Rattle.wanted_expr.specs.declared.data.Word.{Word}
use Rattle.wanted_expr.specs.declared.data.Word.TheVariants.{Anything, Nothing, Present, Include, Exclude, Copies, LackingCopies, InAllGroup, OnlyInGroup, InBackend, SecureHash, LargerThan, SmallerThan, Standard, GroupWanted}
use Rattle.wanted_expr.specs.declared.lexeme.Lexeme.{Lexeme}
use Rattle.wanted_expr.specs.declared.lexeme.Lexeme.TheVariants.{Open, Close, Not, Infix, Term}
use Rattle.wanted_expr.specs.declared.lexeme.Operator.TheVariants.{And, Or}
use Rattle.wanted_expr.specs.Formula.{Formula}
use Rattle.wanted_expr.specs.Pieces.{Piece, Opening, Closing, Written, PieceRead, piece_at}
use Rattle.wanted_expr.specs.Reading.{State, Awaiting, finish, step}

-- what stands beside a text in a table
abbrev pub entry_of : {X : Type 0} → List (List ℕ × X) → List ℕ → Option X
entry_of table text = option_map (λ e. e.1) (find (λ e. bytes_eq e.0 text) table)

-- ---- values

abbrev pub text_value : List ℕ → Option (List ℕ)
text_value [] = None
text_value (b ∷ bs) = Some (b ∷ bs)

abbrev pub glob_value : List ℕ → Option (List Item)
glob_value value = text_value value >>= glob_in

abbrev pub is_digits : List ℕ → Bool
is_digits text = nat_lt 0 (length text) && list_all is_ascii_digit text

abbrev pub count_value : List ℕ → Option ℕ
count_value value = if is_digits value && nat_le (length value) 9 then Some (digits_value 10 value) else None

-- the units of sizes, powers of 1,000
abbrev pub units : List (List ℕ × ℕ)
units = ([], 1) ∷ (codes "kb", 1000) ∷ (codes "mb", 1000000) ∷ (codes "gb", 1000000000) ∷ []

-- a size that fits
abbrev pub small_size : ℕ → Option ℕ
small_size n = if nat_lt n (2 ^ 64) then Some n else None

abbrev pub sized : List ℕ → ℕ → Option ℕ
sized digits unit = if is_digits digits then small_size (digits_value 10 digits * unit) else None

abbrev pub size_value : List ℕ → Option ℕ
size_value value = let n = prefix_len is_ascii_digit value in entry_of units (drop n value) >>= sized (take n value)

abbrev pub levels : List (List ℕ × Among)
levels =
    (codes "untrusted", OfLevel Untrusted) ∷ (codes "untrusted+", OfLevelOrMore Untrusted)
    ∷ (codes "semitrusted", OfLevel Semitrusted) ∷ (codes "semitrusted+", OfLevelOrMore Semitrusted)
    ∷ (codes "trusted", OfLevel Trusted) ∷ (codes "trusted+", OfLevelOrMore Trusted) ∷ []

-- a level, a level or more, or else a group
abbrev pub among_value : List ℕ → Option Among
among_value text = option_or (entry_of levels text) (option_map (λ group. InGroup group) (text_value text))

-- what stands before the last colon, and after it
abbrev pub cut_with : ℕ → List ℕ → Option (List ℕ × List ℕ) → Option (List ℕ × List ℕ)
cut_with b bs (Some x) = Some (b ∷ x.0, x.1)
cut_with b bs None = if b == colon then Some ([], bs) else None

abbrev pub colon_cut : List ℕ → Option (List ℕ × List ℕ)
colon_cut [] = None
colon_cut (b ∷ bs) = cut_with b bs (colon_cut bs)

-- a number alone, or behind the last colon
abbrev pub copies_by : List ℕ → Option (List ℕ × List ℕ) → Option Word
copies_by value None = option_map (λ least. Copies All least) (count_value value)
copies_by value (Some x) = do
  among ← among_value x.0
  least ← count_value x.1
  Some (Copies among least)

abbrev pub copies_value : List ℕ → Option Word
copies_value value = copies_by value (colon_cut value)

-- ---- words

abbrev pub bare_words : List (List ℕ × Word)
bare_words =
    (codes "anything", Anything) ∷ (codes "nothing", Nothing) ∷ (codes "present", Present) ∷ (codes "securehash", SecureHash)
    ∷ (codes "standard", Standard) ∷ (codes "groupwanted", GroupWanted) ∷ []

-- the words `NAME=VALUE`, each with how its value is read
abbrev pub valued_words : List (List ℕ × (List ℕ → Option Word))
valued_words =
    (codes "include", (λ value. option_map (λ glob. Include glob) (glob_value value)))
    ∷ (codes "exclude", (λ value. option_map (λ glob. Exclude glob) (glob_value value)))
    ∷ (codes "copies", copies_value)
    ∷ (codes "lackingcopies", (λ value. option_map (λ least. LackingCopies least) (count_value value)))
    ∷ (codes "approxlackingcopies", (λ value. option_map (λ least. LackingCopies least) (count_value value)))
    ∷ (codes "inallgroup", (λ value. option_map (λ group. InAllGroup group) (text_value value)))
    ∷ (codes "onlyingroup", (λ value. option_map (λ group. OnlyInGroup group) (text_value value)))
    ∷ (codes "inbackend", (λ value. option_map (λ backend. InBackend backend) (text_value value)))
    ∷ (codes "largerthan", (λ value. option_map (λ limit. LargerThan limit) (size_value value)))
    ∷ (codes "smallerthan", (λ value. option_map (λ limit. SmallerThan limit) (size_value value)))
    ∷ []

-- what stands before the first `=`, and after it
abbrev pub name_cut : List ℕ → Option (List ℕ × List ℕ)
name_cut [] = None
name_cut (b ∷ bs) = if b == 61 then Some ([], bs) else option_map (λ x. (b ∷ x.0, x.1)) (name_cut bs)

abbrev pub valued_word : List ℕ → Option Word
valued_word text = do
  cut ← name_cut text
  read ← entry_of valued_words cut.0
  read cut.1

abbrev pub word_of : List ℕ → Option Word
word_of text = option_or (entry_of bare_words text) (valued_word text)

-- ---- formulas

abbrev pub operators : List (List ℕ × Lexeme)
operators = (codes "and", Infix And) ∷ (codes "or", Infix Or) ∷ (codes "not", Not) ∷ []

abbrev pub lexeme_of : Piece → Option Lexeme
lexeme_of Opening = Some Open
lexeme_of Closing = Some Close
lexeme_of (Written text) = option_or (entry_of operators text) (option_map (λ word. Term word) (word_of text))

-- the pieces one after the other, from this state on: at most n of a text of this length
abbrev pub formula_from : ℕ → ℕ → PieceRead → State → Option Formula
formula_from n total (Err quote) s = None
formula_from n total (Ok None) s = result_ok (finish total s)
formula_from zero total (Ok (Some (at, piece, after))) s = None
formula_from (suc n) total (Ok (Some (at, piece, after))) s = do
  lexeme ← lexeme_of piece
  next ← result_ok (step at lexeme s)
  formula_from n total (piece_at total after) next

-- what a text of at most 4,096 bytes says; none where it is outside the grammar
unfoldable pub formula_in : List ℕ → Option Formula
formula_in text = let total = length text in if nat_le total 4096 then formula_from total total (piece_at total text) (Awaiting []) else None
