-- How a text is cut into parentheses and words (own).
use Rattle.std.specs.Prelude.{IsTrue, ℕ, ◌-◌, ◌==◌, ◌||◌, Bool, if◌then◌else◌, List, [], ◌∷◌, ◌++◌, length, Option, Some, None, Result, Ok, Err}
use Rattle.std.specs.Str.{is_utf8}

-- A parenthesis, or a word without its quotes. Spaces part words, a parenthesis stands alone or touches a word, and
-- double quotes group spaces and parentheses.
pub data Piece : Type 0 where
  Opening : Piece
  Closing : Piece
  Written : (text : List ℕ) → Piece

-- a space or a parenthesis, outside quotes
abbrev pub ends_word : ℕ → Bool
ends_word b = (b == 32) || (b == 40) || (b == 41)

abbrev pub after_spaces : List ℕ → List ℕ
after_spaces [] = []
after_spaces (b ∷ bs) = if b == 32 then after_spaces bs else b ∷ bs

-- a word and what follows it, or the place of a quote that is never closed; a place counts the bytes before it
abbrev pub WordRead : Type 0
WordRead = Result (List ℕ × List ℕ) ℕ

abbrev pub after_bytes : List ℕ → WordRead → WordRead
after_bytes front (Ok x) = Ok (front ++ x.0, x.1)
after_bytes front (Err at) = Err at

-- the word at the front of these bytes, of a text of this length; a quote may be open, which began at a place
abbrev pub word_at : ℕ → Option ℕ → List ℕ → WordRead
word_at total None [] = Ok ([], [])
word_at total (Some at) [] = Err at
word_at total None (b ∷ bs) = if ends_word b then Ok ([], b ∷ bs) else if b == 34 then word_at total (Some (total - length (b ∷ bs))) bs else after_bytes (b ∷ []) (word_at total None bs)
word_at total (Some at) (b ∷ bs) = if b == 34 then word_at total None bs else after_bytes (b ∷ []) (word_at total (Some at) bs)

-- a piece, where it begins and what follows it; none at the end
abbrev pub PieceRead : Type 0
PieceRead = Result (Option (ℕ × Piece × List ℕ)) ℕ

abbrev pub as_piece : ℕ → WordRead → PieceRead
as_piece at (Ok x) = Ok (Some (at, Written x.0, x.1))
as_piece at (Err quote) = Err quote

-- the piece that begins here
abbrev pub piece_here : ℕ → List ℕ → PieceRead
piece_here total [] = Ok None
piece_here total (b ∷ bs) = if b == 40 then Ok (Some (total - length (b ∷ bs), Opening, bs)) else if b == 41 then Ok (Some (total - length (b ∷ bs), Closing, bs)) else as_piece (total - length (b ∷ bs)) (word_at total None (b ∷ bs))

-- the first piece of what is left of a text of this length
abbrev pub piece_at : ℕ → List ℕ → PieceRead
piece_at total bytes = piece_here total (after_spaces bytes)

-- a parenthesis, or a word that is UTF-8
abbrev pub IsTextPiece : Piece → Type 0
IsTextPiece Opening = Unit {0}
IsTextPiece Closing = Unit {0}
IsTextPiece (Written text) = IsTrue (is_utf8 text)
