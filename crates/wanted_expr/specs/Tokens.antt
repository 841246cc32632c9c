-- For private contracts: what the readers of pieces and of lexemes answer.
use Rattle.std.specs.Prelude.{◌≡◌, ◌⊎◌, ℕ, Bool, true, false, not, List, [], ◌∷◌, Option, Some, None, Result, Ok, Err}
use Rattle.wanted_expr.specs.declared.data.Word.{Word}
use Rattle.wanted_expr.specs.declared.token.Token as token
use Rattle.wanted_expr.specs.declared.token.Token.TheVariants as tokens
use Rattle.wanted_expr.specs.declared.fault.ExprFault.{ExprFault}
use Rattle.wanted_expr.specs.declared.fault.ExprFault.TheVariants.{BadParen, NoOperand, UnknownWord, BadValue, OpenQuote, TooDeep, TooLong, NoMemory}
use Rattle.wanted_expr.specs.declared.lexeme.Lexeme.{Lexeme}
use Rattle.wanted_expr.specs.Expressions.{IsLexeme, NextIs, IsEnd, is_operator}
use Rattle.wanted_expr.specs.Pieces.{Piece, Opening, Closing, Written, ends_word, piece_at}
use Rattle.wanted_expr.specs.Words.{IsWord, has_name}

abbrev pub begins_word : List ℕ → Bool
begins_word [] = false
begins_word (b ∷ bs) = not (ends_word b)

-- what a function answers, seen by view, is what is read, unless memory ran out
abbrev pub GivesPiece : {X Y : Type 0} → (X → Y) → Result X ExprFault → Result Y ℕ → Type 0
GivesPiece view (Ok x) read = read ≡ Ok (view x)
GivesPiece view (Err (BadParen at)) read = ⊥
GivesPiece view (Err (NoOperand at)) read = ⊥
GivesPiece view (Err (UnknownWord at)) read = ⊥
GivesPiece view (Err (BadValue at)) read = ⊥
GivesPiece view (Err (OpenQuote at)) read = read ≡ Err at
GivesPiece view (Err (TooDeep at)) read = ⊥
GivesPiece view (Err TooLong) read = ⊥
GivesPiece view (Err NoMemory) read = Unit {0}

-- the piece that a token is
abbrev pub piece_of : token.Token → Piece
piece_of tokens.Open = Opening
piece_of tokens.Close = Closing
piece_of (tokens.Word text) = Written text.items

-- why a piece at this place is no lexeme
abbrev pub IsWordFault : Piece → ℕ → ExprFault → Type 0
IsWordFault piece at (UnknownWord place) = (place ≡ at) × (text : List ℕ) × (piece ≡ Written text) × (is_operator text ≡ false) × (has_name text ≡ false)
IsWordFault piece at (BadValue place) = (place ≡ at) × (text : List ℕ) × (piece ≡ Written text) × (is_operator text ≡ false) × (has_name text ≡ true) × ((word : Word) → IsWord text word → ⊥)
IsWordFault piece at (BadParen place) = ⊥
IsWordFault piece at (NoOperand place) = ⊥
IsWordFault piece at (OpenQuote place) = ⊥
IsWordFault piece at (TooDeep place) = ⊥
IsWordFault piece at TooLong = ⊥
IsWordFault piece at NoMemory = Unit {0}

-- the lexeme that a piece at this place is
abbrev pub ReadsPiece : Piece → ℕ → Result Lexeme ExprFault → Type 0
ReadsPiece piece at (Ok lexeme) = IsLexeme piece lexeme
ReadsPiece piece at (Err fault) = IsWordFault piece at fault

-- why no lexeme can be read here
abbrev pub IsNoLexeme : ℕ → List ℕ → ExprFault → Type 0
IsNoLexeme total bytes (OpenQuote at) = piece_at total bytes ≡ Err at
IsNoLexeme total bytes (UnknownWord at) = (text after : List ℕ) × (piece_at total bytes ≡ Ok (Some (at, Written text, after))) × (is_operator text ≡ false) × (has_name text ≡ false)
IsNoLexeme total bytes (BadValue at) = (text after : List ℕ) × (piece_at total bytes ≡ Ok (Some (at, Written text, after))) × (is_operator text ≡ false) × (has_name text ≡ true) × ((word : Word) → IsWord text word → ⊥)
IsNoLexeme total bytes (BadParen at) = ⊥
IsNoLexeme total bytes (NoOperand at) = ⊥
IsNoLexeme total bytes (TooDeep at) = ⊥
IsNoLexeme total bytes TooLong = ⊥
IsNoLexeme total bytes NoMemory = ⊥

-- the same, or memory ran out
abbrev pub StopsAt : ℕ → List ℕ → ExprFault → Type 0
StopsAt total bytes fault = (fault ≡ NoMemory) ⊎ IsNoLexeme total bytes fault

-- the first lexeme, or that there is none
abbrev pub ReadsNext : {X : Type 0} → (X → ℕ × Lexeme × List ℕ) → ℕ → List ℕ → Result (Option X) ExprFault → Type 0
ReadsNext view total bytes (Ok None) = IsEnd total bytes
ReadsNext view total bytes (Ok (Some x)) = NextIs total bytes (view x).0 (view x).1 (view x).2
ReadsNext view total bytes (Err fault) = StopsAt total bytes fault
