-- Which texts are expressions and what they say, and which fault is the first of a text that is none (own).
use Rattle.std.specs.Prelude.{◌≡◌, ◌⊎◌, ℕ, ◌<◌, ◌≤◌, Bool, false, true, List, [], ◌∷◌, ◌++◌, length, drop, map, codes, bytes_eq, Option, Some, None, Ok, Err}
use Rattle.std.specs.List.{list_any}
use Rattle.wanted_expr.specs.declared.data.Word.{Word}
use Rattle.wanted_expr.specs.declared.fault.ExprFault.{ExprFault}
use Rattle.wanted_expr.specs.declared.fault.ExprFault.TheVariants.{BadParen, NoOperand, UnknownWord, BadValue, OpenQuote, TooDeep, TooLong, NoMemory}
use Rattle.wanted_expr.specs.declared.lexeme.Operator.{Operator}
use Rattle.wanted_expr.specs.declared.lexeme.Operator.TheVariants.{And, Or}
use Rattle.wanted_expr.specs.declared.lexeme.Lexeme.{Lexeme}
use Rattle.wanted_expr.specs.declared.lexeme.Lexeme.TheVariants.{Open, Close, Not, Infix, Term}
use Rattle.wanted_expr.specs.Formula.{Formula}
use Rattle.wanted_expr.specs.Pieces.{Piece, Opening, Closing, Written, piece_at}
use Rattle.wanted_expr.specs.Syntax.{Spells, Begins}
use Rattle.wanted_expr.specs.Words.{IsWord, has_name}

-- the operators, which are no words
abbrev pub is_operator : List ℕ → Bool
is_operator text = list_any (bytes_eq text) (codes "and" ∷ codes "or" ∷ codes "not" ∷ [])

-- what a piece of a text is in the grammar
abbrev pub IsLexeme : Piece → Lexeme → Type 0
IsLexeme piece Open = piece ≡ Opening
IsLexeme piece Close = piece ≡ Closing
IsLexeme piece Not = piece ≡ Written (codes "not")
IsLexeme piece (Infix And) = piece ≡ Written (codes "and")
IsLexeme piece (Infix Or) = piece ≡ Written (codes "or")
IsLexeme piece (Term word) = (text : List ℕ) × (piece ≡ Written text) × IsWord text word

-- the first lexeme of what is left of a text of this length: its place, and what follows it
abbrev pub NextIs : ℕ → List ℕ → ℕ → Lexeme → List ℕ → Type 0
NextIs total bytes at lexeme after = (piece : Piece) × (piece_at total bytes ≡ Ok (Some (at, piece, after))) × IsLexeme piece lexeme

-- nothing but spaces is left
abbrev pub IsEnd : ℕ → List ℕ → Type 0
IsEnd total bytes = piece_at total bytes ≡ Ok None

-- the lexemes with their places that stand before the rest
abbrev pub Reads : ℕ → List ℕ → List (ℕ × Lexeme) → List ℕ → Type 0
Reads total bytes [] rest = bytes ≡ rest
Reads total bytes (x ∷ xs) rest = (after : List ℕ) × NextIs total bytes x.0 x.1 after × Reads total after xs rest

abbrev pub without_places : List (ℕ × Lexeme) → List Lexeme
without_places read = map (λ x. x.1) read

-- a text that says what the formula does
pub record IsExpression (text : List ℕ) (formula : Formula) : Type 0 where
  pub short : length text ≤ 4096
  pub read : List (ℕ × Lexeme)
  pub rest : List ℕ
  pub reads : Reads (length text) text read rest
  pub at_end : IsEnd (length text) rest
  pub spells : Spells (without_places read) formula

-- The faults.

-- the places of the `(` that are open, the innermost first: before a lexeme at this place and after it
abbrev pub open_after : ℕ → Lexeme → List ℕ → List ℕ
open_after at Open places = at ∷ places
open_after at Close places = drop 1 places
open_after at Not places = places
open_after at (Infix operator) places = places
open_after at (Term word) places = places

abbrev pub open_parens : List ℕ → List (ℕ × Lexeme) → List ℕ
open_parens places [] = places
open_parens places (x ∷ xs) = open_parens (open_after x.0 x.1 places) xs

abbrev pub outermost : List ℕ → Option ℕ
outermost [] = None
outermost (at ∷ []) = Some at
outermost (at ∷ place ∷ places) = outermost (place ∷ places)

abbrev pub BeginsWith : List (ℕ × Lexeme) → Lexeme → Type 0
BeginsWith read lexeme = Begins (without_places read ++ lexeme ∷ [])

-- what stands at a place where a term must stand
abbrev pub LacksTerm : ℕ → List (ℕ × Lexeme) → List ℕ → ℕ → Type 0
LacksTerm total read rest at =
    ((operator : Operator) × (after : List ℕ) × NextIs total rest at (Infix operator) after)
    ⊎ ((after : List ℕ) × NextIs total rest at Close after × (0 < length (open_parens [] read)))
    ⊎ (IsEnd total rest × (at ≡ total))

-- a `)` that was never opened, or at the end the first `(` that is never closed
abbrev pub IsUnbalanced : ℕ → List (ℕ × Lexeme) → List ℕ → ℕ → Type 0
IsUnbalanced total read rest at =
    ((after : List ℕ) × NextIs total rest at Close after × (open_parens [] read ≡ []))
    ⊎ (IsEnd total rest × BeginsWith read (Infix And) × (outermost (open_parens [] read) ≡ Some at))

-- what is wrong with the rest, after lexemes with which some expression begins: an operator can stand only behind a term
abbrev pub IsFaultAt : ℕ → List (ℕ × Lexeme) → List ℕ → ExprFault → Type 0
IsFaultAt total read rest (BadParen at) = IsUnbalanced total read rest at
IsFaultAt total read rest (NoOperand at) = (BeginsWith read (Infix And) → ⊥) × LacksTerm total read rest at
IsFaultAt total read rest (UnknownWord at) = (text after : List ℕ) × (piece_at total rest ≡ Ok (Some (at, Written text, after))) × (is_operator text ≡ false) × (has_name text ≡ false)
IsFaultAt total read rest (BadValue at) = (text after : List ℕ) × (piece_at total rest ≡ Ok (Some (at, Written text, after))) × (is_operator text ≡ false) × (has_name text ≡ true) × ((word : Word) → IsWord text word → ⊥)
IsFaultAt total read rest (OpenQuote at) = piece_at total rest ≡ Err at
IsFaultAt total read rest (TooDeep at) = (lexeme : Lexeme) × (after : List ℕ) × ((lexeme ≡ Open) ⊎ (lexeme ≡ Not)) × NextIs total rest at lexeme after × (BeginsWith read lexeme → ⊥)
IsFaultAt total read rest TooLong = ⊥
IsFaultAt total read rest NoMemory = ⊥

-- the first fault from left to right
pub record IsFirstFault (text : List ℕ) (fault : ExprFault) : Type 0 where
  pub short : length text ≤ 4096
  pub read : List (ℕ × Lexeme)
  pub rest : List ℕ
  pub reads : Reads (length text) text read rest
  pub begins : Begins (without_places read)
  pub fault_at : IsFaultAt (length text) read rest fault

-- why a text is refused
abbrev pub IsCause : List ℕ → ExprFault → Type 0
IsCause text (BadParen at) = IsFirstFault text (BadParen at)
IsCause text (NoOperand at) = IsFirstFault text (NoOperand at)
IsCause text (UnknownWord at) = IsFirstFault text (UnknownWord at)
IsCause text (BadValue at) = IsFirstFault text (BadValue at)
IsCause text (OpenQuote at) = IsFirstFault text (OpenQuote at)
IsCause text (TooDeep at) = IsFirstFault text (TooDeep at)
IsCause text TooLong = 4096 < length text
IsCause text NoMemory = Unit {0}
