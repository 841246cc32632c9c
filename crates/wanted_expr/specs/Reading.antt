-- For private contracts: an expression is read from left to right, over what awaits its term, the innermost first.
use Rattle.std.specs.Prelude.{◌≡◌, ℕ, ◌+◌, nat_lt, Bool, true, false, not, if◌then◌else◌, List, [], ◌∷◌, length, ◌⊎◌, Option, Some, None, Result, Ok, Err}
use Rattle.wanted_expr.specs.declared.data.Tree.{Tree}
use Rattle.wanted_expr.specs.declared.fault.ExprFault.{ExprFault}
use Rattle.wanted_expr.specs.declared.fault.ExprFault.TheVariants.{BadParen, NoOperand, UnknownWord, BadValue, OpenQuote, TooDeep, TooLong, NoMemory}
use Rattle.wanted_expr.specs.declared.lexeme.Operator.{Operator}
use Rattle.wanted_expr.specs.declared.lexeme.Operator.TheVariants.{And}
use Rattle.wanted_expr.specs.declared.lexeme.Lexeme.{Lexeme}
use Rattle.wanted_expr.specs.declared.lexeme.Lexeme.TheVariants.{Open, Close, Not, Infix, Term}
use Rattle.wanted_expr.specs.declared.reading.Frame as frame
use Rattle.wanted_expr.specs.declared.reading.Frame.TheVariants as frames
use Rattle.wanted_expr.specs.declared.reading.Reading.{Reading}
use Rattle.annex_base.specs.ResultSteps.{◌>>=◌}
use Rattle.wanted_expr.specs.Expressions.{NextIs, IsEnd, Reads, outermost}
use Rattle.wanted_expr.specs.Formula.{Formula, Atom, Negation, combination, formula_of}
use Rattle.wanted_expr.specs.Tokens.{IsNoLexeme}

-- what awaits its term: `not`, a `(` at its place, or a formula with an operator behind it
pub data Pending : Type 0 where
  Negating : Pending
  Grouping : (at : ℕ) → Pending
  Joining : (left : Formula) → (operator : Operator) → Pending

-- a term must come, or the formula is what was read since the innermost `(`
pub data State : Type 0 where
  Awaiting : List Pending → State
  Having : Formula → List Pending → State

-- how many `(` and `not` are open
abbrev pub opens : Pending → ℕ
opens Negating = 1
opens (Grouping at) = 1
opens (Joining left operator) = 0

abbrev pub open_count : List Pending → ℕ
open_count [] = 0
open_count (p ∷ k) = opens p + open_count k

abbrev pub is_group : Pending → Bool
is_group Negating = false
is_group (Grouping at) = true
is_group (Joining left operator) = false

-- something has awaited a term since the innermost `(`
abbrev pub has_pending : List Pending → Bool
has_pending [] = false
has_pending (p ∷ k) = not (is_group p)

-- what a term makes of what awaited it
abbrev pub completion : Pending → Formula → Formula
completion Negating term = Negation term
completion (Grouping at) term = term
completion (Joining left operator) term = combination (Some operator) left term

-- the places of the `(` that are open, the innermost first
abbrev pub open_places : List Pending → List ℕ
open_places [] = []
open_places (Negating ∷ k) = open_places k
open_places (Grouping at ∷ k) = at ∷ open_places k
open_places (Joining left operator ∷ k) = open_places k

-- a term has come, and completes all that awaited it since the innermost `(`
abbrev pub settle : Formula → List Pending → State
settle term [] = Having term []
settle term (Negating ∷ k) = settle (Negation term) k
settle term (Grouping at ∷ k) = Having term (Grouping at ∷ k)
settle term (Joining left operator ∷ k) = settle (combination (Some operator) left term) k

-- what the next term completes: no word between two terms means `and`
abbrev pub ready : State → List Pending
ready (Awaiting k) = k
ready (Having term k) = Joining term And ∷ k

-- one more `(` or `not` is open
abbrev pub deeper : ℕ → Pending → List Pending → Result State ExprFault
deeper at pending k = if nat_lt (open_count k) 64 then Ok (Awaiting (pending ∷ k)) else Err (TooDeep at)

abbrev pub after_operator : ℕ → Operator → State → Result State ExprFault
after_operator at operator (Awaiting k) = Err (NoOperand at)
after_operator at operator (Having term k) = Ok (Awaiting (Joining term operator ∷ k))

abbrev pub no_term : ℕ → List ℕ → ExprFault
no_term at [] = BadParen at
no_term at (place ∷ places) = NoOperand at

-- what awaits its term behind the innermost `(`
abbrev pub without_group : List Pending → Option (List Pending)
without_group [] = None
without_group (Negating ∷ k) = None
without_group (Grouping at ∷ k) = Some k
without_group (Joining left operator ∷ k) = None

abbrev pub after_group : ℕ → Formula → Option (List Pending) → Result State ExprFault
after_group at term None = Err (BadParen at)
after_group at term (Some k) = Ok (settle term k)

abbrev pub after_paren : ℕ → Formula → List Pending → Result State ExprFault
after_paren at term k = after_group at term (without_group k)

abbrev pub after_close : ℕ → State → Result State ExprFault
after_close at (Awaiting k) = Err (no_term at (open_places k))
after_close at (Having term k) = after_paren at term k

-- a lexeme at a place
abbrev pub step : ℕ → Lexeme → State → Result State ExprFault
step at Open s = deeper at (Grouping at) (ready s)
step at Close s = after_close at s
step at Not s = deeper at Negating (ready s)
step at (Infix operator) s = after_operator at operator s
step at (Term word) s = Ok (settle (Atom word) (ready s))

abbrev pub whole : Formula → Option ℕ → Result Formula ExprFault
whole term None = Ok term
whole term (Some at) = Err (BadParen at)

-- the text ends at this place
abbrev pub finish : ℕ → State → Result Formula ExprFault
finish total (Awaiting k) = Err (NoOperand total)
finish total (Having term k) = whole term (outermost (open_places k))

-- the lexemes one after the other
abbrev pub run : List (ℕ × Lexeme) → State → Result State ExprFault
run [] s = Ok s
run (x ∷ xs) s = step x.0 x.1 s >>= run xs

-- how reading ends here, in this state
abbrev pub EndsHere : ℕ → List ℕ → State → Result Formula ExprFault → Type 0
EndsHere total rest s outcome =
    (IsEnd total rest × (outcome ≡ finish total s))
    ⊎ ((fault : ExprFault) × IsNoLexeme total rest fault × (outcome ≡ Err fault))
    ⊎ ((at : ℕ) × (lexeme : Lexeme) × (after : List ℕ) × (fault : ExprFault) × NextIs total rest at lexeme after × (step at lexeme s ≡ Err fault) × (outcome ≡ Err fault))

-- how reading a text ends
pub record Ends (text : List ℕ) (outcome : Result Formula ExprFault) : Type 0 where
  pub read : List (ℕ × Lexeme)
  pub rest : List ℕ
  pub state : State
  pub reads : Reads (length text) text read rest
  pub runs : run read (Awaiting []) ≡ Ok state
  pub ends : EndsHere (length text) rest state outcome

-- The same in memory, where the innermost stands last.

abbrev pub pending_of : frame.Frame → Pending
pending_of frames.Not = Negating
pending_of (frames.Paren at) = Grouping at
pending_of (frames.Left tree operator) = Joining (formula_of tree) operator

abbrev pub above : List Pending → List frame.Frame → List Pending
above k [] = k
above k (f ∷ fs) = above (pending_of f ∷ k) fs

abbrev pub state_of : Option Tree → List Pending → State
state_of None k = Awaiting k
state_of (Some tree) k = Having (formula_of tree) k

abbrev pub reading_state : Reading → State
reading_state r = state_of r.term (above [] r.stack.items)

abbrev pub IsCounted : Reading → Type 0
IsCounted r = r.depth ≡ open_count (above [] r.stack.items)

-- what a function answers, seen by view, is what reading gives, unless memory ran out
abbrev pub Gives : {X Y : Type 0} → (X → Y) → Result X ExprFault → Result Y ExprFault → Type 0
Gives view (Ok x) given = given ≡ Ok (view x)
Gives view (Err (BadParen at)) given = given ≡ Err (BadParen at)
Gives view (Err (NoOperand at)) given = given ≡ Err (NoOperand at)
Gives view (Err (UnknownWord at)) given = given ≡ Err (UnknownWord at)
Gives view (Err (BadValue at)) given = given ≡ Err (BadValue at)
Gives view (Err (OpenQuote at)) given = given ≡ Err (OpenQuote at)
Gives view (Err (TooDeep at)) given = given ≡ Err (TooDeep at)
Gives view (Err TooLong) given = given ≡ Err TooLong
Gives view (Err NoMemory) given = Unit {0}

-- the tree of the text, or its first fault
abbrev pub Answers : List ℕ → Result Tree ExprFault → Type 0
Answers text (Ok tree) = Ends text (Ok (formula_of tree))
Answers text (Err (BadParen at)) = Ends text (Err (BadParen at))
Answers text (Err (NoOperand at)) = Ends text (Err (NoOperand at))
Answers text (Err (UnknownWord at)) = Ends text (Err (UnknownWord at))
Answers text (Err (BadValue at)) = Ends text (Err (BadValue at))
Answers text (Err (OpenQuote at)) = Ends text (Err (OpenQuote at))
Answers text (Err (TooDeep at)) = Ends text (Err (TooDeep at))
Answers text (Err TooLong) = Ends text (Err TooLong)
Answers text (Err NoMemory) = Unit {0}
