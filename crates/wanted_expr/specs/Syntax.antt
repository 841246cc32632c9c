-- The grammar of expressions (own).
use Rattle.std.specs.Prelude.{◌≡◌, ℕ, suc, max, ◌≤◌, Bool, true, false, ◌&&◌, IsTrue, List, [], ◌∷◌, ◌++◌, Option, Some, None}
use Rattle.wanted_expr.specs.declared.data.Word.{Word}
use Rattle.wanted_expr.specs.declared.lexeme.Operator.{Operator}
use Rattle.wanted_expr.specs.declared.lexeme.Lexeme.{Lexeme}
use Rattle.wanted_expr.specs.declared.lexeme.Lexeme.TheVariants.{Open, Close, Not, Infix, Term}
use Rattle.wanted_expr.specs.Formula.{Formula, Atom, Negation, combination}

-- how an expression is written: `expression = term { ["and" | "or"] term }`,
-- `term = "not" term | "(" expression ")" | word`
pub data Syntax : Type 0 where
  Plain : (word : Word) → Syntax
  Negated : (part : Syntax) → Syntax
  Grouped : (part : Syntax) → Syntax
  Joined : (left : Syntax) → (between : Option Operator) → (right : Syntax) → Syntax

abbrev pub is_term : Syntax → Bool
is_term (Plain word) = true
is_term (Negated s) = true
is_term (Grouped s) = true
is_term (Joined left between right) = false

-- `not` takes one term, and what is joined on the right is one
abbrev pub is_grammatical : Syntax → Bool
is_grammatical (Plain word) = true
is_grammatical (Negated s) = is_term s && is_grammatical s
is_grammatical (Grouped s) = is_grammatical s
is_grammatical (Joined left between right) = is_grammatical left && (is_term right && is_grammatical right)

-- how many `(` and `not` are open at once at most
abbrev pub depth : Syntax → ℕ
depth (Plain word) = 0
depth (Negated s) = suc (depth s)
depth (Grouped s) = suc (depth s)
depth (Joined left between right) = max (depth left) (depth right)

abbrev pub sign : Option Operator → List Lexeme
sign None = []
sign (Some operator) = Infix operator ∷ []

abbrev pub lexemes : Syntax → List Lexeme
lexemes (Plain word) = Term word ∷ []
lexemes (Negated s) = Not ∷ lexemes s
lexemes (Grouped s) = Open ∷ (lexemes s ++ Close ∷ [])
lexemes (Joined left between right) = lexemes left ++ (sign between ++ lexemes right)

-- what it says: parentheses leave no trace
abbrev pub formula_said : Syntax → Formula
formula_said (Plain word) = Atom word
formula_said (Negated s) = Negation (formula_said s)
formula_said (Grouped s) = formula_said s
formula_said (Joined left between right) = combination between (formula_said left) (formula_said right)

-- lexemes that spell a formula
pub record Spells (written : List Lexeme) (formula : Formula) : Type 0 where
  pub syntax_of : Syntax
  pub grammatical : IsTrue (is_grammatical syntax_of)
  pub shallow : depth syntax_of ≤ 64
  pub spelled : written ≡ lexemes syntax_of
  pub says : formula ≡ formula_said syntax_of

-- lexemes with which some expression begins
pub record Begins (written : List Lexeme) : Type 0 where
  pub more : List Lexeme
  pub formula : Formula
  pub spells : Spells (written ++ more) formula
