-- What an expression says, without how it was written and where it lies in memory.
use Rattle.std.specs.Prelude.{Option, Some, None}
use Rattle.wanted_expr.specs.declared.data.Word.{Word}
use Rattle.wanted_expr.specs.declared.data.Tree.{Tree}
use Rattle.wanted_expr.specs.declared.data.Tree.TheVariants.{Single, Not', Both', Either'}
use Rattle.wanted_expr.specs.declared.lexeme.Operator.{Operator}
use Rattle.wanted_expr.specs.declared.lexeme.Operator.TheVariants.{And, Or}

-- a word, or what `not`, `and` and `or` make of formulas
pub data Formula : Type 0 where
  Atom : (word : Word) → Formula
  Negation : (part : Formula) → Formula
  Conjunction : (left right : Formula) → Formula
  Disjunction : (left right : Formula) → Formula

-- the formula that a tree in memory is
abbrev pub formula_of : Tree → Formula
formula_of (Single word) = Atom word
formula_of (Not' p t) = Negation (formula_of t)
formula_of (Both' p a q b) = Conjunction (formula_of a) (formula_of b)
formula_of (Either' p a q b) = Disjunction (formula_of a) (formula_of b)

-- two formulas with nothing or an operator between them: nothing means `and` (own)
abbrev pub combination : Option Operator → Formula → Formula → Formula
combination None a b = Conjunction a b
combination (Some And) a b = Conjunction a b
combination (Some Or) a b = Disjunction a b
