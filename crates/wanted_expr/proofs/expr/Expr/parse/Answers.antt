-- What the proof of `expr::Expr::parse` needs beside the tactics.
use Rattle.std.proofs.Common.{List, ℕ, Ok, Err, inl, inr, ap, subst}
use Rattle.wanted_expr.specs.Formula.{formula_of}
use Rattle.wanted_expr.specs.Reading.{Answers}
use Rattle.wanted_expr.proofs.ParseLemmas.{cause, ends_expression, not_both, one_formula, refused_first, refused_only}
use Rattle.wanted_expr.proofs.expr.Expr.parse.Goals as goal

pub returns-in-Ok-clause-found : goal.returns-in-Ok-clause-found
returns-in-Ok-clause-found c =
    ends_expression c.args.text.now (formula_of c.in-Ok.tree) c.if-text-gt-TEXT_LIMIT.false (subst (λ (w : List ℕ). Answers w (Ok c.in-Ok.tree)) c.as_bytes.ensures.value c.in-Ok.ensures)

pub returns-in-Ok-clause-only : goal.returns-in-Ok-clause-only
returns-in-Ok-clause-only c = λ f h. one_formula c.globs_are_unique.ensures c.args.text.now (formula_of c.in-Ok.tree) f (returns-in-Ok-clause-found c) h

pub returns-in-Ok-clause-first : goal.returns-in-Ok-clause-first
returns-in-Ok-clause-first c = λ e h. absurd (not_both c.globs_are_unique.ensures c.args.text.now (formula_of c.in-Ok.tree) e (returns-in-Ok-clause-found c) h)

pub returns-in-Err-clause-only : goal.returns-in-Err-clause-only
returns-in-Err-clause-only c = λ f h. refused_only c.globs_are_unique.ensures c.args.text.now c.in-Err.fault f (subst (λ (w : List ℕ). Answers w (Err c.in-Err.fault)) c.as_bytes.ensures.value c.in-Err.ensures) h

pub returns-in-Err-clause-fault : goal.returns-in-Err-clause-fault
returns-in-Err-clause-fault c = cause c.args.text.now c.in-Err.fault c.if-text-gt-TEXT_LIMIT.false (subst (λ (w : List ℕ). Answers w (Err c.in-Err.fault)) c.as_bytes.ensures.value c.in-Err.ensures)

pub returns-in-Err-clause-first : goal.returns-in-Err-clause-first
returns-in-Err-clause-first c = λ e h. elim (refused_first c.globs_are_unique.ensures c.args.text.now c.in-Err.fault e c.if-text-gt-TEXT_LIMIT.false (subst (λ (w : List ℕ). Answers w (Err c.in-Err.fault)) c.as_bytes.ensures.value c.in-Err.ensures) h) [
  | inl same ↦ inl (ap Err same)
  | inr none ↦ inr (ap Err none)
]
