-- What the proof of `word::count` needs beside the tactics.
use Rattle.std.proofs.Common.{sym, subst, ℕ, Option}
use Rattle.annex_base.specs.Finding.{Found}
use Rattle.wanted_expr.specs.Words.{IsCount}
use Rattle.wanted_expr.proofs.WordLemmas.{no_count, fits_count}
use Rattle.wanted_expr.proofs.word.count.Goals as goal

pub returns-in-None : goal.returns-in-None
returns-in-None c = no_count c.args.digits.now c.in-None.ensures

pub returns-in-Some : goal.returns-in-Some
returns-in-Some c = subst (λ (o : Option ℕ). Found (λ x. x) (IsCount c.args.digits.now) o) (sym c.ok.ensures.value) (fits_count c.args.digits.now c.in-Some.n c.try_from.result c.try_from.ensures c.in-Some.ensures c.if-digits-gt9.false)
