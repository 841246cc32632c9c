-- What the proof of `laws::formulas_are_read` needs beside the tactics.
use Rattle.wanted_expr.proofs.ParsedLemmas.{formula_exact}
use Rattle.wanted_expr.proofs.laws.formulas_are_read.Goals as goal

pub returns : goal.returns
returns c = formula_exact c.globs_are_read.ensures
