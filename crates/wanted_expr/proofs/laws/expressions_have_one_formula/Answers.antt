-- What the proof of `laws::expressions_have_one_formula` needs beside the tactics.
use Rattle.wanted_expr.proofs.ParseLemmas.{one_formula}
use Rattle.wanted_expr.proofs.laws.expressions_have_one_formula.Goals as goal

pub returns : goal.returns
returns c = one_formula c.globs_are_unique.ensures
