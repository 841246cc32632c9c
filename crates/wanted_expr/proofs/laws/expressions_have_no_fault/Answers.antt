-- What the proof of `laws::expressions_have_no_fault` needs beside the tactics.
use Rattle.wanted_expr.proofs.ParseLemmas.{not_both}
use Rattle.wanted_expr.proofs.laws.expressions_have_no_fault.Goals as goal

pub returns : goal.returns
returns c = not_both c.globs_are_unique.ensures
