-- What the proof of `word::unit_of` needs beside the tactics.
use Rattle.wanted_expr.proofs.WordLemmas.{ends_kb, ends_mb, ends_gb}
use Rattle.wanted_expr.proofs.word.unit_of.Goals as goal

pub returns-in-Some : goal.returns-in-Some
returns-in-Some c = ends_kb c.args.value.now c.in-Some.digits.now c.in-Some.ensures

pub returns-in-Some-without_end : goal.returns-in-Some-without_end
returns-in-Some-without_end c = ends_mb c.args.value.now c.in-Some-without_end.digits.now c.in-Some-without_end.ensures

pub returns-in-Some-without_end-2 : goal.returns-in-Some-without_end-2
returns-in-Some-without_end-2 c = ends_gb c.args.value.now c.in-Some-without_end-2.digits.now c.in-Some-without_end-2.ensures
