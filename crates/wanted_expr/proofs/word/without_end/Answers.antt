-- What the proof of `word::without_end` needs beside the tactics.
use Rattle.wanted_expr.proofs.WordLemmas.{stripped}
use Rattle.wanted_expr.proofs.word.without_end.Goals as goal

pub returns : goal.returns
returns c = stripped (λ x. x.now) c.args.text.now c.args.end.now c.strip_suffix.result c.strip_suffix.ensures.cases
