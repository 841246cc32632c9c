-- What the proof of `laws::values_are_text` needs beside the tactics.
use Rattle.wanted_expr.proofs.TextLemmas.{value_text}
use Rattle.wanted_expr.proofs.laws.values_are_text.Goals as goal

pub returns : goal.returns
returns c = value_text
