-- What the proof of `word::word_alone` needs beside the tactics.
use Rattle.std.proofs.Common.{sym, ◌∙◌}
use Rattle.wanted_expr.proofs.ReadWordLemmas.{alone_known, alone_unknown}
use Rattle.wanted_expr.proofs.word.word_alone.Goals as goal

pub returns-else-is_valued : goal.returns-else-is_valued
returns-else-is_valued c = alone_unknown c.args.name.now c.in-None.ensures (sym c.is_valued.ensures ∙ c.if-is_valued.false)

pub returns-then-is_valued : goal.returns-then-is_valued
returns-then-is_valued c = (alone_known c.args.name.now (sym c.is_valued.ensures ∙ c.if-is_valued.true), c.in-None.ensures)
