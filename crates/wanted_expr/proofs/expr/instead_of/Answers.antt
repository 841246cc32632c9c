-- What the proof of `expr::instead_of` needs beside the tactics.
use Rattle.std.proofs.Common.{sym, ◌∙◌}
use Rattle.wanted_expr.proofs.expr.instead_of.Goals as goal

pub returns-else-is_memory : goal.returns-else-is_memory
returns-else-is_memory c = (sym c.is_memory.ensures ∙ c.if-is_memory.false, c.present.ensures)
