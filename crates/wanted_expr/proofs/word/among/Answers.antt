-- What the proof of `word::among` needs beside the tactics.
use Rattle.std.proofs.Common.{arith, ap, length}
use Rattle.wanted_expr.proofs.word.among.Goals as goal

pub returns-in-Ok : goal.returns-in-Ok
returns-in-Ok c = (c.in-Ok.ensures.0, omega (arith, ap length c.in-Ok.ensures.0, c.in-Ok.ensures.1), λ l. (c.in_default.ensures l, c.in_default-level_or_more.ensures l))
