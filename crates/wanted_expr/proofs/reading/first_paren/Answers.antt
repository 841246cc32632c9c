-- What the proof of `reading::first_paren` needs beside the tactics.
use Rattle.wanted_expr.proofs.StackLemmas.{found_paren}
use Rattle.wanted_expr.proofs.reading.first_paren.Goals as goal

pub returns-in-Paren : goal.returns-in-Paren
returns-in-Paren c =
    found_paren c.args.stack.now c.loop-first.rest.now c.in-Some.after.now c.loop-first.invariant.0 c.in-Some.first.now c.in-Paren.at
    c.loop-first.invariant.1 c.loop-first.invariant.2 c.in-Some.ensures.cases.0 c.in-Paren.is
