-- What the proof of `reading::no_term` needs beside the tactics.
use Rattle.wanted_expr.specs.Reading.{above, open_places}
use Rattle.std.proofs.Common.{[]}
use Rattle.wanted_expr.proofs.StackLemmas.{never_opened}
use Rattle.wanted_expr.proofs.reading.no_term.Goals as goal

pub returns-in-None : goal.returns-in-None
returns-in-None c = never_opened c.args.at (open_places (above [] c.args.stack.now)) c.in-None.ensures
