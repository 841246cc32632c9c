-- What the proof of `lines::next_line` needs beside the tactics.
use Rattle.journal_reader.proofs.LineLemmas.{lines_are}
use Rattle.journal_reader.proofs.lines.next_line.Goals as goal

pub returns-clause-lines : goal.returns-clause-lines
returns-clause-lines c = lines_are c.args.text.now _ c.cut.ensures.parts
