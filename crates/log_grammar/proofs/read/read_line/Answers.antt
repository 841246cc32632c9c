-- What the proof of `read::read_line` needs beside the tactics.
use Rattle.log_grammar.proofs.ReadLemmas.{read_found, read_only}
use Rattle.log_grammar.proofs.read.read_line.Goals as goal

pub returns-clause-found : goal.returns-clause-found
returns-clause-found c = read_found c.args.kind c.args.line.now c.read.result c.read.ensures

pub returns-clause-only : goal.returns-clause-only
returns-clause-only c = λ e is. read_only c.args.kind c.args.line.now c.read.result e is c.read.ensures
