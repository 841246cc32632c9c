-- What the proof of `write::reads_as` needs beside the tactics.
use Rattle.std.proofs.Common.{sym, ◌∙◌}
use Rattle.log_grammar.proofs.ReadLemmas.{read_as, read_nothing}
use Rattle.log_grammar.proofs.write.reads_as.Goals as goal

pub returns-in-Some : goal.returns-in-Some
returns-in-Some c = read_as c.args.kind c.args.line.now c.args.entry.now c.in-Some.back c.is_same.result (sym c.in-Some.is ∙ c.in_ok-back.ensures) c.is_same.ensures

pub returns-in-None : goal.returns-in-None
returns-in-None c = read_nothing c.args.kind c.args.line.now c.args.entry.now (sym c.in-None.is ∙ c.in_ok-back.ensures)
