-- What the proof of `write::write_line` needs beside the tactics.
use Rattle.std.proofs.Common.{◌∙◌}
use Rattle.log_grammar.proofs.WriteLemmas.{written_again}
use Rattle.log_grammar.proofs.write.write_line.Goals as goal

pub returns-clause-again : goal.returns-clause-again
returns-clause-again c has short =
    written_again c.args.kind c.args.entry.now c.new.result c.deref.result.now has short (c.deref.ensures.value ∙ c.in_ok-bytes.ensures) c.new.ensures
