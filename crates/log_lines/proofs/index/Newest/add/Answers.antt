-- What the proof of `index::Newest::add` needs beside the tactics.
use Rattle.log_grammar.specs.Reading.{entry_of}
use Rattle.log_lines.proofs.StatementLemmas.{kept_rising}
use Rattle.log_lines.proofs.index.Newest.add.Goals as goal

pub invariant_of-self : goal.invariant_of-self
invariant_of-self c =
    kept_rising c.put_line.result c.self.inside.statements.entries c.put_line.new.statements.entries (entry_of c.self.inside.kind c.args.line.now) c.self.invariant c.put_line.ensures.ok c.put_line.ensures.err
