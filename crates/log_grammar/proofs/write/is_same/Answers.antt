-- What the proof of `write::is_same` needs beside the tactics.
use Rattle.std.proofs.Common.{sym, ap, ◌∙◌}
use Rattle.log_grammar.specs.contracts.entry.EntryPartialEq.TheImpl as entry_impl
use Rattle.log_grammar.proofs.EqualLemmas.{entry_same, entry_equal}
use Rattle.log_grammar.proofs.write.is_same.Goals as goal

pub returns : goal.returns
returns c = (
  λ e. entry_same c.args.one.now c.args.other.now (sym c.eq.ensures ∙ e),
  λ e. c.eq.ensures ∙ ap (entry_impl.ghosts.eq c.args.one.now) (sym e) ∙ entry_equal c.args.one.now,
)
