-- What holds at each turn of the loops of `run::put_tree`.
use Rattle.std.proofs.Common.{◌≡◌, ◌++◌, take}
use Rattle.std.specs.List.{flat_map}
use Rattle.journal_text.specs.Journal.{path_line}
use Rattle.journal_text.proofs.run.put_tree.Given as goal

abbrev pub invariant-loop-mark : goal.invariant-loop-mark
invariant-loop-mark l = l.out.items ≡ l.fn.out.items ++ flat_map path_line (take l.mark-index l.tree)
