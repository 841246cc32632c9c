-- What the proof of `index::paths_of` needs beside the tactics.
use Rattle.std.proofs.Common.{sym, subst}
use Rattle.std.specs.List.Sorted.{IsStrictlySortedBy}
use Rattle.annex_base.specs.ByteOrder.{text_cmp}
use Rattle.annex_base.proofs.TextOrder.{order_nil}
use Rattle.annex_key.proofs.index.paths_of.Goals as goal

pub returns-in-None-clause-order : goal.returns-in-None-clause-order
returns-in-None-clause-order c = subst (IsStrictlySortedBy text_cmp) (sym c.new.ensures.items) order_nil
