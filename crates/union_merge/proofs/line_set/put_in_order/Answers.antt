-- What the proof of `line_set::put_in_order` needs beside the tactics.
use Rattle.union_merge.proofs.PlaceLemmas.{sorted_set}
use Rattle.union_merge.proofs.line_set.put_in_order.Goals as goal

pub returns : goal.returns
returns c = sorted_set c.args.lines.now.items c.sort_unstable.new.self.items c.dedup.new.self.items c.sort_unstable.ensures.permutation c.sort_unstable.ensures.sorted c.dedup.ensures.filtered
