-- What the proof of `exprs::Exprs::new` needs beside the tactics.
use Rattle.trust_groups.proofs.ExprLemmas.{none_right}
use Rattle.trust_groups.proofs.exprs.Exprs.new.Goals as goal

pub invariant_of-result : goal.invariant_of-result
invariant_of-result c = (none_right c.new-by_text.result.entries c.new-by_text.ensures.empty, c.present-present.ensures)
