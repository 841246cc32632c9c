-- The contents after a removal are those that its entry leaves.
use Rattle.content_lock.proofs.StoredLemmas.{removed_contents}
use Rattle.content_lock.proofs.laws.removals_leave_other_contents.Goals as goal

pub returns : goal.returns
returns c = removed_contents
