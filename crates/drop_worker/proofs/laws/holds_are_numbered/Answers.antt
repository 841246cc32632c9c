-- The numbers of a table's holds.
use Rattle.drop_worker.proofs.Numbers.{rows_below}
use Rattle.drop_worker.proofs.laws.holds_are_numbered.Goals as goal

pub returns : goal.returns
returns c = rows_below
