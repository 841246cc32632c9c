-- The law.
use Rattle.node_parts.proofs.Filling.{all_fed}
use Rattle.node_parts.proofs.laws.parts_stay_fed.Goals as goal

pub returns : goal.returns
returns c = all_fed c.others_leave_it.ensures.fed
