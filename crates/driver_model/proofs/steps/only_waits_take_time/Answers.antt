-- What a line adds comes at the time that it is, but for a wait.
use Rattle.driver_model.proofs.Adding.{line_adds}
use Rattle.driver_model.proofs.steps.only_waits_take_time.Goals as goal

pub returns : goal.returns
returns c = λ g line d. (line_adds g line d).1
