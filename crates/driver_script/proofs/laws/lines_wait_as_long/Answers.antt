-- Each command's line, by its form.
use Rattle.driver_script.proofs.WaitingLemmas.{wait_is}
use Rattle.driver_script.proofs.laws.lines_wait_as_long.Goals as goal

pub returns : goal.returns
returns c = wait_is
