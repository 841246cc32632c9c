-- Where a step sends an Opening.
use Rattle.step_facts.proofs.Openings.{step_opens}
use Rattle.step_facts.proofs.steps.steps_open_closed_ends.Goals as goal

pub returns : goal.returns
returns c = step_opens
