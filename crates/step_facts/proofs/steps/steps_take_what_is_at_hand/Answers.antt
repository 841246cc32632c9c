-- What a step takes.
use Rattle.std.proofs.Common.{refl}
use Rattle.step_facts.proofs.JobFacts.{frame_found, goes_found}
use Rattle.step_facts.proofs.StepFacts.{taken_at_hand}
use Rattle.step_facts.proofs.steps.steps_take_what_is_at_hand.Goals as goal

pub returns-clause-at_hand : goal.returns-clause-at_hand
returns-clause-at_hand c s st k m f makes = taken_at_hand s st k m makes f

pub returns-clause-goes : goal.returns-clause-goes
returns-clause-goes c t free = (goes_found t t.w.phase refl free).0

pub returns-clause-takes : goal.returns-clause-takes
returns-clause-takes c t peer f on = (frame_found t peer f on f.body refl).0
