-- What the proof of `steps::steps_find_their_cause` needs beside the tactics.
use Rattle.step_facts.proofs.StepFacts.{step_found}
use Rattle.step_facts.proofs.steps.steps_find_their_cause.Goals as goal

pub returns : goal.returns
returns c = step_found
