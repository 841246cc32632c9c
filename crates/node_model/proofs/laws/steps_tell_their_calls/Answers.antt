-- What the proof of `laws::steps_tell_their_calls` needs beside the tactics.
use Rattle.node_model.proofs.StepCalls.{calls_rise, calls_stay, step_fails}
use Rattle.node_model.proofs.laws.steps_tell_their_calls.Goals as goal

pub returns-clause-fails : goal.returns-clause-fails
returns-clause-fails c = step_fails

pub returns-clause-same : goal.returns-clause-same
returns-clause-same c = calls_stay

pub returns-clause-rising : goal.returns-clause-rising
returns-clause-rising c = calls_rise
