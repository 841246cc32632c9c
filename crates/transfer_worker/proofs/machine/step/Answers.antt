-- In the words of a state.
use Rattle.transfer_worker.proofs.Sides.{step_calls, step_meets}
use Rattle.transfer_worker.proofs.machine.step.Goals as goal

pub returns-clause-step : goal.returns-clause-step
returns-clause-step g c = step_meets _ _ _ _ _ _ _ _ c.advance.result c.advance.ensures.does c.advance.ensures.keeps

pub returns-clause-calls : goal.returns-clause-calls
returns-clause-calls g c = step_calls _ _ _ _ _ _ _ _ c.advance.result c.advance.ensures.does c.advance.ensures.keeps
