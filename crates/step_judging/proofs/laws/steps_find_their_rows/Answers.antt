-- What the proof of `laws::steps_find_their_rows` needs beside the tactics.
use Rattle.step_judging.proofs.Judged.{own_row}
use Rattle.step_judging.proofs.RowsHold.{step_row}
use Rattle.step_judging.proofs.laws.steps_find_their_rows.Goals as goal

pub returns-clause-step : goal.returns-clause-step
returns-clause-step c = λ s st k m sound small made. step_row s st k sound c.steps_find_their_cause.ensures small m made

pub returns-clause-own : goal.returns-clause-own
returns-clause-own c = own_row c.steps_find_their_cause.ensures
