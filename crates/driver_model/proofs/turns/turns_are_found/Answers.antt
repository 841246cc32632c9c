-- An idle turn by computation; any other by the plain step, which asks for the same part.
use Rattle.driver_model.proofs.TurnsFound.{turn_found, turn_idle}
use Rattle.driver_model.proofs.turns.turns_are_found.Goals as goal

pub returns-clause-idle : goal.returns-clause-idle
returns-clause-idle c = turn_idle

pub returns-clause-moved : goal.returns-clause-moved
returns-clause-moved c g r d m x =
    turn_found g r d m x (record {
      answers = c.steps_name_their_jobs.ensures.answers;
      gives = c.steps_name_their_jobs.ensures.gives;
      goes = c.steps_name_their_jobs.ensures.goes;
      takes = c.steps_name_their_jobs.ensures.takes;
      calls = record { fails = c.steps_tell_their_calls.ensures.fails; same = c.steps_tell_their_calls.ensures.same };
    })
