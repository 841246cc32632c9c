-- Rounds end where two after each other add nothing, and an idle turn found no step.
use Rattle.driver_model.proofs.Settles.{bound_not_met, idle_none}
use Rattle.driver_model.proofs.WithinLimit.{rests_within_limit}
use Rattle.driver_model.proofs.laws.settlings_come_to_rest.Goals as goal

pub returns-clause-settled : goal.returns-clause-settled
returns-clause-settled c = bound_not_met

pub returns-clause-limited : goal.returns-clause-limited
returns-clause-limited c = rests_within_limit

pub returns-clause-idle : goal.returns-clause-idle
returns-clause-idle c =
    idle_none (record {
      answers = c.steps_name_their_jobs.ensures.answers;
      gives = c.steps_name_their_jobs.ensures.gives;
      goes = c.steps_name_their_jobs.ensures.goes;
      takes = c.steps_name_their_jobs.ensures.takes;
      calls = record { fails = c.steps_tell_their_calls.ensures.fails; same = c.steps_tell_their_calls.ensures.same };
    })
