-- The step of each phase.
use Rattle.put_steps.proofs.hearing.take_message.Goals as goal

pub returns-in-Opens : goal.returns-in-Opens
returns-in-Opens g c = record { does = λ x rows. c.take_opened.ensures.hears x rows _ }

pub returns-in-Greets : goal.returns-in-Greets
returns-in-Greets g c = record { does = λ x rows. c.take_version.ensures.hears x rows _ }

pub returns-in-Answer : goal.returns-in-Answer
returns-in-Answer g c = record { does = λ x rows. c.take_answer.ensures.hears x rows _ }
