-- The jobs of a sound driver.
use Rattle.std.proofs.Common.{List, ◌∙◌, subst}
use Rattle.std.specs.Prelude.{◌≤◌}
use Rattle.std.proofs.lemmas.List.{reverse-reverse}
use Rattle.annex_base.specs.Lists.{Each}
use Rattle.run_data.specs.declared.entry.Entry.{Entry}
use Rattle.run_model.specs.Past.{begun_count}
use Rattle.run_model.specs.States.{works}
use Rattle.run_laws.specs.Jobs.{AreJobs}
use Rattle.driver_model.specs.Driving.{run_with}
use Rattle.driver_model.proofs.KnownJobs.{own_room, step_of_run}
use Rattle.driver_model.proofs.laws.sound_drivers_keep_their_jobs.Goals as goal

pub returns-clause-jobs : goal.returns-clause-jobs
returns-clause-jobs c g d r sound = subst (λ (past : List Entry). AreJobs (works past r)) (reverse-reverse d.past) (c.jobs_hear_nobody_twice.ensures.jobs (run_with g d) r sound.run)

pub returns-clause-numbers : goal.returns-clause-numbers
returns-clause-numbers c g d r sound =
    subst (λ (past : List Entry). Each (λ w. w.number ≤ begun_count past r) (works past r)) (reverse-reverse d.past) (c.jobs_hear_nobody_twice.ensures.numbers (run_with g d) r sound.run)

pub returns-clause-sends : goal.returns-clause-sends
returns-clause-sends c g d r k m sound known small makes = c.frames_go_to_others.ensures.sends (run_with g d) r k m sound.run known small (step_of_run g d r k m makes)

pub returns-clause-takes : goal.returns-clause-takes
returns-clause-takes c g d r k m f sound known small makes took = c.frames_go_to_others.ensures.takes (run_with g d) r k m f sound.run known small (step_of_run g d r k m makes) took

pub returns-clause-room : goal.returns-clause-room
returns-clause-room c g d r a sound own = own_room r a own d.flights sound.apart

pub returns-clause-asked : goal.returns-clause-asked
returns-clause-asked c g d past e r sound is mine = c.kept_words_were_asked.ensures (run_with g d) past e r sound.run (reverse-reverse d.past ∙ is) mine
