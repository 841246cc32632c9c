-- What running jobs have heard, and their numbers.
use Rattle.std.specs.Prelude.{◌≤◌, reverse}
use Rattle.annex_base.proofs.Lists.{Each-from_members}
use Rattle.run_model.specs.Past.{begun_count}
use Rattle.run_model.specs.Run.{set_up}
use Rattle.run_model.specs.States.{works}
use Rattle.past_facts.proofs.OwnRuns.{own_past}
use Rattle.run_laws.proofs.Unheard.{are_jobs}
use Rattle.step_facts.proofs.WorkNumbers.{number_begun}
use Rattle.run_laws.proofs.jobs.jobs_hear_nobody_twice.Goals as goal

pub returns-clause-jobs : goal.returns-clause-jobs
returns-clause-jobs c run r is = are_jobs c.sent_messages_are_read.ensures.read (set_up run r) (reverse run.entries) (own_past run is.repos r (reverse run.entries) is.steps)

pub returns-clause-numbers : goal.returns-clause-numbers
returns-clause-numbers c run r is = Each-from_members (λ w. w.number ≤ begun_count (reverse run.entries) r) (works (reverse run.entries) r)
    (number_begun (set_up run r) (reverse run.entries) (own_past run is.repos r (reverse run.entries) is.steps).run)
