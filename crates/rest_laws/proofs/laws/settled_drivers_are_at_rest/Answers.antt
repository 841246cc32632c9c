-- Where a driver is settled, no job runs and the run is at rest.
use Rattle.std.proofs.Common.{◌≡◌, ℕ, List, [], sym, ap, ◌∙◌, subst}
use Rattle.std.specs.Prelude.{map}
use Rattle.run_data.specs.declared.entry.Entry.{Entry}
use Rattle.node_model.specs.Jobs.{running_job}
use Rattle.run_model.specs.Past.{jobs}
use Rattle.step_facts.proofs.Below.{SentAreRead}
use Rattle.step_facts.proofs.JobKept.{jobs_are}
use Rattle.driver_model.specs.Driver.{Driver, DriverInput}
use Rattle.driver_model.specs.Sound.{IsSound}
use Rattle.alone_drops.specs.Alone.{IsAtRest}
use Rattle.rest_laws.specs.Settled.{IsSettled}
use Rattle.rest_laws.proofs.NoJobs.{no_jobs}
use Rattle.rest_laws.proofs.Resting.{rests_alone}
use Rattle.rest_laws.proofs.Unturned.{IdleTurns}
use Rattle.rest_laws.proofs.laws.settled_drivers_are_at_rest.Goals as goal

none_runs : SentAreRead → IdleTurns → (g : DriverInput) (d : Driver) → IsSound g d → IsSettled g d → (r : ℕ) → jobs d.past r ≡ []
none_runs reads_back turns g d sound settled r = sym (jobs_are d.past r) ∙ ap (map running_job) (no_jobs reads_back turns g d sound settled r)

pub returns-clause-jobs : goal.returns-clause-jobs
returns-clause-jobs c = none_runs c.sent_messages_are_read.ensures.read c.settlings_come_to_rest.ensures.idle

pub returns-clause-rest : goal.returns-clause-rest
returns-clause-rest c g d run sound settled same =
    rests_alone c.sent_messages_are_read.ensures.read c.settlings_come_to_rest.ensures.idle g d sound settled
    (no_jobs c.sent_messages_are_read.ensures.read c.settlings_come_to_rest.ensures.idle g d sound settled) run same

pub returns-clause-alone : goal.returns-clause-alone
returns-clause-alone c g d run first sound settled same at = (
  (λ r. subst (λ (past : List Entry). jobs past r ≡ []) (sym at) (none_runs c.sent_messages_are_read.ensures.read c.settlings_come_to_rest.ensures.idle g d sound settled r)),
  subst (IsAtRest run) (sym at)
      (rests_alone c.sent_messages_are_read.ensures.read c.settlings_come_to_rest.ensures.idle g d sound settled
      (no_jobs c.sent_messages_are_read.ensures.read c.settlings_come_to_rest.ensures.idle g d sound settled) run same),
)
