-- The facts of Own on who uses a connection: an epoch belongs to one job, and peers are other repositories.
use Rattle.std.proofs.Common.{◌≡◌, ◌≢◌, Some, None, inl, inr, sym, ◌∙◌, subst}
use Rattle.annex_base.specs.Lists.{Member}
use Rattle.step_facts.proofs.Below.{SentAreRead}
use Rattle.run_data.specs.declared.entry.FrameView.{FrameView}
use Rattle.step_facts.proofs.BySteps.{ByStep}
use Rattle.step_facts.proofs.Makers.{who}
use Rattle.job_facts.proofs.OwnTried.{other_apart}
use Rattle.job_facts.proofs.OpenEnds.{job_sends_to, job_takes_from}
use Rattle.job_facts.proofs.EpochJobs.{one_job}
use Rattle.past_facts.proofs.Own.{OneJob}
use Rattle.run_laws.proofs.SessionOwn.{any_to, session_from, session_to, speaks}

-- the field `one_job`
pub one_job_step : SentAreRead → ByStep (λ s past e. OneJob s.number past e)
one_job_step reads_back s past words e h b is part w client used j i x before kind o own_x kind_x used_x = one_job reads_back s past words e h.run is part w used j i x before kind o own_x kind_x used_x

-- the field `sent_to`
pub sent_to_step : SentAreRead → ByStep (λ s past e. (g : FrameView) → Member g e.sent → g.peer ≢ s.number)
sent_to_step reads_back s past words e h b is part g m = elim (who s past words e part) [
  | inl x ↦ elim (x.2) [
    | inl none ↦ absurd (subst (Member g) none m)
    | inr any ↦ any_to s past e any g m
  ]
  | inr x ↦ elim (x) [
    | inl y ↦ session_to s e (speaks s past e y.1) g m
    | inr y ↦ other_apart s g.peer (job_sends_to reads_back s past words e h.run part y g m)
  ]
]

-- the field `taken_from`
pub taken_from_step : SentAreRead → ByStep (λ s past e. (f : FrameView) → e.taken ≡ Some f → f.peer ≢ s.number)
taken_from_step reads_back s past words e h b is part f took = elim (who s past words e part) [
  | inl x ↦ absurd (let no' : None ≡ Some f = sym x.1.takes_none ∙ took in cc)
  | inr x ↦ elim (x) [
    | inl y ↦ session_from s e (speaks s past e y.1) f took
    | inr y ↦ other_apart s f.peer (job_takes_from reads_back s past words e h.run part y f took)
  ]
]
