-- The job that makes the step of a repository's jobs, and what it makes.
use Rattle.std.proofs.Common.{◌≡◌, ℕ, List, Option, Some, None, refl, sym, ap, ◌∙◌}
use Rattle.std.specs.Prelude.{find, ◌==◌}
use Rattle.std.specs.Option.{option_map}
use Rattle.std.proofs.lemmas.Option.{none-some}
use Rattle.annex_base.specs.Lists.{Each, Member}
use Rattle.annex_base.proofs.Lists.{Each-member, find_member}
use Rattle.annex_base.proofs.Options.{first_some-was}
use Rattle.node_model.specs.Ends.{end_took, taken_at}
use Rattle.node_model.specs.Jobs.{Work}
use Rattle.node_model.specs.JobStep.{turn_of}
use Rattle.node_model.specs.Look.{Look, Effect}
use Rattle.node_model.specs.SetUp.{SetUp, slots}
use Rattle.node_model.specs.State.{State}
use Rattle.node_model.specs.Turns.{job_step, slot_step}
use Rattle.job_frames.specs.Sending.{IsOwnEntry, SendsWell}
use Rattle.job_frames.specs.Standing.{StandsWell}
use Rattle.node_tasks.specs.declared.task.Task.{Task}
use Rattle.node_tasks.specs.Tasks.{IsTask, work_now}
use Rattle.running_jobs.specs.Acting.{HasLockRoom}
use Rattle.running_jobs.specs.Running.{AreWorks, Jobs as JobsView}
use Rattle.running_jobs.proofs.Among.{find_mapped}
use Rattle.running_jobs.proofs.Standing.{stands}

-- the laws of any job
abbrev pub SendLaw : Type 0
SendLaw = (s : SetUp) (st : State) (k : Look) (w : Work) (m : Effect) → StandsWell (turn_of s st k w) → slot_step s st k (Some w) ≡ Some m → SendsWell (λ a. end_took (st.ends a) (taken_at a m.taken)) k.room m.sent

abbrev pub OwnLaw : Type 0
OwnLaw = (s : SetUp) (st : State) (k : Look) (w : Work) (m : Effect) → slot_step s st k (Some w) ≡ Some m → IsOwnEntry m

module _ (s : SetUp) (st : State) (k : Look) (jobs : JobsView) (m : Effect) (are : AreWorks s st jobs) where
  -- the step of a job
  record IsBy (t : Task) : Type 0 where
    pub among : Member t jobs.running
    pub does : slot_step s st k (Some (work_now t)) ≡ Some m

  by_slot : (slot : ℕ) → slot_step s st k (find (λ w. w.slot == slot) st.works) ≡ Some m → (t : Task) × IsBy t
  by_slot slot is = go (find (λ t. (work_now t).slot == slot) jobs.running) refl (ap (slot_step s st k) (sym (ap (λ (ws : List Work). find (λ w. w.slot == slot) ws) are.works ∙ find_mapped work_now (λ w. w.slot == slot) jobs.running)) ∙ is)
    where
      go : (o : Option Task) → find (λ t. (work_now t).slot == slot) jobs.running ≡ o → slot_step s st k (option_map work_now o) ≡ Some m → (t : Task) × IsBy t
      go None at g = absurd (none-some m g)
      go (Some t) at g = (t, record { among = (find_member (λ x. (work_now x).slot == slot) jobs.running t at).0; does = g })

  made_by_job : job_step s st k ≡ Some m → (t : Task) × IsBy t
  made_by_job is = let at = first_some-was (λ slot. slot_step s st k (find (λ w. w.slot == slot) st.works)) slots m is in by_slot at.0 at.2

  pub sends_where_room : SendLaw → Each (IsTask jobs.place) jobs.running → Each (HasLockRoom s st k) jobs.running → job_step s st k ≡ Some m → SendsWell (λ a. end_took (st.ends a) (taken_at a m.taken)) k.room m.sent
  sends_where_room law fit room is =
      let made = made_by_job is in
      law s st k (work_now made.0) m (stands jobs.place s st k made.0 (Each-member (IsTask jobs.place) jobs.running made.0 fit made.1.among) (Each-member (HasLockRoom s st k) jobs.running made.0 room made.1.among)) made.1.does

  pub makes_own : OwnLaw → job_step s st k ≡ Some m → IsOwnEntry m
  makes_own law is = let made = made_by_job is in law s st k (work_now made.0) m made.1.does
