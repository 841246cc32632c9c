-- What the step of a job leaves of the running jobs (own).
use Rattle.std.specs.Prelude.{◌≡◌, ◌≢◌, ◌⊎◌, ℕ, Bool, true, false, List, [], ◌∷◌, map, Option, Some, None}
use Rattle.std.specs.Option.{ForSome}
use Rattle.annex_base.specs.Lists.{Each, Member}
use Rattle.run_data.specs.declared.entry.FrameView.{FrameView}
use Rattle.p2p_wire.specs.declared.message.Message.TheVariants.{Failure}
use Rattle.link_ring.specs.Ends.{EndView}
use Rattle.node_model.specs.Slots.{job_of}
use Rattle.drop_phases.specs.declared.phase.Heard.{Heard}
use Rattle.drop_phases.specs.declared.phase.Phase.{Phase}
use Rattle.drop_phases.specs.declared.phase.Phase.TheVariants as phases
use Rattle.drop_phases.specs.declared.turn.Taken.TheVariants as takens
use Rattle.drop_phases.specs.Feeding.{IsAnswer}
use Rattle.drop_phases.specs.Sides.{side_in}
use Rattle.drop_phases.specs.Working.{end_in, is_target, taken_of}
use Rattle.running_jobs.specs.Waiting.{word_at}
use Rattle.running_jobs.specs.Task.{Task}
use Rattle.running_jobs.specs.Task.TheVariants as tasks
use Rattle.running_jobs.specs.Running.{given_of, job_at, words_of_task}
use Rattle.node_parts.specs.declared.done.Done.{Done}
use Rattle.node_parts.specs.Parts.{PartsView}

-- ---- what a job has heard, and where it stands

-- a drop of the copies of others; a transfer of none
abbrev pub heard_of : Task → List (ℕ × Heard)
heard_of (tasks.Drops j) = j.worker.heard
heard_of (tasks.Transfers w) = []

-- the phase of a drop; a transfer stands in none
abbrev pub phase_of : Task → Option Phase
phase_of (tasks.Drops j) = Some j.worker.phase
phase_of (tasks.Transfers w) = None

-- the repository is the one that a remote drop removes the content from
abbrev pub is_target_of : Task → ℕ → Bool
is_target_of (tasks.Drops j) c = is_target (side_in j.worker) j.worker.job.peer c
is_target_of (tasks.Transfers w) c = false

-- a drop awaits this repository's answer to its order
abbrev pub AwaitsAnswerOf : Task → ℕ → Type 0
AwaitsAnswerOf t c = (phase_of t ≡ Some phases.Orders) × (is_target_of t c ≡ true)

-- a job that was this hears one thing more, of this repository
abbrev pub HearsMore : Task → Task → ℕ → Type 0
HearsMore t t' c = (h : Heard) × (heard_of t' ≡ (c, h) ∷ heard_of t)

-- ---- what is left

-- The words that the job has for its end, at these ends, by what was done: that beside a refusal of a look that it took, of a repository
-- which isn't its target; that beside its target's answer to its order; and of any other repository, unless it heard one thing more of
-- it, those that it had.
pub record HearsSo (links : List EndView) (d : Done) (t t' : Task) : Type 0 where
  pub look : (f : FrameView) → d.taken ≡ Some f → phase_of t ≡ Some (phases.AsksLook f.peer) → taken_of f.body ≡ takens.Message Failure → is_target_of t f.peer ≡ false
      → words_of_task t' f.peer ≡ word_at links (end_in f.slot f.peer)
  pub answer : (f : FrameView) → d.taken ≡ Some f → phase_of t ≡ Some phases.Orders → IsAnswer (taken_of f.body) → words_of_task t' f.peer ≡ word_at links (end_in f.slot f.peer)
  pub rest : (c : ℕ) → HearsMore t t' c ⊎ (AwaitsAnswerOf t c ⊎ (words_of_task t' c ≡ words_of_task t c))

-- The job that made this has heard so, where it still runs. Each other job is as it was. No job is new, nor given other paths.
pub record JobsGoOn (was now : PartsView) (d : Done) : Type 0 where
  pub job : ℕ
  pub made : job_of d.kind ≡ Some job
  pub hears : ForSome (job_at now.jobs.running job) (λ t'. ForSome (job_at was.jobs.running job) (λ t. HearsSo was.links d t t'))
  pub apart : (other : ℕ) → other ≢ job → job_at now.jobs.running other ≡ job_at was.jobs.running other
  pub given : Each (λ t. Member (given_of t) (map given_of was.jobs.running)) now.jobs.running
