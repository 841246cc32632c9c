-- What jobs have of the table stays theirs.
use Rattle.std.proofs.Common.{◌≡◌, ℕ, Bool, true, ◌&&◌, List, Option, Some, None, is_some, refl, ap, ◌∙◌}
use Rattle.std.specs.Prelude.{◌||◌, IfSome, bytes_eq}
use Rattle.annex_base.proofs.Conditions.{bytes_eq-refl}
use Rattle.annex_base.proofs.Lists.{Each-from_members, Each-member, list_any_member}
use Rattle.content_lock.specs.Rows.{Rows, is_filling, bar_at}
use Rattle.p2p_server.specs.declared.session.Session.{Session}
use Rattle.node_sessions.specs.Sessions.{AreFilled, fills_in, IsOther}
use Rattle.get_phases.specs.Gets.{fill_in}
use Rattle.running_jobs.specs.TransferJob.{TransferJob}
use Rattle.running_jobs.specs.Worker.{Worker}
use Rattle.running_jobs.specs.Worker.TheVariants as workers
use Rattle.running_jobs.specs.Workers.{HasFill, work_of}
use Rattle.transfer_turns.specs.Steps.{fills_key}
use Rattle.running_jobs.specs.Task.{Task}
use Rattle.running_jobs.specs.Task.TheVariants as tasks
use Rattle.running_jobs.specs.Tasks.{work_now}
use Rattle.running_jobs.specs.Running.{IsOwn, Jobs, OwnAll as JobsOwn, fills_at}
use Rattle.run_data.specs.declared.entry.By.TheVariants.{Job as by_job}
use Rattle.content_lock.specs.Tokens.{Owns, ShareView}
use Rattle.node_model.specs.Rows.{option_is}
use Rattle.drop_phases.specs.declared.phase.Token.{Token}
use Rattle.drop_phases.specs.declared.phase.Token.TheVariants as tokens
use Rattle.drop_phases.specs.Doing.{HasToken, share_in}
use Rattle.std.proofs.Math.Bool.{or-true}

-- ---- the keys that jobs fill

-- what a table fills for sessions beside jobs, it fills for these
pub fills_of_jobs : (rows : Rows) (xs : List Session) (ts : List Task) → AreFilled rows xs (fills_at ts) → (key : List ℕ) → fills_at ts key ≡ true → is_filling rows key ≡ true
fills_of_jobs rows xs ts filled key is = filled.filled key ∙ (ap (λ (b : Bool). fills_in xs key || b) is ∙ or-true (fills_in xs key))

-- ---- the right to fill that a job has

keeps_right : (was now : Rows) (own : List ℕ) (o : Option (List ℕ)) → ((key : List ℕ) → (is_some o && bytes_eq own key) ≡ true → is_filling now key ≡ true)
    → IfSome o (λ (key : List ℕ). (key ≡ own) × (is_filling was key ≡ true)) → IfSome o (λ (key : List ℕ). (key ≡ own) × (is_filling now key ≡ true))
keeps_right was now own None fills has = tt
keeps_right was now own (Some key) fills has = (has.0, fills key (ap (bytes_eq own) has.0 ∙ bytes_eq-refl own))

-- while the table fills its key
worker_keeps : (was now : Rows) (v : Worker) (paths : List (List ℕ)) → ((key : List ℕ) → fills_key (work_of (record { worker = v; paths = paths })) key ≡ true → is_filling now key ≡ true)
    → HasFill was (record { worker = v; paths = paths }) → HasFill now (record { worker = v; paths = paths })
worker_keeps was now (workers.Gets g) paths fills has = keeps_right was now g.job.key (fill_in g.phase) fills has
worker_keeps was now (workers.Puts p) paths fills has = tt

pub keeps_fill : (was now : Rows) (w : TransferJob) → ((key : List ℕ) → fills_key (work_of w) key ≡ true → is_filling now key ≡ true) → HasFill was w → HasFill now w
keeps_fill was now w fills has = worker_keeps was now w.worker w.paths fills has

-- ---- the tokens of the jobs

-- no session acts for a job
pub no_jobs : (xs : List Session) (job : ℕ) → IsOther (by_job job) xs
no_jobs xs job = λ i x at. refl

-- what jobs own stays theirs
abbrev pub LeavesJobs : Rows → Rows → Type 0
LeavesJobs was now = (job : ℕ) (share : Option ShareView) → Owns (by_job job) share was.holds → Owns (by_job job) share now.holds

keeps_token : (was now : Rows) → ((key : List ℕ) → bar_at now key ≡ bar_at was key) → LeavesJobs was now → (job : ℕ) (key : List ℕ) (t : Token) → HasToken job key t was → HasToken job key t now
keeps_token was now bars others job key t has = record {
  of_key = has.of_key;
  of_job = has.of_job;
  bars = λ k. ap (λ (o : Option ℕ). option_is o job) (bars k) ∙ has.bars k;
  holds = others job (share_in t) has.holds;
}

keeps_own : (begun : ℕ) (was now : Rows) → ((key : List ℕ) → bar_at now key ≡ bar_at was key) → LeavesJobs was now → (t : Task) → ((key : List ℕ) → fills_key (work_now t) key ≡ true → is_filling now key ≡ true) → IsOwn begun was t → IsOwn begun now t
keeps_own begun was now bars others (tasks.Drops j) fills own = record { number = own.number; owns = keeps_token was now bars others j.worker.number j.worker.job.key j.worker.token own.owns }
keeps_own begun was now bars others (tasks.Transfers w) fills own = record {
  number = own.number;
  owns = (keeps_token was now bars others (work_of w).number (work_of w).what.key tokens.Nothing own.owns.0, keeps_fill was now w fills own.owns.1);
}

-- while the table fills their keys
pub jobs_keep : (jobs : Jobs) (was now : Rows) → ((key : List ℕ) → bar_at now key ≡ bar_at was key) → LeavesJobs was now → ((key : List ℕ) → fills_at jobs.running key ≡ true → is_filling now key ≡ true) → JobsOwn jobs was → JobsOwn jobs now
jobs_keep jobs was now bars others fills own = record {
  tasks = own.tasks;
  owns = Each-from_members (IsOwn jobs.begun now) jobs.running
      (λ t among. keeps_own jobs.begun was now bars others t (λ key is. fills key (list_any_member (λ (x : Task). fills_key (work_now x) key) jobs.running t among is)) (Each-member (IsOwn jobs.begun was) jobs.running t own.owns among));
  apart = own.apart;
  later = λ job key beyond. keeps_token was now bars others job key tokens.Nothing (own.later job key beyond);
}
