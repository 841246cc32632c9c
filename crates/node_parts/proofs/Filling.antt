-- The keys that sessions and gets fill, and what these have taken of their parts.
use Rattle.std.proofs.Common.{◌≡◌, ℕ, zero, suc, Bool, true, false, ◌&&◌, List, [], ◌∷◌, Some, is_some, refl, sym, ap, subst, ◌∙◌}
use Rattle.std.specs.Prelude.{◌||◌, IfSome, bytes_eq, slice_get}
use Rattle.std.proofs.lemmas.Bool.{true≢false}
use Rattle.annex_base.proofs.Conditions.{bytes_eq-refl}
use Rattle.annex_base.proofs.Lists.{Each-from_members, Each-member, list_any_member}
use Rattle.object_store.specs.Stores.{Parts}
use Rattle.content_lock.specs.Rows.{Rows, is_filling}
use Rattle.node_model.specs.Sessions as sessions
use Rattle.p2p_server.specs.declared.session.Session.{Session}
use Rattle.p2p_server.specs.Talking.{IsFedOf, session_of}
use Rattle.session_state.specs.Talking.{IsFedBy, IsTakenOf}
use Rattle.node_sessions.specs.Sessions.{AreFilled, AreAllFed as SessionsFed, fills_in, session_fills}
use Rattle.get_phases.specs.Gets.{fill_in, IsFed as IsFedGet}
use Rattle.get_phases.specs.declared.getting.Phase.{Phase as GetPhase}
use Rattle.get_phases.specs.declared.getting.Phase.TheVariants as phases
use Rattle.running_jobs.specs.Worker.{Worker}
use Rattle.running_jobs.specs.Worker.TheVariants as workers
use Rattle.running_jobs.specs.Workers.{HasFill, IsFed, work_of}
use Rattle.transfer_turns.specs.Steps.{fills_key}
use Rattle.running_jobs.specs.Task.{Task}
use Rattle.running_jobs.specs.Task.TheVariants as tasks
use Rattle.running_jobs.specs.Tasks.{IsFedTask, OwnsOf, work_now}
use Rattle.running_jobs.specs.Running.{AreFilled as JobsFilled, IsOwn, Jobs, OwnAll as JobsOwn, AreAllFed as JobsFed, fills_at}
use Rattle.node_crash.proofs.Jobs.{fills_of_jobs}
use Rattle.node_parts.specs.Parts.{AreAllFed, PartsView}
use Rattle.node_parts.specs.Sound.{AreSound}

-- ---- truth values

or_turned : (b c : Bool) → (b || c) ≡ (c || b)
or_turned true true = refl
or_turned true false = refl
or_turned false true = refl
or_turned false false = refl

and_turned : (b c : Bool) → (b && c) ≡ (c && b)
and_turned true true = refl
and_turned true false = refl
and_turned false true = refl
and_turned false false = refl

or_true : (b : Bool) → (b || true) ≡ true
or_true true = refl
or_true false = refl

not_first : (b c : Bool) → (b && c) ≡ false → c ≡ true → b ≡ false
not_first true c none is = absurd (true≢false (sym is ∙ none))
not_first false c none is = refl

not_second : (b c : Bool) → (b && c) ≡ false → b ≡ true → c ≡ false
not_second true c none is = none
not_second false c none is = absurd (true≢false (sym is))

-- ---- keys that both fill

module _ (rows : Rows) (xs : List Session) (ts : List Task) where
  -- what a table fills for sessions beside jobs, it fills for jobs beside sessions
  pub for_jobs : AreFilled rows xs (fills_at ts) → JobsFilled rows ts (fills_in xs)
  for_jobs h = record {
    filled = λ key. h.filled key ∙ or_turned (fills_in xs key) (fills_at ts key);
    apart = λ key. and_turned (fills_at ts key) (fills_in xs key) ∙ h.apart key;
  }

  pub for_sessions : JobsFilled rows ts (fills_in xs) → AreFilled rows xs (fills_at ts)
  for_sessions h = record {
    filled = λ key. h.filled key ∙ or_turned (fills_at ts key) (fills_in xs key);
    apart = λ key. and_turned (fills_in xs key) (fills_at ts key) ∙ h.apart key;
  }

  module _ (filled : AreFilled rows xs (fills_at ts)) where
    -- so it fills the keys of sessions
    pub fills_of_sessions : (key : List ℕ) → fills_in xs key ≡ true → is_filling rows key ≡ true
    fills_of_sessions key is = filled.filled key ∙ ap (λ (b : Bool). b || fills_at ts key) is

    -- and none of these is a job's, nor the other way round
    pub of_no_session : (key : List ℕ) → fills_at ts key ≡ true → fills_in xs key ≡ false
    of_no_session key is = not_first (fills_in xs key) (fills_at ts key) (filled.apart key) is

    pub of_no_job : (key : List ℕ) → fills_in xs key ≡ true → fills_at ts key ≡ false
    of_no_job key is = not_second (fills_in xs key) (fills_at ts key) (filled.apart key) is

-- one of them fills what this one does
pub session_among : (key : List ℕ) (xs : List Session) (i : ℕ) (x : Session) → slice_get xs i ≡ Some x → session_fills key x ≡ true → fills_in xs key ≡ true
session_among key [] i x at is = absurd cc
session_among key (y ∷ ys) zero x at is = let same : y ≡ x = cc in ap (λ (b : Bool). b || fills_in ys key) (ap (session_fills key) same ∙ is)
session_among key (y ∷ ys) (suc i) x at is = ap (λ (b : Bool). session_fills key y || b) (session_among key ys i x at is) ∙ or_true (session_fills key y)

-- ---- what a get has taken

is_own : (own key : List ℕ) → key ≡ own → bytes_eq own key ≡ true
is_own own key same = ap (bytes_eq own) same ∙ bytes_eq-refl own

phase_fed : (p p' : Parts) (rows : Rows) (own : List ℕ) (ph : GetPhase) → IfSome (fill_in ph) (λ (key : List ℕ). (key ≡ own) × (is_filling rows key ≡ true))
    → ((key : List ℕ) → (is_some (fill_in ph) && bytes_eq own key) ≡ true → p' key ≡ p key) → IsFedGet p ph → IsFedGet p' ph
phase_fed p p' rows own (phases.Data peer wanting) has same fed = subst (IsFedBy wanting.digester wanting.fill) (sym (same wanting.fill (is_own own wanting.fill has.0))) fed
phase_fed p p' rows own (phases.Bytes peer start taking) has same fed = subst (IsFedBy taking.digester taking.fill) (sym (same taking.fill (is_own own taking.fill has.0))) fed
phase_fed p p' rows own (phases.Word peer start taken) has same fed = subst (IsTakenOf taken) (sym (same taken.fill (is_own own taken.fill has.0))) fed
phase_fed p p' rows own ph has same fed = tt

worker_fed : (p p' : Parts) (rows : Rows) (v : Worker) (paths : List (List ℕ)) → HasFill rows (record { worker = v; paths = paths })
    → ((key : List ℕ) → fills_key (work_of (record { worker = v; paths = paths })) key ≡ true → p' key ≡ p key) → IsFed p (record { worker = v; paths = paths }) → IsFed p' (record { worker = v; paths = paths })
worker_fed p p' rows (workers.Gets g) paths has same fed = phase_fed p p' rows g.job.key g.phase has same fed
worker_fed p p' rows (workers.Puts w) paths has same fed = tt

task_fed : (p p' : Parts) (rows : Rows) (t : Task) → OwnsOf rows t → ((key : List ℕ) → fills_key (work_now t) key ≡ true → p' key ≡ p key) → IsFedTask p t → IsFedTask p' t
task_fed p p' rows (tasks.Drops j) own same fed = tt
task_fed p p' rows (tasks.Transfers w) own same fed = worker_fed p p' rows w.worker w.paths own.1 same fed

-- where the parts of the keys that they fill stay, what gets have taken is their parts' still
pub jobs_fed : (p p' : Parts) (rows : Rows) (jobs : Jobs) → JobsOwn jobs rows → ((key : List ℕ) → fills_at jobs.running key ≡ true → p' key ≡ p key) → JobsFed p jobs.running → JobsFed p' jobs.running
jobs_fed p p' rows jobs own same fed =
    Each-from_members (IsFedTask p') jobs.running
    (λ t among. task_fed p p' rows t (Each-member (IsOwn jobs.begun rows) jobs.running t own.owns among).owns (λ key is. same key (list_any_member (λ (x : Task). fills_key (work_now x) key) jobs.running t among is))
    (Each-member (IsFedTask p) jobs.running t fed among))

-- ---- what a session has taken

-- what a law says of a part that stays
abbrev pub FedStays : Type 0
FedStays = (s : Session) (was now : Parts) → ((key : List ℕ) → sessions.is_filling key (session_of s).doing ≡ true → now key ≡ was key) → IsFedOf was s → IsFedOf now s

pub sessions_fed : FedStays → (p p' : Parts) (xs : List Session) → ((key : List ℕ) → fills_in xs key ≡ true → p' key ≡ p key) → SessionsFed p xs → SessionsFed p' xs
sessions_fed law p p' xs same fed = λ i x at. law x p p' (λ key is. same key (session_among key xs i x at is)) (fed i x at)

-- ---- what all have taken, where the parts of the keys that the table fills stay

pub all_fed : FedStays → (p : PartsView) (was now : Parts) → AreSound p → ((key : List ℕ) → is_filling p.table key ≡ true → now key ≡ was key) → AreAllFed was p → AreAllFed now p
all_fed law p was now sound stay fed = record {
  serving = sessions_fed law was now p.sessions (λ key is. stay key (fills_of_sessions p.table p.sessions p.jobs.running sound.filled key is)) fed.serving;
  acting = jobs_fed was now p.table p.jobs sound.acting (λ key is. stay key (fills_of_jobs p.table p.sessions p.jobs.running sound.filled key is)) fed.acting;
}
