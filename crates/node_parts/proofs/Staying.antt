-- The parts after an entry that moves none of them.
use Rattle.std.proofs.Common.{suc, ◌≡◌, ◌⊎◌, inl, inr, ℕ, ◌+◌, arith, ◌∷◌, true, List, [], Option, None, length, refl, sym, ap, subst, ◌∙◌}
use Rattle.annex_base.specs.declared.kinds.Call.{Call}
use Rattle.annex_base.specs.declared.kinds.Call.TheVariants.{PutFile, Unhold}
use Rattle.run_data.specs.declared.entry.By.{By}
use Rattle.run_data.specs.declared.entry.By.TheVariants.{Script, Job as by_job, Peer}
use Rattle.run_data.specs.declared.entry.Entry.{Entry}
use Rattle.run_data.specs.declared.entry.EntryKind.{EntryKind}
use Rattle.run_data.specs.declared.entry.EntryKind.TheVariants.{Gain, Log, Compact, Crash, Fault}
use Rattle.run_data.specs.declared.row.Hold.{Hold}
use Rattle.trust_groups.specs.Settings.{settings}
use Rattle.link_ring.specs.Ends.{EndView}
use Rattle.content_lock.specs.Rows.{Rows}
use Rattle.node_model.specs.After.{state_after, states}
use Rattle.node_model.specs.Rows.{bar_after, holds_after}
use Rattle.node_model.specs.SetUp.{SetUp}
use Rattle.node_model.specs.Slots.{job_of}
use Rattle.node_model.specs.State.{State}
use Rattle.node_ends.specs.Going.{AreAfter}
use Rattle.running_jobs.specs.Running.{AreWorks, Jobs, OwnAll as JobsOwn}
use Rattle.node_parts.specs.Direct.{IsDirect, MovesNothing, may_fail}
use Rattle.node_parts.specs.Parts.{AreParts, PartsView}
use Rattle.node_parts.specs.Sound.{AreSound}
use Rattle.node_parts.proofs.Going.{EndsGo, SessionsStay, closed_stays, end_stays, ends_stay, none_moves}

-- ---- rows

pub holds_same : (was : List Hold) (kind : EntryKind) → IsDirect kind → holds_after was kind ≡ was
holds_same was (Gain Script size key) direct = refl
holds_same was (Log file) direct = refl
holds_same was (Compact file) direct = refl
holds_same was (Fault call by) direct = of_call call by direct
  where
    of_call : (c : Call) (b : By) → may_fail b c ≡ true → holds_after was (Fault c b) ≡ was
    of_call Unhold Script fits = absurd cc
    of_call Unhold (by_job job) fits = absurd cc
    of_call Unhold (Peer peer slot) fits = absurd cc
    of_call _ b fits = refl
holds_same was _ direct = absurd direct

pub bar_same : (key : List ℕ) (was : Option ℕ) (kind : EntryKind) → IsDirect kind → bar_after key was kind ≡ was
bar_same key was (Gain Script size k) direct = refl
bar_same key was (Log file) direct = refl
bar_same key was (Compact file) direct = refl
bar_same key was (Fault call by) direct = refl
bar_same key was _ direct = absurd direct

-- ---- jobs

only_put : (call : Call) (job : ℕ) → may_fail (by_job job) call ≡ true → call ≡ PutFile
only_put PutFile job fits = refl
only_put _ job fits = absurd cc

-- such an entry is no job's, or a line couldn't be written
direct_job : (kind : EntryKind) → IsDirect kind → (job_of kind ≡ None) ⊎ ((by : By) × (kind ≡ Fault PutFile by))
direct_job (Gain Script size key) d = inl refl
direct_job (Log file) d = inl refl
direct_job (Compact file) d = inl refl
direct_job (Fault call by) d = by_owner call by d
  where
    by_owner : (c : Call) (b : By) → may_fail b c ≡ true → (job_of (Fault c b) ≡ None) ⊎ ((by : By) × (◌≡◌ {A = EntryKind} (Fault c b) (Fault PutFile by)))
    by_owner c Script fits = inl refl
    by_owner c (Peer peer slot) fits = inl refl
    by_owner c (by_job job) fits = inr (by_job job, ap (λ (x : Call). Fault x (by_job job)) (only_put c job fits))
direct_job _ d = absurd d

no_crash : (kind : EntryKind) → IsDirect kind → (clock : ℕ) → kind ≡ Crash clock → ⊥
no_crash kind d clock is = subst IsDirect is d

-- ---- the parts

abbrev pub JobsStayLaw : Type 0
JobsStayLaw = (s : SetUp) (st : State) (e : Entry) (jobs : Jobs) (rows : Rows) → AreWorks s st jobs → JobsOwn jobs rows → job_of e.kind ≡ None → ((clock : ℕ) → e.kind ≡ Crash clock → ⊥) → AreWorks s (state_after s st e) jobs

abbrev pub LinesFailLaw : Type 0
LinesFailLaw = (s : SetUp) (st : State) (e : Entry) (jobs : Jobs) (rows : Rows) (by : By) → AreWorks s st jobs → JobsOwn jobs rows → e.kind ≡ Fault PutFile by → AreWorks s (state_after s st e) jobs

pub parts_stay_so : EndsGo → ((links : List EndView) → AreAfter links links None []) → SessionsStay → JobsStayLaw → LinesFailLaw → (s : SetUp) (st : State) (e : Entry) (p : PartsView) → AreSound p → MovesNothing e → AreParts s st p
    → AreParts s (state_after s st e) p
parts_stay_so go still sessions_law jobs_law lines_law s st e p sound moves are = record {
  place = are.place;
  holds = are.holds ∙ sym (holds_same st.holds e.kind moves.kind);
  bars = λ key. are.bars key ∙ sym (bar_same key (st.bar key) e.kind moves.kind);
  ends = ends_stay s st e moves.takes moves.sends go p.links (still p.links) are.ends;
  each = λ a. end_stays s st e moves.takes moves.sends a ∙ are.each a;
  sessions = sessions_law s st e p.sessions are.sessions (λ a server. none_moves s st e moves.takes moves.sends a);
  closed = closed_stays s st e moves.takes moves.sends are.closed;
  works = elim (direct_job e.kind moves.kind) [
    | inl none ↦ jobs_law s st e p.jobs p.table are.works sound.acting none (no_crash e.kind moves.kind)
    | inr fault ↦ lines_law s st e p.jobs p.table fault.0 are.works sound.acting fault.1
  ];
  rooms = are.rooms;
  logs = refl;
}

-- ---- states

pub logs_of_lines : (s : SetUp) (h : List Entry) → (states s h).logs ≡ settings (states s h).lines
logs_of_lines s [] = refl
logs_of_lines s (e ∷ h) = refl

pub made_of_length : (s : SetUp) (h : List Entry) → (states s h).made ≡ length h
made_of_length s [] = refl
made_of_length s (e ∷ h) = made_more (made_of_length s h)
  where
    made_more : {n m : ℕ} → n ≡ m → n + 1 ≡ suc m
    made_more is = grind (arith, is)
