-- The first step of a remote drop that gets no share of its own repository's content.
use Rattle.std.proofs.Common.{◌≡◌, ◌≤◌, inr, ℕ, Bool, true, false, List, ◌∷◌, Option, Some, None, Result, Ok, Err, refl, sym, ap, ◌∙◌, subst}
use Rattle.std.specs.Prelude.{◌+◌, if◌then◌else◌, IfOk, IfSome, OnErr}
use Rattle.std.specs.List.{list_any}
use Rattle.annex_base.specs.Calls.{same_call}
use Rattle.annex_base.specs.Causes.{Rose}
use Rattle.annex_base.specs.declared.kinds.Call.{Call}
use Rattle.annex_base.specs.declared.kinds.Call.TheVariants as calls
use Rattle.annex_base.specs.declared.memory.NoMemory.{NoMemory}
use Rattle.drop_proof.specs.declared.rule.Side.{Side}
use Rattle.drop_proof.specs.declared.rule.Side.TheVariants.{Remote}
use Rattle.run_data.specs.declared.entry.By.TheVariants.{Job as by_job}
use Rattle.run_data.specs.declared.entry.EntryKind.{EntryKind}
use Rattle.run_data.specs.declared.entry.EntryKind.TheVariants.{Fault, Talk}
use Rattle.run_data.specs.declared.job.Cause.{Cause}
use Rattle.run_data.specs.declared.job.Cause.TheVariants as causes
use Rattle.object_store.specs.Stores.{Contents}
use Rattle.object_store.specs.declared.keeper.HoldRecord.{HoldRecord}
use Rattle.node_model.specs.Calls.{to_hold}
use Rattle.node_model.specs.Clocks.{hold_time}
use Rattle.node_model.specs.Evidence.{Asked, Standing}
use Rattle.node_model.specs.Jobs as Jobs
use Rattle.node_model.specs.Jobs.{Drops, hears, side_of, unshared_cause}
use Rattle.node_model.specs.JobStep.{Turn, bar_there, by_me, clock_of, is_there, key_of, me, quietly, talk}
use Rattle.node_model.specs.DropStep.{first_drop, first_remote, own_share, shares, tries_own}
use Rattle.node_model.specs.Look.{Effect, as_told, failed_in, failing_call, unless}
use Rattle.node_model.specs.Slots.{job_of}
use Rattle.node_model.specs.Turns.{goes}
use Rattle.content_lock.specs.Looks.{IsShareFault, NotShared}
use Rattle.content_lock.specs.Rows.{AreAfter, Rows, bar_at}
use Rattle.content_lock.specs.Stored.{Agrees, HasContent}
use Rattle.content_lock.specs.declared.refusals.ShareRefused.{ShareRefused}
use Rattle.content_lock.specs.declared.refusals.ShareRefused.TheVariants as refused
use Rattle.drop_phases.specs.declared.phase.Heard.TheVariants as heards
use Rattle.drop_phases.specs.declared.phase.Phase.{Phase}
use Rattle.drop_phases.specs.declared.phase.Phase.TheVariants as phases
use Rattle.drop_phases.specs.declared.phase.Token.{Token}
use Rattle.drop_phases.specs.declared.phase.Token.TheVariants as tokens
use Rattle.drop_phases.specs.declared.turn.Output.{Output}
use Rattle.drop_phases.specs.Worker.{Worker}
use Rattle.drop_phases.specs.Working.{Rest, Sight, phase_as, present_in, turn_in, work_of}
use Rattle.drop_phases.specs.Doing.{HasToken, contents_after, next_work}
use Rattle.drop_phases.specs.Feeding.{HasNoBar, IsBare}
use Rattle.drop_phases.specs.Leaving.{GoesSo, Store}
use Rattle.remote_requests.specs.Remote.{DidRemote, GivesNone, IsRemote, PassesBy, FollowsShareRefused}
use Rattle.drop_phases.proofs.Leavings.{quiet_does}
use Rattle.remote_requests.proofs.RemoteLeavings.{leaves_remote, passes_speaks, spoken_did}
use Rattle.drop_phases.proofs.Tokens.{others_same}

-- ---- what a share makes

shares_gone : (t : Turn) → t.look.fails ≡ None → is_there t ≡ false → as_told (shares t) ≡ quietly (talk t) None
shares_gone t fails gone = rw (fails, gone) refl

shares_barred : (t : Turn) (job : ℕ) → t.look.fails ≡ None → is_there t ≡ true → bar_there t ≡ Some job → as_told (shares t) ≡ quietly (talk t) None
shares_barred t job fails there bar = rw (fails, there, bar) refl

unfound : (t : Turn) → t.look.fails ≡ Some calls.Has → as_told (shares t) ≡ quietly (Fault calls.Has (by_me t)) None
unfound t fails =
    ap (λ (f : Option Call). as_told (unless (failing_call f (to_hold (is_there t) (bar_there t))) (λ call. quietly (Fault call (by_me t)) None) made)) fails
    ∙ ap (λ (f : Option Call). as_told (unless f (λ call. quietly (Fault call (by_me t)) None) made)) (go (is_there t) (bar_there t))
  where
    made : Effect
    made = quietly (own_share t.number (clock_of t + hold_time) t.w.number (key_of t) (talk t) (by_me t) (is_there t) (bar_there t)) None

    go : (here : Bool) (bar : Option ℕ) → (if list_any (same_call calls.Has) (to_hold here bar) then Some calls.Has else None) ≡ Some calls.Has
    go true None = refl
    go true (Some job) = refl
    go false bar = refl

unheld : (t : Turn) → t.look.fails ≡ Some calls.Hold → is_there t ≡ true → bar_there t ≡ None → as_told (shares t) ≡ quietly (Fault calls.Hold (by_me t)) None
unheld t fails there free = rw (fails, there, free) refl

-- ---- the work that follows

next_none : (t : Turn) → t.w.part ≡ Drops → t.w.phase ≡ Jobs.Fresh → next_work t (quietly (talk t) None) ≡ hears t.w (me t) (Jobs.Lacks (unshared_cause (bar_there t)))
next_none t drops fresh = rw (drops, fresh) refl

next_unfound : (t : Turn) → t.w.part ≡ Drops → t.w.phase ≡ Jobs.Fresh → side_of t.w ≡ Remote → next_work t (quietly (Fault calls.Has (by_me t)) None) ≡ hears t.w (me t) (Jobs.Lacks causes.Fault)
next_unfound t drops fresh remote = rw (drops, fresh, remote) refl

next_unheld : (t : Turn) → t.w.part ≡ Drops → t.w.phase ≡ Jobs.Fresh → side_of t.w ≡ Remote → next_work t (quietly (Fault calls.Hold (by_me t)) None) ≡ hears t.w (me t) (Jobs.Lacks causes.Fault)
next_unheld t drops fresh remote = rw (drops, fresh, remote) refl

-- ---- the first step

pub unbarred : (token : Token) → IsBare token → HasNoBar token
unbarred tokens.Nothing b = tt
unbarred (tokens.Bar bar) b = absurd b
unbarred (tokens.Share share) b = absurd b

module _ (x : Sight) (rows rows' : Rows) (k k' : Store) (w w' : Worker) (target : ℕ) (remote : IsRemote target w) (fresh : w.phase ≡ phases.Fresh) (bare : IsBare w.token)
    (own : HasToken w.number w.job.key w.token rows) (spared : x.read.requires ≡ None) where
  tries : (p : List ℕ → Bool) (fails : Option Call) (rest : Rest) → goes (turn_in x rows p fails rest w) (phase_as w.phase) ≡ tries_own (turn_in x rows p fails rest w) (x.read.standing x.read.repo)
  tries p fails rest =
      ap (λ (ph : Phase). goes (turn_in x rows p fails rest w) (phase_as ph)) fresh ∙ (ap (λ (side : Side). first_drop (turn_in x rows p fails rest w) side) remote.side ∙ ap (first_remote (turn_in x rows p fails rest w)) spared)

  at : phase_as w.phase ≡ Jobs.Fresh
  at = ap phase_as fresh

  quiet_after : (kind : EntryKind) → AreAfter kind rows rows → rows' ≡ rows → AreAfter kind rows rows'
  quiet_after kind after same = subst (λ (q : Rows). AreAfter kind rows q) (sym same) after

  own' : rows' ≡ rows → HasToken w.number w.job.key w.token rows'
  own' same = subst (λ (q : Rows). HasToken w.number w.job.key w.token q) (sym same) own

  -- ---- its own repository isn't asked

  pub skipped_did : (standing : Standing) (r : Result Output NoMemory) → ((t : Turn) → tries_own t standing ≡ quietly (talk t) None) → x.read.standing x.read.repo ≡ standing
      → IfOk r (PassesBy x.read.repo (bar_at rows w.job.key) w w') → OnErr r (w' ≡ w) → Agrees k.records rows.holds → DidRemote rows rows k k w w' (GoesSo x k.contents rows rows w w') r
  skipped_did standing r quiet is passes err agrees =
      spoken_did rows k w w' (GoesSo x k.contents rows rows w w') r (go r passes) (passes_speaks x.read.repo (bar_at rows w.job.key) w w' r passes) err (unbarred w.token bare) own agrees
    where
      go : (r : Result Output NoMemory) → IfOk r (PassesBy x.read.repo (bar_at rows w.job.key) w w') → IfOk r (GoesSo x k.contents rows rows w w')
      go (Ok out) p = λ c told.
          quiet_does x rows rows (present_in c) w w' (λ t. goes t t.w.phase) (Talk (Some w.number)) out p.made p.sends
          (λ rest. ap as_told (tries (present_in c) None rest ∙ (ap (tries_own (turn_in x rows (present_in c) None rest w)) is ∙ quiet (turn_in x rows (present_in c) None rest w))))
          (λ rest. ap (work_of rest) p.next ∙ sym (next_none (turn_in x rows (present_in c) None rest w) refl at))
          (record { holds = refl; bars = λ key. refl; fills = refl }) refl
      go (Err e) p = tt

  -- ---- it has none

  module _ (asked : x.read.standing x.read.repo ≡ Asked) (same : rows' ≡ rows) (contents : k'.contents ≡ k.contents) (records : k'.records ≡ k.records) (agrees : Agrees k.records rows.holds) (later : k.faults ≤ k'.faults) where
    -- where it heard of it before
    abbrev heard_first : Worker
    heard_first = record w { heard = (x.read.repo, heards.Held x.time) ∷ w.heard; phase = phases.Next }

    agrees' : Agrees k'.records rows'.holds
    agrees' = subst (λ (q : Rows). Agrees k'.records q.holds) (sym same) (subst (λ (rs : Option (List HoldRecord)). Agrees rs rows.holds) (sym records) agrees)

    none_did : (kind : EntryKind) (cause : Cause) (r : Result Output NoMemory) → IfOk r (GivesNone kind cause heard_first w') × OnErr r ⊥ → AreAfter kind rows rows → job_of kind ≡ Some w.number → contents_after k.contents kind ≡ k.contents
        → IfSome (failed_in kind) (λ call. Rose k.faults k'.faults)
        → ((c : Contents) → k.contents ≡ Some c → (rest : Rest) → as_told (shares (turn_in x rows (present_in c) (failed_in kind) rest w)) ≡ quietly kind None)
        → ((c : Contents) → k.contents ≡ Some c → (rest : Rest) → next_work (turn_in x rows (present_in c) (failed_in kind) rest w) (quietly kind None) ≡ hears (work_of rest w) x.read.repo (Jobs.Lacks cause))
        → DidRemote rows rows' k k' w w' (GoesSo x k.contents rows rows' w w') r
    none_did kind cause (Err e) gives after whose still rose makes moves = absurd gives.1
    none_did kind cause (Ok out) gives after whose still rose makes moves = (
      λ c told. quiet_does x rows rows' (present_in c) w w' (λ t. goes t t.w.phase) kind out gives.0.made gives.0.sends
          (λ rest. ap as_told (tries (present_in c) (failed_in kind) rest ∙ ap (tries_own (turn_in x rows (present_in c) (failed_in kind) rest w)) asked) ∙ makes c told rest)
          (λ rest. ap (work_of rest) next ∙ sym (moves c told rest))
          (quiet_after kind after same) whose,
      leaves_remote rows rows' k k' w (record w { heard = (x.read.repo, heards.Lacks cause) ∷ w.heard; phase = phases.Next }) w' kind out gives.0.made next (quiet_after kind after same) (contents ∙ sym still) agrees' later rose
          (own' same) (λ going. unbarred w.token bare) (inr ((x.read.repo, heards.Lacks cause), refl)) refl refl (others_same w.number rows rows' same),
    )
      where
        next : w' ≡ record w { heard = (x.read.repo, heards.Lacks cause) ∷ w.heard; phase = phases.Next }
        next = gives.0.next x.read.repo (heards.Held x.time) w.heard refl

    pub unshared_did : (why : ShareRefused) (r : Result Output NoMemory) → NotShared why (HasContent k.contents w.job.key) (bar_at rows w.job.key) → (IsShareFault why → Rose k.faults k'.faults)
        → FollowsShareRefused (bar_at rows w.job.key) why heard_first w' r → DidRemote rows rows' k k' w w' (GoesSo x k.contents rows rows' w w') r
    unshared_did refused.Absent r found rose is =
        none_did (Talk (Some w.number)) (unshared_cause (bar_at rows w.job.key)) r is (record { holds = refl; bars = λ key. refl; fills = refl }) refl refl tt
        (λ c told rest. shares_gone (turn_in x rows (present_in c) None rest w) refl (found c told)) (λ c told rest. next_none (turn_in x rows (present_in c) None rest w) refl at)
    unshared_did (refused.Barred job) r found rose is =
        none_did (Talk (Some w.number)) (unshared_cause (bar_at rows w.job.key)) r is (record { holds = refl; bars = λ key. refl; fills = refl }) refl refl tt
        (λ c told rest. shares_barred (turn_in x rows (present_in c) None rest w) job refl (found.0 c told) found.1) (λ c told rest. next_none (turn_in x rows (present_in c) None rest w) refl at)
    unshared_did (refused.StoreFault calls.Has) r found rose is =
        none_did (Fault calls.Has (by_job w.number)) causes.Fault r is (record { holds = refl; bars = λ key. refl; fills = refl }) refl refl (rose tt)
        (λ c told rest. unfound (turn_in x rows (present_in c) (Some calls.Has) rest w) refl) (λ c told rest. next_unfound (turn_in x rows (present_in c) (Some calls.Has) rest w) refl at remote.side)
    unshared_did (refused.StoreFault calls.Hold) r found rose is =
        none_did (Fault calls.Hold (by_job w.number)) causes.Fault r is (record { holds = refl; bars = λ key. refl; fills = refl }) refl refl (rose tt)
        (λ c told rest. unheld (turn_in x rows (present_in c) (Some calls.Hold) rest w) refl (found.0 c told) found.1) (λ c told rest. next_unheld (turn_in x rows (present_in c) (Some calls.Hold) rest w) refl at remote.side)
    unshared_did (refused.StoreFault calls.Size) r found rose is = absurd found
    unshared_did (refused.StoreFault calls.Read) r found rose is = absurd found
    unshared_did (refused.StoreFault calls.PartSize) r found rose is = absurd found
    unshared_did (refused.StoreFault calls.ReadPart) r found rose is = absurd found
    unshared_did (refused.StoreFault calls.Append) r found rose is = absurd found
    unshared_did (refused.StoreFault calls.Commit) r found rose is = absurd found
    unshared_did (refused.StoreFault calls.DropPart) r found rose is = absurd found
    unshared_did (refused.StoreFault calls.Remove) r found rose is = absurd found
    unshared_did (refused.StoreFault calls.Unhold) r found rose is = absurd found
    unshared_did (refused.StoreFault calls.Holds) r found rose is = absurd found
    unshared_did (refused.StoreFault calls.PutFile) r found rose is = absurd found
    unshared_did (refused.StoreFault calls.File) r found rose is = absurd found
    unshared_did refused.NoMemory (Ok out) found rose is = absurd is.0
    unshared_did refused.NoMemory (Err e) found rose is = record {
      worker = is.1 (x.read.repo, heards.Held x.time) w.heard refl ∙ sym (ap (λ (ph : Phase). record w { phase = ph }) fresh);
      table = same;
      contents = contents;
      records = records;
      later = later;
    }
