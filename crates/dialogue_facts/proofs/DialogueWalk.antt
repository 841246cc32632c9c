-- Each step of a job keeps the dialogue on its connections, where what it takes suits its phase: the walk over all steps.
use Rattle.node_model.specs.Clocks.{hold_time}
use Rattle.std.proofs.Common.{◌≡◌, ◌≢◌, ℕ, ◌+◌, ◌≤◌, Bool, true, false, List, [], ◌∷◌, ◌++◌, Option, Some, None, inl, inr, refl, sym, ap, ◌∙◌, subst, arith}
use Rattle.std.specs.Prelude.{◌==◌, ◌&&◌, not, nat_lt}
use Rattle.std.proofs.lemmas.Bool.{eqb-true}
use Rattle.std.proofs.lemmas.Bool.Decides.{nat_tests}
use Rattle.annex_base.specs.declared.kinds.Call.{Call}
use Rattle.annex_base.proofs.Lists.{find_member}
use Rattle.annex_base.proofs.Conditions.{if_either}
use Rattle.annex_base.specs.declared.kinds.Call.TheVariants as calls
use Rattle.drop_proof.specs.declared.rule.Side.{Side}
use Rattle.drop_proof.specs.declared.rule.Side.TheVariants.{Local, Remote}
use Rattle.run_data.specs.declared.entry.EntryKind.{EntryKind}
use Rattle.run_data.specs.declared.entry.EntryKind.TheVariants.{Bar, Fault, Gone, Order, Share, End as ends_job}
use Rattle.run_data.specs.declared.entry.FrameView.{FrameView}
use Rattle.run_data.specs.declared.entry.FrameText.{FrameText}
use Rattle.run_data.specs.declared.entry.FrameText.TheVariants.{Opening, Line}
use Rattle.run_data.specs.declared.job.Outcome.{Outcome}
use Rattle.run_data.specs.declared.job.Outcome.TheVariants.{Got, Refused, TransferRefused}
use Rattle.run_data.specs.declared.job.DropRefusal.{DropRefusal}
use Rattle.run_data.specs.declared.job.DropRefusal.TheVariants as refusals
use Rattle.run_data.specs.declared.job.TransferRefusal.TheVariants as failures
use Rattle.node_model.specs.Rows.{is_lost_ordered}
use Rattle.node_model.specs.Evidence.{Standing, Asked}
use Rattle.p2p_wire.specs.declared.message.Message.{Message}
use Rattle.p2p_wire.specs.declared.message.Message.TheVariants.{LockContent, Remove, RemoveBefore, GetTimestamp, Get, Put}
use Rattle.p2p_wire.specs.Messages.{order_of, message_of, text_of}
use Rattle.node_model.specs.Sessions.{Session}
use Rattle.node_model.specs.Jobs
use Rattle.node_model.specs.Jobs.{Part, Gets, Puts, Drops, Phase, Next, GetsData, PutsOffer, AsksLock, AsksTime, Removed, Heard, Held, Work, heard_of, fault_of, is_move, partner, quiet, says, side_of, taken_message, after_failed_release}
use Rattle.node_model.specs.Calls.{to_hold, to_release, to_resume}
use Rattle.node_model.specs.Look.{Effect}
use Rattle.node_model.specs.Knows.{enough_by, is_unasked, next_by, asks_by, candidates_by}
use Rattle.node_model.specs.JobStep.{Turn, attempts, bar_there, by_me, clock_of, end_with, ends, farewells, is_there, key_of, me, owns_share, quietly, says_to, sends_to, talk, is_held}
use Rattle.node_model.specs.DropStep.{asks_copy, asks_lock, asks_target, bars, expiry, first_drop, first_end, first_remote, held_until, in_time, lacking_outcome, need_now, orders, own_share, removes, required_there, row_refusal, target, tries_own}
use Rattle.node_model.specs.Requests.{asks, goes_to}
use Rattle.node_model.specs.TransferStep.{first_get, first_put, next_get, next_source}
use Rattle.node_model.specs.Turns.{first_step, goes, judges, next_step}
use Rattle.job_facts.proofs.TalkFacts.{Fits}
use Rattle.step_facts.proofs.ClientCounts.{IsLive, none_is}
use Rattle.step_facts.proofs.ClientTurns.{made_entry, rows_of, talker, talker_phase}
use Rattle.step_facts.proofs.ClientSteps.{Speaks, attempts_even, fault_alone, fault_dead, fault_is, hold_plain, is_plain, plain_in, quiet_alone, release_is, resume_plain, time_reads, unreleased_alone}
use Rattle.job_facts.proofs.Dialogue
use Rattle.job_facts.proofs.Dialogue.{Stance, is_greeted, kept, phase_stance, rests, stands_at}
use Rattle.dialogue_facts.proofs.DialogueSteps.{away_asks}
use Rattle.dialogue_facts.proofs.DialogueTurns.{Good, KeepsTo, KnowsVersion, rests_at, stands_on}
use Rattle.dialogue_facts.proofs.DialogueLeaves.{Goes, first_keeps, opens_keeps, over_keeps, still_keeps}

-- ---- hypotheses on a job that steps

-- it says what is read; its phase fits its part; it has no lock of whom it is to ask: in a transfer it has none, and a remote drop none of its target
pub record Walks (t : Turn) : Type 0 where
  pub speaks : Speaks t
  pub fits : Fits t.w.part t.w.phase
  pub no_locks : t.w.part ≢ Drops → (peer : ℕ) → kept t.w peer ≡ false
  pub target_free : t.w.part ≡ Drops → side_of t.w ≡ Remote → kept t.w (target t) ≡ false
  pub times_remote : t.w.phase ≡ AsksTime → side_of t.w ≡ Remote

abbrev Converses : Stance → Session → List FrameText → List FrameText → Type 0
Converses at z up down = Dialogue.Dialogue at z up down

abbrev pub GoodMade : Turn → Effect → Type 0
GoodMade t m = Good t m m.kind

-- ---- store calls

-- a call of a job that stands on no connection fails
pub fault_good : (t : Turn) → partner t.w.what.peer t.w.phase ≡ None → IsLive t.w.phase → (call : Call) → is_plain call ≡ true → GoodMade t (quietly (Fault call (by_me t)) None)
fault_good t alone live call plain = (
  still_keeps t alone live (Fault call (by_me t)) (fault_of (me t) t.w t.look.time call)
      (ap (λ (y : Work). partner t.w.what.peer y.phase) (fault_is (me t) t.w t.look.time call plain) ∙ fault_alone t.w.what.peer (me t) t.w t.w.part (side_of t.w) t.w.phase),
  inl tt,
)

pub fault_on : (t : Turn) (peer : ℕ) → partner t.w.what.peer t.w.phase ≡ Some peer → (taken : Option FrameView) (call : Call) → is_plain call ≡ true → GoodMade t (quietly (Fault call (by_me t)) taken)
fault_on t peer on taken call plain = (
  over_keeps t (quietly (Fault call (by_me t)) taken) (fault_of (me t) t.w t.look.time call)
      (λ l. fault_dead t.w.what.peer (me t) t.w t.w.part (side_of t.w) t.w.phase peer on (subst (λ (y : Work). IsLive y.phase) (fault_is (me t) t.w t.look.time call plain) l)),
  inl tt,
)

-- ---- the end

pub ends_good : (t : Turn) → partner t.w.what.peer t.w.phase ≡ None → IsLive t.w.phase → (outcome : Outcome) → GoodMade t (ends t None outcome)
ends_good t alone live outcome =
    let rest : Effect = record { kind = ends_job t.w.number outcome; taken = None; sent = farewells t (is_lost_ordered outcome); lines = []; calls = [] } in
    attempts_even (GoodMade t) t (to_release (owns_share t && not (is_lost_ordered outcome))) None rest
    (λ call e. subst (λ (c : Call). GoodMade t (quietly (Fault c (by_me t)) None)) (sym (release_is (owns_share t && not (is_lost_ordered outcome)) call e))
    (still_keeps t alone live (Fault calls.Unhold (by_me t)) (after_failed_release t.w t.look.time t.w.phase) (unreleased_alone t.w.what.peer t.w t.look.time t.w.phase alone), inl tt)) tt

-- the end of a job that is to end
pub dead_good : (t : Turn) → (IsLive t.w.phase → ⊥) → (outcome : Outcome) → GoodMade t (ends t None outcome)
dead_good t dead outcome =
    let rest : Effect = record { kind = ends_job t.w.number outcome; taken = None; sent = farewells t (is_lost_ordered outcome); lines = []; calls = [] } in
    attempts_even (GoodMade t) t (to_release (owns_share t && not (is_lost_ordered outcome))) None rest
    (λ call e. subst (λ (c : Call). GoodMade t (quietly (Fault c (by_me t)) None)) (sym (release_is (owns_share t && not (is_lost_ordered outcome)) call e))
    (over_keeps t (quietly (Fault calls.Unhold (by_me t)) None) (after_failed_release t.w t.look.time t.w.phase) (still_dead t.w.phase refl), inl tt)) tt
  where
    still_dead : (phase : Phase) → t.w.phase ≡ phase → IsLive (after_failed_release t.w t.look.time phase).phase → ⊥
    still_dead AsksTime is l = dead (subst IsLive (sym is) tt)
    still_dead phase is l = dead l

-- ---- what is said first on an open connection

-- how a job asks a peer, whose session is such a one: after it took this
abbrev pub Asks : Turn → (Session → Type 0) → Option FrameView → ℕ → Type 0
Asks t V taken peer = (kind : EntryKind) (m : Message) (next : Phase) → message_of (text_of m) ≡ Some m
    → ((says (talker t taken) t.look.time peer (taken_message taken) m).phase ≡ next) → partner t.w.what.peer next ≡ Some peer
    → ((z : Session) (up down : List FrameText) → V z → Converses Dialogue.Away z up down → Converses (phase_stance next) z (up ++ Line (text_of m) ∷ []) down) → Goes t (says_to t kind taken peer m)

lock_good : (t : Turn) (V : Session → Type 0) (taken : Option FrameView) (peer : ℕ) → Speaks t → Asks t V taken peer → GoodMade t (asks_lock t taken peer)
lock_good t V taken peer speaks asker = asker (talk t) (LockContent (key_of t)) (AsksLock peer t.look.time) speaks.lock refl refl
    (λ z up down v x. inl (away_asks Dialogue.AtLock z up down (LockContent (key_of t)) x x.1 speaks.lock))

pub order_good : (t : Turn) (V : Session → Type 0) (taken : Option FrameView) (deadline : Option ℕ) → t.w.what.peer ≡ Some (target t)
    → message_of (text_of (order_of deadline (key_of t))) ≡ Some (order_of deadline (key_of t)) → ((n : ℕ) → deadline ≡ Some n → (z : Session) → V z → 3 ≤ z.version)
    → Asks t V taken (target t) → GoodMade t (orders t taken deadline (order_of deadline (key_of t)))
order_good t V taken None to back new asker = asker (Order t.w.number (target t) None (need_now t) (key_of t)) (Remove (key_of t)) Jobs.Orders back refl to
    (λ z up down v x. inl (away_asks Dialogue.AtOrder z up down (Remove (key_of t)) x x.1 back))
order_good t V taken (Some n) to back new asker = asker (Order t.w.number (target t) (Some n) (need_now t) (key_of t)) (RemoveBefore n (key_of t)) Jobs.Orders back refl to
    (λ z up down v x. inl (away_asks Dialogue.AtOrder z up down (RemoveBefore n (key_of t)) x (new n refl z v) back))

-- the version of the target, where that is known
abbrev pub IsVersion : Turn → ℕ → ℕ → Session → Type 0
IsVersion t version peer z = t.w.what.peer ≡ Some peer → version ≡ z.version

not_old : (version v : ℕ) → nat_lt version 3 ≡ false → version ≡ v → 3 ≤ v
not_old version v e same = grind (arith, nat_tests)

target_good : (t : Turn) (version : ℕ) (taken : Option FrameView) → Speaks t → t.w.what.peer ≡ Some (target t) → Asks t (IsVersion t version (target t)) taken (target t) → GoodMade t (quietly (talk t) taken)
    → (end : Option ℕ) → GoodMade t (asks_target t version taken end)
target_good t version taken speaks to asker old None = order_good t (IsVersion t version (target t)) taken None to speaks.remove (λ n e. absurd (cc)) asker
target_good t version taken speaks to asker old (Some end) =
    if_either (GoodMade t) (nat_lt version 3) (quietly (talk t) taken) (says_to t (talk t) taken (target t) GetTimestamp) (λ e. old)
    (λ e. asker (talk t) GetTimestamp AsksTime time_reads refl to
    (λ z up down v x. inl (away_asks Dialogue.AtTime z up down GetTimestamp x (not_old version z.version e (v to)) time_reads)))

copy_good : (t : Turn) (version : ℕ) (taken : Option FrameView) (peer : ℕ) → Speaks t → t.w.part ≡ Drops → Asks t (IsVersion t version peer) taken peer → GoodMade t (quietly (talk t) taken)
    → (side : Side) → side_of t.w ≡ side → GoodMade t (asks_copy t version taken peer side)
copy_good t version taken peer speaks part asker old Local is = lock_good t (IsVersion t version peer) taken peer speaks asker
copy_good t version taken peer speaks part asker old Remote is =
    if_either (GoodMade t) (target t == peer) (asks_target t version taken (first_end t)) (asks_lock t taken peer)
    (λ e. target_good t version taken speaks (speaks.to_target part is) (subst (λ p. Asks t (IsVersion t version p) taken p) (sym (eqb-true (target t) peer e)) asker) old (first_end t))
    (λ e. lock_good t (IsVersion t version peer) taken peer speaks asker)

pub first_asks : (t : Turn) (version : ℕ) (taken : Option FrameView) (peer : ℕ) → Speaks t → Asks t (IsVersion t version peer) taken peer → GoodMade t (quietly (talk t) taken)
    → ((call : Call) → is_plain call ≡ true → GoodMade t (quietly (Fault call (by_me t)) taken)) → (part : Part) → t.w.part ≡ part → GoodMade t (asks t version taken peer part)
first_asks t version taken peer speaks asker old faults Gets is =
    attempts_even (GoodMade t) t (to_resume t.look.part) taken (says_to t (talk t) taken peer (Get t.look.part [] (key_of t))) (λ call e. faults call (resume_plain (nat_lt 0 t.look.part) call e))
    (asker (talk t) (Get t.look.part [] (key_of t)) (GetsData peer t.look.part) speaks.get refl refl
    (λ z up down v x. inl (away_asks Dialogue.AtGet z up down (Get t.look.part [] (key_of t)) x x.1 speaks.get)))
first_asks t version taken peer speaks asker old faults Puts is =
    asker (talk t) (Put [] (key_of t)) (PutsOffer peer) speaks.put refl refl
    (λ z up down v x. inl (away_asks Dialogue.AtPut z up down (Put [] (key_of t)) x x.1 speaks.put))
first_asks t version taken peer speaks asker old faults Drops is = copy_good t version taken peer speaks is asker old (side_of t.w) refl

-- ---- a job that stands on no connection

find_unasked : (t : Turn) (peer : ℕ) → next_by t.read t.w ≡ Some peer → kept t.w peer ≡ false
find_unasked t peer e = go (t.read.standing peer) (heard_of t.w peer) (find_member (λ c. asks_by t.read t.w c) (candidates_by t.read t.w) peer e).1
  where
    go : (s : Standing) (o : Option Heard) → is_unasked s o ≡ true → is_held o ≡ false
    go s None e = refl
    go Asked (Some h) e = absurd (cc)
    go s (Some h) e = absurd (other s h e)
      where
        other : (s : Standing) (h : Heard) → is_unasked s (Some h) ≡ true → ⊥
        other Asked h e = cc
        other s h e = cc

module _ (t : Turn) (alone : partner t.w.what.peer t.w.phase ≡ None) (live : IsLive t.w.phase) (walks : Walks t) where
  quiet_good : GoodMade t (quietly (talk t) None)
  quiet_good = (
    subst (λ (p : Option ℕ). KeepsTo t (quietly (talk t) None) (Jobs.talks_on (rows_of t) (me t) (talker t None) (made_entry t (quietly (talk t) None)) p)) (sym alone)
        (still_keeps t alone live (talk t) (quiet (rows_of t) (me t) (talker t None) (talker t None).phase)
        (quiet_alone t.w.what.peer (rows_of t) (me t) (talker t None) (talker t None).phase (ap (λ (p : Phase). partner t.w.what.peer p) (talker_phase t None) ∙ alone))),
    inl tt,
  )

  asks_first : (peer : ℕ) → kept t.w peer ≡ false → (end_with t peer).opened ≡ true → Asks t (IsVersion t t.w.version peer) None peer
  asks_first peer free opened kind m next back goes on f = first_keeps t alone live kind peer m next free opened back goes (inr on)
      (λ k z up down v x. subst (λ (at : Stance). Converses at z (up ++ Line (text_of m) ∷ []) down) (sym (stands_on t.w.what.peer next k peer on)) (f z up down (known z v) x))
    where
      at_rest : stands_at t.w peer ≡ rests (kept t.w peer)
      at_rest = rests_at t.w.what.peer t.w.phase (kept t.w peer) peer (none_is (partner t.w.what.peer t.w.phase) peer alone)

      greeted : (k : Bool) → is_greeted (rests k) ≡ true
      greeted true = refl
      greeted false = refl

      known : (z : Session) → KnowsVersion t.w peer z → IsVersion t t.w.version peer z
      known z v to = v to (ap is_greeted at_rest ∙ greeted (kept t.w peer))

  goes_to_good : (peer : ℕ) → kept t.w peer ≡ false → GoodMade t (goes_to t peer)
  goes_to_good peer free = if_either (GoodMade t) (end_with t peer).opened (asks t t.w.version None peer t.w.part) (sends_to t (talk t) None peer (Opening ∷ []))
      (λ e. first_asks t t.w.version None peer walks.speaks (asks_first peer free e) quiet_good (λ call plain. fault_good t alone live call plain) t.w.part refl)
      (λ e. opens_keeps t alone live (talk t) peer)

  bars_good : (refusal : Option DropRefusal) → GoodMade t (bars t refusal)
  bars_good (Some refusal) = ends_good t alone live (Refused refusal)
  bars_good None = (still_keeps t alone live (Bar t.w.number (need_now t) (key_of t)) (Jobs.to_phase t.w Next) refl, inl tt)

  own_good : (here : Bool) (bar : Option ℕ) → GoodMade t (quietly (own_share (t.number) (clock_of t + hold_time) t.w.number (key_of t) (talk t) (by_me t) here bar) None)
  own_good true None = (still_keeps t alone live (Share (t.number) (clock_of t + hold_time) (by_me t) (key_of t)) (Jobs.hears t.w (me t) (Held t.look.time)) refl, inl tt)
  own_good true (Some j) = quiet_good
  own_good false bar = quiet_good

  tries_good : (standing : Standing) → GoodMade t (tries_own t standing)
  tries_good Asked = attempts_even (GoodMade t) t (to_hold (is_there t) (bar_there t)) None
      (quietly (own_share (t.number) (clock_of t + hold_time) t.w.number (key_of t) (talk t) (by_me t) (is_there t) (bar_there t)) None)
      (λ call e. fault_good t alone live call (hold_plain (is_there t) (bar_there t) call e)) (own_good (is_there t) (bar_there t))
  tries_good standing = quiet_good

  remote_good : (required : Option (List ℕ)) → GoodMade t (first_remote t required)
  remote_good (Some text) = ends_good t alone live (Refused (refusals.Required text))
  remote_good None = tries_good (t.read.standing (me t))

  drop_first : (side : Side) → GoodMade t (first_drop t side)
  drop_first Local = attempts_even (GoodMade t) t (calls.Has ∷ []) None (bars t (row_refusal (is_there t) (required_there t) (bar_there t) (held_until t)))
      (λ call e. fault_good t alone live call (plain_in call (calls.Has ∷ []) refl refl e)) (bars_good (row_refusal (is_there t) (required_there t) (bar_there t) (held_until t)))
  drop_first Remote = remote_good (required_there t)

  get_first : ((peer : ℕ) → kept t.w peer ≡ false) → (here filled : Bool) (source : Option ℕ) → GoodMade t (first_get t here filled source)
  get_first free true filled source = if_either (GoodMade t) (is_move t.w.what.kind) (quietly (talk t) None) (ends t None (Got None None)) (λ e. quiet_good) (λ e. ends_good t alone live (Got None None))
  get_first free false true source = ends_good t alone live (TransferRefused failures.Busy)
  get_first free false false None = quiet_good
  get_first free false false (Some peer) = goes_to_good peer (free peer)

  put_first : ((peer : ℕ) → kept t.w peer ≡ false) → (here : Bool) (peer : Option ℕ) → GoodMade t (first_put t here peer)
  put_first free true (Some peer) = goes_to_good peer (free peer)
  put_first free true None = ends_good t alone live (TransferRefused failures.NotHere)
  put_first free false peer = ends_good t alone live (TransferRefused failures.NotHere)

  no_drop : (part : Part) → (part ≡ Drops → ⊥) → t.w.part ≡ part → (peer : ℕ) → kept t.w peer ≡ false
  no_drop part apart is = walks.no_locks (λ drops. apart (sym is ∙ drops))

  pub first_step_good : (part : Part) → t.w.part ≡ part → GoodMade t (first_step t part)
  first_step_good Gets is = attempts_even (GoodMade t) t (calls.Has ∷ []) None (first_get t (is_there t) (t.filled (key_of t)) (next_source t))
      (λ call e. fault_good t alone live call (plain_in call (calls.Has ∷ []) refl refl e)) (get_first (no_drop Gets (λ e. cc) is) (is_there t) (t.filled (key_of t)) (next_source t))
  first_step_good Puts is = attempts_even (GoodMade t) t (calls.Has ∷ []) None (first_put t (is_there t) t.w.what.peer)
      (λ call e. fault_good t alone live call (plain_in call (calls.Has ∷ []) refl refl e)) (put_first (no_drop Puts (λ e. cc) is) (is_there t) t.w.what.peer)
  first_step_good Drops is = drop_first (side_of t.w)

  removes_good : GoodMade t (removes t)
  removes_good = if_either (GoodMade t) (in_time (clock_of t) (first_end t)) (attempts t (calls.Remove ∷ []) None (quietly (Gone (by_me t) (key_of t)) None)) (ends t None (expiry (clock_of t) (first_end t)))
      (λ e. attempts_even (GoodMade t) t (calls.Remove ∷ []) None (quietly (Gone (by_me t) (key_of t)) None) (λ call h. fault_good t alone live call (plain_in call (calls.Remove ∷ []) refl refl h))
      (still_keeps t alone live (Gone (by_me t) (key_of t)) (Jobs.to_phase t.w Removed) refl, inl tt))
      (λ e. ends_good t alone live (expiry (clock_of t) (first_end t)))

  judges_good : t.w.part ≡ Drops → (enough : Bool) (next : Option ℕ) (side : Side) → next_by t.read t.w ≡ next → side_of t.w ≡ side → GoodMade t (judges t enough next side)
  judges_good part false (Some peer) side next is = goes_to_good peer (find_unasked t peer next)
  judges_good part false None side next is = ends_good t alone live (lacking_outcome t)
  judges_good part true next Local asks is = removes_good
  judges_good part true next Remote asks is = goes_to_good (target t) (walks.target_free part is)

  next_get_good : ((peer : ℕ) → kept t.w peer ≡ false) → (source : Option ℕ) → GoodMade t (next_get t source)
  next_get_good free None = ends_good t alone live (TransferRefused (failures.NoSource t.w.causes))
  next_get_good free (Some peer) = goes_to_good peer (free peer)

  pub next_step_good : (part : Part) → t.w.part ≡ part → GoodMade t (next_step t part)
  next_step_good Drops is = judges_good is (enough_by t.read t.w) (next_by t.read t.w) (side_of t.w) refl refl
  next_step_good Gets is = next_get_good (no_drop Gets (λ e. cc) is) (next_source t)
  next_step_good Puts is = next_get_good (no_drop Puts (λ e. cc) is) (next_source t)
