-- Each step of a job keeps what its phase says of requests and answers: the walk over all steps.
use Rattle.node_model.specs.Clocks.{hold_time}
use Rattle.std.proofs.Common.{◌≡◌, ℕ, ◌+◌, ◌-◌, ◌/◌, ◌^◌, Bool, true, false, List, [], ◌∷◌, Option, Some, None, inl, inr, refl, sym, ap, ◌∙◌, subst}
use Rattle.std.specs.Prelude.{◌++◌, if◌then◌else◌, ◌==◌, ◌&&◌, not, min, nat_lt, nat_le, bytes_eq, codes}
use Rattle.std.specs.List.{list_all, list_any}
use Rattle.std.proofs.lemmas.Bool.{true≢false, and_parts, eqb-true}
use Rattle.std.proofs.lemmas.Option.{same_Some}
use Rattle.annex_base.specs.declared.kinds.Call.{Call}
use Rattle.annex_base.proofs.Lists.{find_member}
use Rattle.annex_base.proofs.Conditions.{if_either}
use Rattle.annex_base.specs.declared.kinds.Call.TheVariants as calls
use Rattle.drop_proof.specs.declared.rule.Side.{Side}
use Rattle.drop_proof.specs.declared.rule.Side.TheVariants.{Local, Remote}
use Rattle.run_data.specs.declared.entry.EntryKind.{EntryKind}
use Rattle.run_data.specs.declared.entry.EntryKind.TheVariants.{Bar, Fault, Gain, Gone, Order, Share, End as ends_job}
use Rattle.run_data.specs.declared.entry.FrameView.{FrameView}
use Rattle.run_data.specs.declared.entry.FrameText.{FrameText}
use Rattle.run_data.specs.declared.entry.FrameText.TheVariants.{Opening, Closing, Bytes, Line}
use Rattle.run_data.specs.declared.job.Outcome.{Outcome}
use Rattle.run_data.specs.declared.job.Outcome.TheVariants.{Got, Copied, Refused, TransferRefused}
use Rattle.run_data.specs.declared.job.DropRefusal.{DropRefusal}
use Rattle.run_data.specs.declared.job.DropRefusal.TheVariants as refusals
use Rattle.run_data.specs.declared.job.TransferRefusal.TheVariants as failures
use Rattle.node_model.specs.Rows.{is_lost_ordered}
use Rattle.node_model.specs.Evidence.{Standing, Asked}
use Rattle.p2p_wire.specs.declared.message.Message.{Message}
use Rattle.p2p_wire.specs.declared.message.Message.TheVariants.{AuthSuccess, Version, CheckPresent, LockContent, Remove, RemoveBefore, GetTimestamp, Timestamp, Get, Put, PutFrom, AlreadyHave, Data, Valid, Invalid, Success, Failure, Error}
use Rattle.p2p_wire.specs.Messages.{order_of, message_of, text_of}
use Rattle.node_model.specs.Ends.{may_take, takes_at}
use Rattle.node_model.specs.Sessions.{line_in, reaches}
use Rattle.node_model.specs.Jobs
use Rattle.node_model.specs.Jobs.{Part, Gets, Puts, Drops, Phase, RowsAndEnds, Fresh, Next, Opens, Greets, GetsData, GetsBytes, GetsWord, PutsOffer, PutsBytes, PutsWord, PutsAnswer, AsksLock, AsksLook, AsksTime, Removed, Denied, Late, Ends, Work, fault_of, fault_phase, first_look, gets_more, puts_more, is_move, job_end, listens, partner, quiet, says, side_of, taken_message, after_frame, after_transfer, after_failed_release}
use Rattle.node_model.specs.Calls.{to_commit, to_hold, to_release, to_resume, to_read}
use Rattle.node_model.specs.Look.{Effect, failing_call, unless, waiting_frame}
use Rattle.annex_base.specs.Calls.{same_call}
use Rattle.node_model.specs.SessionStep.{bytes_left}
use Rattle.node_model.specs.Knows.{enough_by, next_by}
use Rattle.node_model.specs.JobStep.{Turn, hears, attempts, bar_there, by_me, clock_of, end_with, ends, farewells, is_there, key_of, me, owns_share, quietly, says_to, sends_to, talk, wrong_message}
use Rattle.node_model.specs.DropStep.{takes_drop, takes_time, asks_copy, asks_lock, asks_target, bars, expiry, first_drop, first_end, first_remote, held_until, in_time, lacking_outcome, need_now, orders, own_share, removes, required_there, row_refusal, target, times, tries_own}
use Rattle.node_model.specs.Requests.{asks, goes_to}
use Rattle.node_model.specs.TransferStep.{takes_get, takes_put, content_of, first_get, first_put, gains, next_get, next_source, puts_from, puts_piece, takes_bytes}
use Rattle.node_model.specs.Turns.{takes_answer, awaits, by_partner, goes_on, has_room, needs, with_partner, is_awaiting, first_step, goes, judges, next_step, outcome_of, takes, takes_frame, takes_text}
use Rattle.step_facts.proofs.ClientCounts.{Counts, last_away, none_is, IsLive, LastIs, AskedFrom, Request, Stays, answers_it, asks_for, awaits_of, counts_takes, is_answering, request}
use Rattle.step_facts.proofs.ClientTurns.{Even, EvenTo, made_entry, rows_of, talker, talker_phase}
use Rattle.step_facts.proofs.ClientLeaves.{Goes, Taking, asks_even, awaits_none, awaits_not, awaits_true, bytes_even, closes_even, first_even, hears_even, hears_to, keeps_even, lost_even, opens_even, over_even, sends_even, shut_even, still_even, tells_even, tells_to, took_other, wrong_even}

-- ---- hypotheses on a job that steps

-- each line that it may say is read as it was said, and a remote drop has its target as peer
pub record Speaks (t : Turn) : Type 0 where
  pub version : message_of (text_of (Version 3)) ≡ Some (Version 3)
  pub lock : message_of (text_of (LockContent (key_of t))) ≡ Some (LockContent (key_of t))
  pub look : message_of (text_of (CheckPresent (key_of t))) ≡ Some (CheckPresent (key_of t))
  pub remove : message_of (text_of (Remove (key_of t))) ≡ Some (Remove (key_of t))
  pub before : (n end : ℕ) → nat_lt n (2 ^ 61) ≡ true → first_end t ≡ Some end → nat_lt (clock_of t) end ≡ true
      → message_of (text_of (RemoveBefore (n + (end - clock_of t) / 1000) (key_of t))) ≡ Some (RemoveBefore (n + (end - clock_of t) / 1000) (key_of t))
  pub get : message_of (text_of (Get t.look.part [] (key_of t))) ≡ Some (Get t.look.part [] (key_of t))
  pub put : message_of (text_of (Put [] (key_of t))) ≡ Some (Put [] (key_of t))
  pub data' : (n : ℕ) → message_of (text_of (Data (bytes_left (content_of t) n))) ≡ Some (Data (bytes_left (content_of t) n))
  pub to_target : t.w.part ≡ Drops → side_of t.w ≡ Remote → t.w.what.peer ≡ Some (target t)

pub time_reads : message_of (text_of GetTimestamp) ≡ Some GetTimestamp
time_reads = refl

pub valid_reads : message_of (text_of Valid) ≡ Some Valid
valid_reads = refl

success_reads : message_of (text_of Success) ≡ Some Success
success_reads = refl

pub failure_reads : message_of (text_of Failure) ≡ Some Failure
failure_reads = refl

-- ---- store calls

abbrev pub EvenMade : Turn → Effect → Type 0
EvenMade t m = Even t m m.kind

pub attempts_even : (P : Effect → Type 0) (t : Turn) (cs : List Call) (taken : Option FrameView) (m : Effect)
    → ((call : Call) → list_any (same_call call) cs ≡ true → P (record (quietly (Fault call (by_me t)) taken) { calls = cs ++ m.calls })) → P (record m { calls = cs ++ m.calls }) → P (attempts t cs taken m)
attempts_even P t cs taken m bad good = go t.look.fails
  where
    fault : Call → Effect
    fault call = quietly (Fault call (by_me t)) taken

    P' : Effect → Type 0
    P' z = P (record z { calls = cs ++ m.calls })

    go : (o : Option Call) → P' (unless (failing_call o cs) fault m)
    go None = good
    go (Some c) = if_either (λ (x : Option Call). P' (unless x fault m)) (list_any (same_call c) cs) (Some c) None (λ e. bad c e) (λ e. good)

-- neither the writing of a line, nor a release
abbrev pub is_plain : Call → Bool
is_plain calls.PutFile = false
is_plain calls.Unhold = false
is_plain call = true

pub plain_in : (call : Call) (cs : List Call) → list_any (same_call calls.PutFile) cs ≡ false → list_any (same_call calls.Unhold) cs ≡ false → list_any (same_call call) cs ≡ true → is_plain call ≡ true
plain_in calls.PutFile cs a b e = absurd (true≢false (sym e ∙ a))
plain_in calls.Unhold cs a b e = absurd (true≢false (sym e ∙ b))
plain_in call cs a b e = refl

-- so is each of those that ask for a part
pub resume_plain : (reads : Bool) (call : Call) → list_any (same_call call) (calls.PartSize ∷ to_read reads) ≡ true → is_plain call ≡ true
resume_plain true call e = plain_in call (calls.PartSize ∷ to_read true) refl refl e
resume_plain false call e = plain_in call (calls.PartSize ∷ to_read false) refl refl e

-- of those for a share of its own
pub hold_plain : (here : Bool) (bar : Option ℕ) (call : Call) → list_any (same_call call) (to_hold here bar) ≡ true → is_plain call ≡ true
hold_plain true None call e = plain_in call (to_hold true None) refl refl e
hold_plain true (Some j) call e = plain_in call (to_hold true (Some j)) refl refl e
hold_plain false bar call e = plain_in call (to_hold false bar) refl refl e

-- and of those that keep what came
pub commit_plain : (right : Bool) (call : Call) → list_any (same_call call) (to_commit right) ≡ true → is_plain call ≡ true
commit_plain true call e = plain_in call (to_commit true) refl refl e
commit_plain false call e = plain_in call (to_commit false) refl refl e

pub fault_is : (r : ℕ) (w : Work) (time : ℕ) (call : Call) → is_plain call ≡ true → fault_of r w time call ≡ fault_phase r w w.part (side_of w) w.phase
fault_is r w time calls.PutFile e = absurd (cc)
fault_is r w time calls.Unhold e = absurd (cc)
fault_is r w time call e = refl

pub fault_alone : (target : Option ℕ) (r : ℕ) (w : Work) (part : Part) (side : Side) (phase : Phase) → partner target (fault_phase r w part side phase).phase ≡ None
fault_alone target r w Drops Remote Fresh = refl
fault_alone target r w part side phase = refl

pub fault_dead : (target : Option ℕ) (r : ℕ) (w : Work) (part : Part) (side : Side) (phase : Phase) (peer : ℕ) → partner target phase ≡ Some peer → IsLive (fault_phase r w part side phase).phase → ⊥
fault_dead target r w Drops Remote Fresh peer on live = let e : None ≡ Some peer = on in absurd (cc)
fault_dead target r w part side phase peer on live = live

-- a call of a job that stands on no connection fails
fault_even : (t : Turn) → partner t.w.what.peer t.w.phase ≡ None → IsLive t.w.phase → (call : Call) → is_plain call ≡ true → EvenMade t (quietly (Fault call (by_me t)) None)
fault_even t alone live call plain = still_even t alone live (Fault call (by_me t)) (fault_of (me t) t.w t.look.time call).phase
    (ap (λ (y : Work). partner t.w.what.peer y.phase) (fault_is (me t) t.w t.look.time call plain) ∙ fault_alone t.w.what.peer (me t) t.w t.w.part (side_of t.w) t.w.phase)

fault_on : (t : Turn) (peer : ℕ) → partner t.w.what.peer t.w.phase ≡ Some peer → (taken : Option FrameView) (call : Call) → is_plain call ≡ true → EvenMade t (quietly (Fault call (by_me t)) taken)
fault_on t peer on taken call plain = over_even t (quietly (Fault call (by_me t)) taken) (fault_of (me t) t.w t.look.time call).phase
    (λ l. fault_dead t.w.what.peer (me t) t.w t.w.part (side_of t.w) t.w.phase peer on (subst (λ (y : Work). IsLive y.phase) (fault_is (me t) t.w t.look.time call plain) l))

-- ---- the end

pub release_is : (b : Bool) (call : Call) → list_any (same_call call) (to_release b) ≡ true → call ≡ calls.Unhold
release_is true calls.Unhold e = refl
release_is true call e = absurd (cc)
release_is false call e = absurd (cc)

pub unreleased_alone : (target : Option ℕ) (w : Work) (time : ℕ) (phase : Phase) → partner target w.phase ≡ None → partner target (after_failed_release w time phase).phase ≡ None
unreleased_alone target w time AsksTime alone = refl
unreleased_alone target w time phase alone = alone

ends_even : (t : Turn) → partner t.w.what.peer t.w.phase ≡ None → IsLive t.w.phase → (outcome : Outcome) → EvenMade t (ends t None outcome)
ends_even t alone live outcome =
    let rest : Effect = record { kind = ends_job t.w.number outcome; taken = None; sent = farewells t (is_lost_ordered outcome); lines = []; calls = [] } in
    attempts_even (EvenMade t) t (to_release (owns_share t && not (is_lost_ordered outcome))) None rest
    (λ call e. subst (λ (c : Call). EvenMade t (quietly (Fault c (by_me t)) None)) (sym (release_is (owns_share t && not (is_lost_ordered outcome)) call e))
    (still_even t alone live (Fault calls.Unhold (by_me t)) (after_failed_release t.w t.look.time t.w.phase).phase (unreleased_alone t.w.what.peer t.w t.look.time t.w.phase alone))) tt

-- the end of a job that is to end
dead_even : (t : Turn) → (IsLive t.w.phase → ⊥) → (outcome : Outcome) → EvenMade t (ends t None outcome)
dead_even t dead outcome =
    let rest : Effect = record { kind = ends_job t.w.number outcome; taken = None; sent = farewells t (is_lost_ordered outcome); lines = []; calls = [] } in
    attempts_even (EvenMade t) t (to_release (owns_share t && not (is_lost_ordered outcome))) None rest
    (λ call e. subst (λ (c : Call). EvenMade t (quietly (Fault c (by_me t)) None)) (sym (release_is (owns_share t && not (is_lost_ordered outcome)) call e))
    (over_even t (quietly (Fault calls.Unhold (by_me t)) None) (after_failed_release t.w t.look.time t.w.phase).phase (still_dead t.w.phase refl))) tt
  where
    still_dead : (phase : Phase) → t.w.phase ≡ phase → IsLive (after_failed_release t.w t.look.time phase).phase → ⊥
    still_dead AsksTime is l = dead (subst IsLive (sym is) tt)
    still_dead phase is l = dead l

-- the work after a frame that is heard
pub took_listens : (x : Work) (body : FrameText) (m : Message) (phase : Phase) → line_in body ≡ Some m → x.phase ≡ phase → after_frame x body ≡ listens x phase m
took_listens x (Line text) m phase told is = ap (λ (o : Option Message). Jobs.after_line x o) told ∙ ap (λ (p : Phase). listens x p m) is
took_listens x Opening m phase told is = absurd (cc)
took_listens x Closing m phase told is = absurd (cc)
took_listens x (Bytes n) m phase told is = absurd (cc)

-- ---- what is said first on an open connection

answers_line : (body : FrameText) (m : Message) → line_in body ≡ Some m → answers_it (Some m) ≡ true → is_answering body ≡ true
answers_line (Line text) m told e = ap answers_it told ∙ e
answers_line Opening m told e = absurd (cc)
answers_line Closing m told e = absurd (cc)
answers_line (Bytes n) m told e = absurd (cc)

-- how a job asks a peer: after it took this
abbrev Asks : Turn → Option FrameView → ℕ → Type 0
Asks t taken peer = (kind : EntryKind) (m : Message) (next : Phase) → message_of (text_of m) ≡ Some m → asks_for (Some m) ≡ true
    → ((says (talker t taken) t.look.time peer (taken_message taken) m).phase ≡ next) → Stays t.w.what.peer next peer
    → awaits_of t.w.what.peer next peer ≡ true → LastIs (key_of t) t.w.what.peer next peer (Some (request t.look.time (Some m))) → Goes t (says_to t kind taken peer m)

lock_even : (t : Turn) (taken : Option FrameView) (peer : ℕ) → Speaks t → Asks t taken peer → EvenMade t (asks_lock t taken peer)
lock_even t taken peer speaks asker = asker (talk t) (LockContent (key_of t)) (AsksLock peer t.look.time) speaks.lock refl refl (inr refl) (awaits_true t.w.what.peer (AsksLock peer t.look.time) peer refl refl) (λ e. refl)

order_even : (t : Turn) (taken : Option FrameView) (deadline : Option ℕ) → t.w.what.peer ≡ Some (target t)
    → message_of (text_of (order_of deadline (key_of t))) ≡ Some (order_of deadline (key_of t)) → Asks t taken (target t) → EvenMade t (orders t taken deadline (order_of deadline (key_of t)))
order_even t taken None to back asker = asker (Order t.w.number (target t) None (need_now t) (key_of t)) (Remove (key_of t)) Jobs.Orders back refl refl (inr to)
    (awaits_true t.w.what.peer Jobs.Orders (target t) refl to) (λ e. (t.look.time, None, refl))
order_even t taken (Some n) to back asker = asker (Order t.w.number (target t) (Some n) (need_now t) (key_of t)) (RemoveBefore n (key_of t)) Jobs.Orders back refl refl (inr to)
    (awaits_true t.w.what.peer Jobs.Orders (target t) refl to) (λ e. (t.look.time, Some n, refl))

target_even : (t : Turn) (version : ℕ) (taken : Option FrameView) → Speaks t → t.w.what.peer ≡ Some (target t) → Asks t taken (target t) → EvenMade t (quietly (talk t) taken)
    → (end : Option ℕ) → EvenMade t (asks_target t version taken end)
target_even t version taken speaks to asker old None = order_even t taken None to speaks.remove asker
target_even t version taken speaks to asker old (Some end) =
    if_either (EvenMade t) (nat_lt version 3) (quietly (talk t) taken) (says_to t (talk t) taken (target t) GetTimestamp) (λ e. old)
    (λ e. asker (talk t) GetTimestamp AsksTime time_reads refl refl (inr to) (awaits_true t.w.what.peer AsksTime (target t) refl to) (λ e. (t.look.time, refl)))

copy_even : (t : Turn) (version : ℕ) (taken : Option FrameView) (peer : ℕ) → Speaks t → t.w.part ≡ Drops → Asks t taken peer → EvenMade t (quietly (talk t) taken)
    → (side : Side) → side_of t.w ≡ side → EvenMade t (asks_copy t version taken peer side)
copy_even t version taken peer speaks part asker old Local is = lock_even t taken peer speaks asker
copy_even t version taken peer speaks part asker old Remote is =
    if_either (EvenMade t) (target t == peer) (asks_target t version taken (first_end t)) (asks_lock t taken peer)
    (λ e. target_even t version taken speaks (speaks.to_target part is) (subst (Asks t taken) (sym (eqb-true (target t) peer e)) asker) old (first_end t))
    (λ e. lock_even t taken peer speaks asker)

first_asks : (t : Turn) (version : ℕ) (taken : Option FrameView) (peer : ℕ) → Speaks t → Asks t taken peer → EvenMade t (quietly (talk t) taken)
    → ((call : Call) → is_plain call ≡ true → EvenMade t (quietly (Fault call (by_me t)) taken)) → (part : Part) → t.w.part ≡ part → EvenMade t (asks t version taken peer part)
first_asks t version taken peer speaks asker old faults Gets is =
    attempts_even (EvenMade t) t (to_resume t.look.part) taken (says_to t (talk t) taken peer (Get t.look.part [] (key_of t))) (λ call e. faults call (resume_plain (nat_lt 0 t.look.part) call e))
    (asker (talk t) (Get t.look.part [] (key_of t)) (GetsData peer t.look.part) speaks.get refl refl (inr refl) (awaits_true t.w.what.peer (GetsData peer t.look.part) peer refl refl) (λ e. (t.look.time, refl)))
first_asks t version taken peer speaks asker old faults Puts is =
    asker (talk t) (Put [] (key_of t)) (PutsOffer peer) speaks.put refl refl (inr refl) (awaits_true t.w.what.peer (PutsOffer peer) peer refl refl) (λ e. (t.look.time, refl))
first_asks t version taken peer speaks asker old faults Drops is = copy_even t version taken peer speaks is asker old (side_of t.w) refl

-- ---- a job that stands on no connection

pub look_alone : (target : Option ℕ) (r : ℕ) (x : Work) (part : Part) (here : Bool) (bar : Option ℕ) → partner target (first_look r x part here bar).phase ≡ None
look_alone target r x Gets true bar = if_either (λ (y : Work). partner target y.phase ≡ None) (is_move x.what.kind) (record x { part = Drops; phase = Fresh; fills = false }) (record x { phase = Ends (Got None None); fills = false }) (λ e. refl) (λ e. refl)
look_alone target r x part here bar = refl

pub quiet_alone : (target : Option ℕ) (rows : RowsAndEnds) (r : ℕ) (x : Work) (phase : Phase) → partner target x.phase ≡ None → partner target (quiet rows r x phase).phase ≡ None
quiet_alone target rows r x Fresh alone = look_alone target r x x.part (rows.present x.what.key) (rows.bar x.what.key)
quiet_alone target rows r x Next alone = refl
quiet_alone target rows r x phase alone = alone

module _ (t : Turn) (alone : partner t.w.what.peer t.w.phase ≡ None) (live : IsLive t.w.phase) (speaks : Speaks t) where
  quiet_even : EvenMade t (quietly (talk t) None)
  quiet_even = subst (λ (p : Option ℕ). EvenTo t (quietly (talk t) None) (Jobs.talks_on (rows_of t) (me t) (talker t None) (made_entry t (quietly (talk t) None)) p).phase) (sym alone)
      (still_even t alone live (talk t) (quiet (rows_of t) (me t) (talker t None) (talker t None).phase).phase
      (quiet_alone t.w.what.peer (rows_of t) (me t) (talker t None) (talker t None).phase (ap (λ (p : Phase). partner t.w.what.peer p) (talker_phase t None) ∙ alone)))

  goes_to_even : (peer : ℕ) → EvenMade t (goes_to t peer)
  goes_to_even peer = if_either (EvenMade t) (end_with t peer).opened (asks t t.w.version None peer t.w.part) (sends_to t (talk t) None peer (Opening ∷ []))
      (λ e. first_asks t t.w.version None peer speaks (λ kind m next back asks goes stays now last. first_even t alone live kind peer m next e back asks goes stays now last) quiet_even
      (λ call plain. fault_even t alone live call plain) t.w.part refl)
      (λ e. opens_even t alone live (talk t) peer)

  bars_even : (refusal : Option DropRefusal) → EvenMade t (bars t refusal)
  bars_even (Some refusal) = ends_even t alone live (Refused refusal)
  bars_even None = still_even t alone live (Bar t.w.number (need_now t) (key_of t)) Next refl

  own_even : (here : Bool) (bar : Option ℕ) → EvenMade t (quietly (own_share (t.number) (clock_of t + hold_time) t.w.number (key_of t) (talk t) (by_me t) here bar) None)
  own_even true None = still_even t alone live (Share (t.number) (clock_of t + hold_time) (by_me t) (key_of t)) Next refl
  own_even true (Some j) = quiet_even
  own_even false bar = quiet_even

  tries_even : (standing : Standing) → EvenMade t (tries_own t standing)
  tries_even Asked = attempts_even (EvenMade t) t (to_hold (is_there t) (bar_there t)) None
      (quietly (own_share (t.number) (clock_of t + hold_time) t.w.number (key_of t) (talk t) (by_me t) (is_there t) (bar_there t)) None)
      (λ call e. fault_even t alone live call (hold_plain (is_there t) (bar_there t) call e)) (own_even (is_there t) (bar_there t))
  tries_even standing = quiet_even

  remote_even : (required : Option (List ℕ)) → EvenMade t (first_remote t required)
  remote_even (Some text) = ends_even t alone live (Refused (refusals.Required text))
  remote_even None = tries_even (t.read.standing (me t))

  drop_first : (side : Side) → EvenMade t (first_drop t side)
  drop_first Local = attempts_even (EvenMade t) t (calls.Has ∷ []) None (bars t (row_refusal (is_there t) (required_there t) (bar_there t) (held_until t)))
      (λ call e. fault_even t alone live call (plain_in call (calls.Has ∷ []) refl refl e)) (bars_even (row_refusal (is_there t) (required_there t) (bar_there t) (held_until t)))
  drop_first Remote = remote_even (required_there t)

  get_first : (here filled : Bool) (source : Option ℕ) → EvenMade t (first_get t here filled source)
  get_first true filled source = if_either (EvenMade t) (is_move t.w.what.kind) (quietly (talk t) None) (ends t None (Got None None)) (λ e. quiet_even) (λ e. ends_even t alone live (Got None None))
  get_first false true source = ends_even t alone live (TransferRefused failures.Busy)
  get_first false false None = quiet_even
  get_first false false (Some peer) = goes_to_even peer

  put_first : (here : Bool) (peer : Option ℕ) → EvenMade t (first_put t here peer)
  put_first true (Some peer) = goes_to_even peer
  put_first true None = ends_even t alone live (TransferRefused failures.NotHere)
  put_first false peer = ends_even t alone live (TransferRefused failures.NotHere)

  first_step_even : (part : Part) → EvenMade t (first_step t part)
  first_step_even Gets = attempts_even (EvenMade t) t (calls.Has ∷ []) None (first_get t (is_there t) (t.filled (key_of t)) (next_source t))
      (λ call e. fault_even t alone live call (plain_in call (calls.Has ∷ []) refl refl e)) (get_first (is_there t) (t.filled (key_of t)) (next_source t))
  first_step_even Puts = attempts_even (EvenMade t) t (calls.Has ∷ []) None (first_put t (is_there t) t.w.what.peer)
      (λ call e. fault_even t alone live call (plain_in call (calls.Has ∷ []) refl refl e)) (put_first (is_there t) t.w.what.peer)
  first_step_even Drops = drop_first (side_of t.w)

  removes_even : EvenMade t (removes t)
  removes_even = if_either (EvenMade t) (in_time (clock_of t) (first_end t)) (attempts t (calls.Remove ∷ []) None (quietly (Gone (by_me t) (key_of t)) None)) (ends t None (expiry (clock_of t) (first_end t)))
      (λ e. attempts_even (EvenMade t) t (calls.Remove ∷ []) None (quietly (Gone (by_me t) (key_of t)) None) (λ call h. fault_even t alone live call (plain_in call (calls.Remove ∷ []) refl refl h))
      (still_even t alone live (Gone (by_me t) (key_of t)) Removed refl))
      (λ e. ends_even t alone live (expiry (clock_of t) (first_end t)))

  judges_even : (enough : Bool) (next : Option ℕ) (side : Side) → EvenMade t (judges t enough next side)
  judges_even false (Some peer) side = goes_to_even peer
  judges_even false None side = ends_even t alone live (lacking_outcome t)
  judges_even true next Local = removes_even
  judges_even true next Remote = goes_to_even (target t)

  next_get_even : (source : Option ℕ) → EvenMade t (next_get t source)
  next_get_even None = ends_even t alone live (TransferRefused (failures.NoSource t.w.causes))
  next_get_even (Some peer) = goes_to_even peer

  next_step_even : (part : Part) → EvenMade t (next_step t part)
  next_step_even Drops = judges_even (enough_by t.read t.w) (next_by t.read t.w) (side_of t.w)
  next_step_even part = next_get_even (next_source t)

-- ---- a job that takes a frame of its partner

-- a phase on no connection awaits nothing
record Rests (t : Turn) (next : Phase) (peer : ℕ) : Type 0 where
  stays : Stays t.w.what.peer next peer
  now : awaits_of t.w.what.peer next peer ≡ false
  any : (l : Option Request) → LastIs (key_of t) t.w.what.peer next peer l

rests : (t : Turn) (next : Phase) (peer : ℕ) → partner t.w.what.peer next ≡ None → Rests t next peer
rests t next peer none = record {
  stays = inl none;
  now = awaits_none t.w.what.peer next peer none;
  any = λ l. last_away (key_of t) t.w.what.peer next peer l (none_is (partner t.w.what.peer next) peer none);
}

pub transferred_alone : (target : Option ℕ) (x : Work) (outcome : Outcome) → partner target (after_transfer x outcome).phase ≡ None
transferred_alone target x outcome =
    if_either (λ (y : Work). partner target y.phase ≡ None) (is_move x.what.kind) (record x { part = Drops; phase = Fresh; fills = false }) (record x { phase = Ends outcome; fills = false }) (λ e. refl) (λ e. refl)

same_other : (q : Counts) (body : FrameText) (m : Message) → line_in body ≡ Some m → answers_it (Some m) ≡ false → counts_takes q body ≡ q
same_other q (Line text) m told e = took_other q text m told e
same_other q Opening m told e = absurd (cc)
same_other q Closing m told e = absurd (cc)
same_other q (Bytes n) m told e = refl

-- a get that goes on
record Goes_on (t : Turn) (start : ℕ) (next : Phase) (peer : ℕ) : Type 0 where
  stays : Stays t.w.what.peer next peer
  now : awaits_of t.w.what.peer next peer ≡ true
  any : (l : Option Request) → AskedFrom (key_of t) start l → LastIs (key_of t) t.w.what.peer next peer l

more_gets : (t : Turn) (p peer start size left : ℕ) → Some p ≡ Some peer → Goes_on t start (gets_more p start size left) peer
more_gets t p peer start size left same = if_either (λ (x : Phase). Goes_on t start x peer) (left == 0) (GetsWord p start size) (GetsBytes p start size left)
    (λ e. record { stays = inr same; now = awaits_true t.w.what.peer (GetsWord p start size) peer refl same; any = λ l h e. h })
    (λ e. record { stays = inr same; now = awaits_true t.w.what.peer (GetsBytes p start size left) peer refl same; any = λ l h e. h })

more_puts : (t : Turn) (p peer start at left : ℕ) → Some p ≡ Some peer → Rests t (puts_more p start at left) peer
more_puts t p peer start at left same = if_either (λ (x : Phase). Rests t x peer) (left == 0) (PutsWord p start) (PutsBytes p start at left)
    (λ e. record { stays = inr same; now = refl; any = λ l e. absurd (true≢false (sym e)) }) (λ e. record { stays = inr same; now = refl; any = λ l e. absurd (true≢false (sym e)) })

module _ (t : Turn) (f : FrameView) (peer : ℕ) (x : Taking t f peer) (speaks : Speaks t) where
  -- after this phase and this message
  same_peer : (phase : Phase) → t.w.phase ≡ phase → partner t.w.what.peer phase ≡ Some peer
  same_peer phase is = subst (λ (p : Phase). partner t.w.what.peer p ≡ Some peer) is x.on

  heard_even : (phase : Phase) (m : Message) (next : Phase) → t.w.phase ≡ phase → line_in f.body ≡ Some m → answers_it (Some m) ≡ true
      → ((listens (talker t (Some f)) phase m).phase ≡ next) → partner t.w.what.peer next ≡ None → EvenMade t (hears t f)
  heard_even phase m next is told e goes none =
      let r = rests t next peer none in
      hears_even t (talk t) f peer x next (answers_line f.body m told e) (ap (λ (y : Work). y.phase) (took_listens (talker t (Some f)) f.body m phase told (talker_phase t (Some f) ∙ is)) ∙ goes) r.stays r.now r.any

  bad : EvenMade t (wrong_message t f peer)
  bad = wrong_even t (talk t) f peer x

  fault_here : (call : Call) → is_plain call ≡ true → EvenMade t (quietly (Fault call (by_me t)) (Some f))
  fault_here call plain = fault_on t peer x.on (Some f) call plain

  asker : (m : Message) → line_in f.body ≡ Some m → answers_it (Some m) ≡ true → Asks t (Some f) peer
  asker m told e = λ kind n next back asks goes stays now last. asks_even t kind f peer x n next (answers_line f.body m told e) back asks goes stays now last

  -- the release of its own share fails, as the timestamp comes too late
  late_even : (n : ℕ) (outcome : Outcome) → t.w.phase ≡ AsksTime → line_in f.body ≡ Some (Timestamp n) → EvenMade t (ends t (Some f) outcome)
  late_even n outcome is told =
      let rest : Effect = record { kind = ends_job t.w.number outcome; taken = Some f; sent = farewells t (is_lost_ordered outcome); lines = []; calls = [] } in
      attempts_even (EvenMade t) t (to_release (owns_share t && not (is_lost_ordered outcome))) (Some f) rest
      (λ call e. subst (λ (c : Call). EvenMade t (quietly (Fault c (by_me t)) (Some f))) (sym (release_is (owns_share t && not (is_lost_ordered outcome)) call e))
      (subst (λ (p : Phase). EvenTo t (quietly (Fault calls.Unhold (by_me t)) (Some f)) (after_failed_release t.w t.look.time p).phase) (sym is)
      (hears_to t (Fault calls.Unhold (by_me t)) f peer x (Late t.look.time) (answers_line f.body (Timestamp n) told refl) (inl refl) refl (λ l e. absurd (true≢false (sym e)))))) tt

  times_even : (n : ℕ) → nat_lt n (2 ^ 61) ≡ true → t.w.part ≡ Drops → side_of t.w ≡ Remote → t.w.phase ≡ AsksTime → line_in f.body ≡ Some (Timestamp n)
      → (end : Option ℕ) → first_end t ≡ end → EvenMade t (times t f n end)
  times_even n small part side is told end first = go end first
    where
      to : t.w.what.peer ≡ Some (target t)
      to = speaks.to_target part side

      asks_it : Asks t (Some f) (target t)
      asks_it =
          let e : Some peer ≡ Some (target t) = sym (same_peer AsksTime is) ∙ to in
          let same : peer ≡ target t = cc in
          subst (Asks t (Some f)) same (asker (Timestamp n) told refl)

      go : (end : Option ℕ) → first_end t ≡ end → EvenMade t (times t f n end)
      go None first = order_even t (Some f) None to speaks.remove asks_it
      go (Some end) first =
          let deadline = n + (end - clock_of t) / 1000 in
          if_either (EvenMade t) (nat_lt (clock_of t) end) (orders t (Some f) (Some deadline) (RemoveBefore deadline (key_of t))) (ends t (Some f) (Refused (refusals.Expired end (clock_of t))))
          (λ e. order_even t (Some f) (Some deadline) to (speaks.before n end small first e) asks_it)
          (λ e. late_even n (Refused (refusals.Expired end (clock_of t))) is told)

  time_even : (n : ℕ) → t.w.part ≡ Drops → t.w.phase ≡ AsksTime → line_in f.body ≡ Some (Timestamp n) → (side : Side) → side_of t.w ≡ side → EvenMade t (takes_time t f peer n side)
  time_even n part is told Local side = bad
  time_even n part is told Remote side = if_either (EvenMade t) (nat_lt n (2 ^ 61)) (times t f n (first_end t)) (wrong_message t f peer)
      (λ e. times_even n e part side is told (first_end t) refl) (λ e. bad)

  drop_even : t.w.part ≡ Drops → (phase : Phase) (m : Message) → t.w.phase ≡ phase → line_in f.body ≡ Some m → EvenMade t (takes_drop t f peer phase m)
  drop_even part (AsksLock p since) Success is told = heard_even (AsksLock p since) Success Next is told refl refl refl
  drop_even part (AsksLock p since) Failure is told =
      asker Failure told refl (talk t) (CheckPresent (key_of t)) (AsksLook peer) speaks.look refl refl (inr refl) (awaits_true t.w.what.peer (AsksLook peer) peer refl refl) (λ e. (t.look.time, refl))
  drop_even part (AsksLook p) Success is told = heard_even (AsksLook p) Success Next is told refl refl refl
  drop_even part (AsksLook p) Failure is told = heard_even (AsksLook p) Failure Next is told refl refl refl
  drop_even part AsksTime (Timestamp n) is told = time_even n part is told (side_of t.w) refl
  drop_even part Jobs.Orders Success is told = heard_even Jobs.Orders Success Removed is told refl refl refl
  drop_even part Jobs.Orders Failure is told = heard_even Jobs.Orders Failure Denied is told refl refl refl
  drop_even part phase m is told = bad

  -- VALID or INVALID that is refused
  refused_even : (p start size : ℕ) (m : Message) → t.w.phase ≡ GetsWord p start size → line_in f.body ≡ Some m → answers_it (Some m) ≡ true
      → EvenMade t (says_to t (talk t) (Some f) peer Failure)
  refused_even p start size m is told e = tells_even t (talk t) f peer x Failure Next (answers_line f.body m told e) failure_reads refl
      (ap (λ (q : Phase). (Jobs.word_taken (talker t (Some f)) (line_in f.body) q).phase) (talker_phase t (Some f) ∙ is)) (inl refl) refl (λ l e. absurd (true≢false (sym e)))

  gains_even : (p start size : ℕ) → t.w.phase ≡ GetsWord p start size → line_in f.body ≡ Some Valid → (right : Bool) → EvenMade t (gains t f peer size right)
  gains_even p start size is told true = subst (λ (q : Phase). EvenTo t (says_to t (Gain (by_me t) size (key_of t)) (Some f) peer Success) (Jobs.after_gain t.w q).phase) (sym is)
      (let r = rests t (after_transfer t.w (Got (Some p) (Some start))).phase peer (transferred_alone t.w.what.peer t.w (Got (Some p) (Some start))) in
      tells_to t (Gain (by_me t) size (key_of t)) f peer x Success (after_transfer t.w (Got (Some p) (Some start))).phase (answers_line f.body Valid told refl) success_reads refl r.stays r.now r.any)
  gains_even p start size is told false = refused_even p start size Valid is told refl

  get_even : (phase : Phase) (m : Message) → t.w.phase ≡ phase → line_in f.body ≡ Some m → EvenMade t (takes_get t f peer phase m)
  get_even (GetsData p start) (Data n) is told =
      let r = more_gets t p peer start start n (same_peer (GetsData p start) is) in
      keeps_even t (talk t) f peer x (gets_more p start start n) (λ q. same_other q f.body (Data n) told refl)
      (ap (λ (y : Work). y.phase) (took_listens (talker t (Some f)) f.body (Data n) (GetsData p start) told (talker_phase t (Some f) ∙ is))) r.stays r.now
      (λ l h. r.any l (subst (λ (q : Phase). LastIs (key_of t) t.w.what.peer q peer l) is h (same_Some p peer (same_peer (GetsData p start) is))))
  get_even (GetsWord p start size) Valid is told = attempts_even (EvenMade t) t (to_commit t.look.right) (Some f) (gains t f peer size t.look.right)
      (λ call e. fault_here call (commit_plain t.look.right call e)) (gains_even p start size is told t.look.right)
  get_even (GetsWord p start size) Invalid is told = refused_even p start size Invalid is told refl
  get_even phase m is told = bad

  from_even : (p n : ℕ) → t.w.phase ≡ PutsOffer p → line_in f.body ≡ Some (PutFrom n) → EvenMade t (puts_from t f peer n)
  from_even p n is told =
      let k = bytes_left (content_of t) n in
      let r = more_puts t peer peer n n k refl in
      attempts_even (EvenMade t) t (calls.Size ∷ []) (Some f) (if reaches (content_of t) n then says_to t (talk t) (Some f) peer (Data k) else wrong_message t f peer)
      (λ call e. fault_here call (plain_in call (calls.Size ∷ []) refl refl e))
      (if_either (EvenMade t) (reaches (content_of t) n) (says_to t (talk t) (Some f) peer (Data k)) (wrong_message t f peer)
      (λ e. tells_even t (talk t) f peer x (Data k) (puts_more peer n n k) (answers_line f.body (PutFrom n) told refl) (speaks.data' n) refl
      (ap (λ (o : Option Message). Jobs.put_from peer k o) told) r.stays r.now r.any) (λ e. bad))

  put_even : (phase : Phase) (m : Message) → t.w.phase ≡ phase → line_in f.body ≡ Some m → EvenMade t (takes_put t f peer phase m)
  put_even (PutsOffer p) AlreadyHave is told = heard_even (PutsOffer p) AlreadyHave (after_transfer (talker t (Some f)) (Copied None)).phase is told refl refl (transferred_alone t.w.what.peer (talker t (Some f)) (Copied None))
  put_even (PutsOffer p) Failure is told = heard_even (PutsOffer p) Failure (Ends (TransferRefused failures.Rejected)) is told refl refl refl
  put_even (PutsOffer p) (Error text) is told = if_either (EvenMade t) (bytes_eq text (codes "busy")) (hears t f) (wrong_message t f peer)
      (λ e. heard_even (PutsOffer p) (Error text) (Ends (TransferRefused failures.Busy)) is told e refl refl) (λ e. bad)
  put_even (PutsOffer p) (PutFrom n) is told = from_even p n is told
  put_even (PutsAnswer p start) Success is told = heard_even (PutsAnswer p start) Success (after_transfer (talker t (Some f)) (Copied (Some start))).phase is told refl refl (transferred_alone t.w.what.peer (talker t (Some f)) (Copied (Some start)))
  put_even (PutsAnswer p start) Failure is told = heard_even (PutsAnswer p start) Failure (Ends (TransferRefused failures.Rejected)) is told refl refl refl
  put_even phase m is told = bad

  answer_even : (phase : Phase) (m : Message) → t.w.phase ≡ phase → line_in f.body ≡ Some m → (part : Part) → t.w.part ≡ part → EvenMade t (takes_answer t f peer part phase m)
  answer_even phase m is told Gets part = get_even phase m is told
  answer_even phase m is told Puts part = put_even phase m is told
  answer_even phase m is told Drops part = drop_even part phase m is told

  takes_even : (phase : Phase) (m : Message) → t.w.phase ≡ phase → line_in f.body ≡ Some m → EvenMade t (takes t f peer phase m)
  takes_even (Opens p) (AuthSuccess id) is told =
      asker (AuthSuccess id) told refl (talk t) (Version 3) (Greets peer) speaks.version refl refl (inr refl) (awaits_true t.w.what.peer (Greets peer) peer refl refl) (λ e. refl)
  takes_even (Greets p) (Version n) is told = if_either (EvenMade t) (nat_le n 3) (asks t n (Some f) peer t.w.part) (wrong_message t f peer)
      (λ e. first_asks t n (Some f) peer speaks (asker (Version n) told refl) (heard_even (Greets p) (Version n) (Ends (Refused (refusals.OldProtocol n))) is told refl refl refl) fault_here t.w.part refl)
      (λ e. bad)
  takes_even phase m is told = answer_even phase m is told t.w.part refl

  text_even : (m : Option Message) → line_in f.body ≡ m → EvenMade t (takes_text t f peer m)
  text_even None told = bad
  text_even (Some m) told = takes_even t.w.phase m refl told

  bytes_taken : (n : ℕ) → f.body ≡ Bytes n → (phase : Phase) → t.w.phase ≡ phase → EvenMade t (takes_bytes t f peer n phase)
  bytes_taken n body (GetsBytes p start size left) is =
      let r = more_gets t p peer start (size + n) (left - n) (same_peer (GetsBytes p start size left) is) in
      if_either (EvenMade t) (nat_lt 0 n && nat_le n left) (attempts t (calls.Append ∷ []) (Some f) (quietly (talk t) (Some f))) (wrong_message t f peer)
      (λ e. attempts_even (EvenMade t) t (calls.Append ∷ []) (Some f) (quietly (talk t) (Some f)) (λ call h. fault_here call (plain_in call (calls.Append ∷ []) refl refl h))
      (keeps_even t (talk t) f peer x (gets_more p start (size + n) (left - n)) (λ q. ap (λ (b : FrameText). counts_takes q b) body)
      (ap (λ (b : FrameText). (after_frame (talker t (Some f)) b).phase) body ∙ ap (λ (q : Phase). Jobs.gets_bytes n q) (talker_phase t (Some f) ∙ is)) r.stays r.now
      (λ l h. r.any l (subst (λ (q : Phase). LastIs (key_of t) t.w.what.peer q peer l) is h (same_Some p peer (same_peer (GetsBytes p start size left) is))))))
      (λ e. bad)
  bytes_taken n body phase is = bad

  frame_even : (body : FrameText) → f.body ≡ body → EvenMade t (takes_frame t peer f body)
  frame_even Opening is = bad
  frame_even Closing is = shut_even t (talk t) f peer x is
  frame_even (Bytes n) is = bytes_taken n is t.w.phase refl
  frame_even (Line text) is = text_even (message_of text) (ap line_in is)

-- ---- the step

goes_alone : (t : Turn) → Speaks t → partner t.w.what.peer t.w.phase ≡ None → (phase : Phase) → t.w.phase ≡ phase → EvenMade t (goes t phase)
goes_alone t speaks alone Fresh is = first_step_even t alone (subst IsLive (sym is) tt) speaks t.w.part
goes_alone t speaks alone Next is = next_step_even t alone (subst IsLive (sym is) tt) speaks t.w.part
goes_alone t speaks alone (PutsBytes peer start at left) is = let e : Some peer ≡ None = subst (λ (p : Phase). partner t.w.what.peer p ≡ None) is alone in absurd (cc)
goes_alone t speaks alone (PutsWord peer start) is = let e : Some peer ≡ None = subst (λ (p : Phase). partner t.w.what.peer p ≡ None) is alone in absurd (cc)
goes_alone t speaks alone (Ends outcome) is = dead_even t (subst IsLive is) outcome
goes_alone t speaks alone phase is = ends_even t alone (subst IsLive (sym is) tt) (outcome_of t phase)

piece_even : (t : Turn) (peer start at left n : ℕ) → t.w.phase ≡ PutsBytes peer start at left → (end_with t peer).opened ≡ true → EvenMade t (puts_piece t peer at n)
piece_even t peer start at left n is opened =
    attempts_even (EvenMade t) t (calls.Read ∷ []) None (sends_to t (talk t) None peer ((if reaches (content_of t) (at + n) then Bytes n else Closing) ∷ []))
    (λ call e. fault_on t peer on None call (plain_in call (calls.Read ∷ []) refl refl e)) (go (reaches (content_of t) (at + n)))
  where
    on : partner t.w.what.peer t.w.phase ≡ Some peer
    on = ap (λ (p : Phase). partner t.w.what.peer p) is

    go : (b : Bool) → EvenMade t (sends_to t (talk t) None peer ((if b then Bytes n else Closing) ∷ []))
    go false = closes_even t (talk t) peer on
    go true =
        let r = more_puts t peer peer start (at + n) (left - n) refl in
        bytes_even t (talk t) peer on n (puts_more peer start (at + n) (left - n)) opened (ap (λ (q : Phase). Jobs.puts_bytes n q) (talker_phase t None ∙ is)) r.stays
        (awaits_not t.w.what.peer t.w.phase peer (ap is_awaiting is)) r.now r.any

word_even : (t : Turn) (peer start : ℕ) → t.w.phase ≡ PutsWord peer start → (end_with t peer).opened ≡ true → EvenMade t (says_to t (talk t) None peer Valid)
word_even t peer start is opened =
    sends_even t (talk t) peer (ap (λ (p : Phase). partner t.w.what.peer p) is) Valid (PutsAnswer peer start) opened (awaits_not t.w.what.peer t.w.phase peer (ap is_awaiting is)) valid_reads refl
    (ap (λ (q : Phase). Jobs.puts_answer q) (talker_phase t None ∙ is)) (inr refl) (awaits_true t.w.what.peer (PutsAnswer peer start) peer refl refl) (λ e. (t.look.time, refl))

-- a job that sends what it awaits no answer to
goes_on_even : (t : Turn) (peer : ℕ) → partner t.w.what.peer t.w.phase ≡ Some peer → (end_with t peer).opened ≡ true → is_awaiting t.w.phase ≡ false
    → (phase : Phase) → t.w.phase ≡ phase → EvenMade t (goes t phase)
goes_on_even t peer on opened idle (PutsBytes p start at left) is =
    let e : Some p ≡ Some peer = subst (λ (q : Phase). partner t.w.what.peer q ≡ Some peer) is on in
    let same : peer ≡ p = cc in
    piece_even t p start at left (min 32768 left) is (subst (λ n. (end_with t n).opened ≡ true) same opened)
goes_on_even t peer on opened idle (PutsWord p start) is =
    let e : Some p ≡ Some peer = subst (λ (q : Phase). partner t.w.what.peer q ≡ Some peer) is on in
    let same : peer ≡ p = cc in
    word_even t p start is (subst (λ n. (end_with t n).opened ≡ true) same opened)
goes_on_even t peer on opened idle phase is = absurd (true≢false (subst (λ (q : Phase). is_awaiting q ≡ false) is idle))

on_even : (t : Turn) (m : Effect) → EvenMade t (goes t t.w.phase) → goes_on t ≡ Some m → EvenMade t m
on_even t m even e = go (list_all (has_room t) (needs t t.w.phase)) e
  where
    go : (b : Bool) → (if b then Some (goes t t.w.phase) else None) ≡ Some m → EvenMade t m
    go true g = let same : goes t t.w.phase ≡ m = cc in subst (EvenMade t) same even
    go false g = absurd (cc)

wait_even : (t : Turn) (peer : ℕ) (m : Effect) → Speaks t → partner t.w.what.peer t.w.phase ≡ Some peer → is_awaiting t.w.phase ≡ true → (end_with t peer).opened ≡ true
    → (f : Option FrameView) → waiting_frame (end_with t peer) t.look (job_end t.w peer) ≡ f → awaits t peer f ≡ Some m → EvenMade t m
wait_even t peer m speaks on awaiting opened None is e = absurd (cc)
wait_even t peer m speaks on awaiting opened (Some f) is e = go (has_room t peer) e
  where
    go : (b : Bool) → (if b then Some (takes_frame t peer f f.body) else None) ≡ Some m → EvenMade t m
    go false g = absurd (cc)
    go true g =
        let same : takes_frame t peer f f.body ≡ m = cc in
        let was = find_member (λ g. takes_at (job_end t.w peer) g && may_take (end_with t peer) g) t.look.at_hand f is in
        let both = and_parts (takes_at (job_end t.w peer) f) (may_take (end_with t peer) f) was.1 in
        subst (EvenMade t) same (frame_even t f peer (record { on = on; awaiting = awaiting; opened = opened; of_end = both.0 }) speaks f.body refl)

with_even : (t : Turn) (peer : ℕ) (m : Effect) → Speaks t → partner t.w.what.peer t.w.phase ≡ Some peer → (b : Bool) → (end_with t peer).opened ≡ b → with_partner t peer b ≡ Some m → EvenMade t m
with_even t peer m speaks on false opened e = let same : quietly (talk t) None ≡ m = cc in subst (EvenMade t) same (lost_even t (talk t) peer on opened)
with_even t peer m speaks on true opened e = go (is_awaiting t.w.phase) refl e
  where
    go : (b : Bool) → is_awaiting t.w.phase ≡ b → (if b then awaits t peer (waiting_frame (end_with t peer) t.look (job_end t.w peer)) else goes_on t) ≡ Some m → EvenMade t m
    go true awaiting g = wait_even t peer m speaks on awaiting opened (waiting_frame (end_with t peer) t.look (job_end t.w peer)) refl g
    go false idle g = on_even t m (goes_on_even t peer on opened idle t.w.phase refl) g

pub partner_even : (t : Turn) (m : Effect) → Speaks t → (p : Option ℕ) → partner t.w.what.peer t.w.phase ≡ p → by_partner t p ≡ Some m → EvenMade t m
partner_even t m speaks None on e = on_even t m (goes_alone t speaks on t.w.phase refl) e
partner_even t m speaks (Some peer) on e = with_even t peer m speaks on (end_with t peer).opened refl e
