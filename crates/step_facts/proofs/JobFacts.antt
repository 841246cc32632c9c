-- What a job found, by the kind of the entry that it makes.
use Rattle.node_model.specs.Clocks.{hold_time}
use Rattle.std.proofs.Common.{◌≡◌, ℕ, ◌+◌, ◌-◌, ◌/◌, ◌^◌, Bool, true, false, List, [], ◌∷◌, Option, Some, None, ◌⊎◌, inl, inr, refl, sym, ap, subst}
use Rattle.std.specs.Prelude.{if◌then◌else◌, ◌==◌, ◌&&◌, not, min, nat_lt, nat_le, bytes_eq, codes, find}
use Rattle.std.specs.List.{list_all}
use Rattle.std.proofs.lemmas.Bool.{and_parts}
use Rattle.annex_base.specs.declared.kinds.Call.{Call}
use Rattle.annex_base.proofs.Lists.{find_member}
use Rattle.annex_base.proofs.Conditions.{if_either}
use Rattle.annex_base.specs.declared.kinds.Call.TheVariants as calls
use Rattle.annex_base.proofs.Options.{first_some-was}
use Rattle.drop_proof.specs.declared.rule.Side.{Side}
use Rattle.drop_proof.specs.declared.rule.Side.TheVariants.{Local, Remote}
use Rattle.run_data.specs.declared.entry.EntryKind.TheVariants.{Fault, Gone, End as ends_job}
use Rattle.run_data.specs.declared.entry.FrameView.{FrameView}
use Rattle.run_data.specs.declared.entry.FrameText.{FrameText}
use Rattle.run_data.specs.declared.entry.FrameText.TheVariants.{Opening, Closing, Bytes, Line}
use Rattle.run_data.specs.declared.job.Outcome.{Outcome}
use Rattle.run_data.specs.declared.job.Outcome.TheVariants.{Got, Refused, TransferRefused}
use Rattle.run_data.specs.declared.job.DropRefusal.TheVariants as refusals
use Rattle.run_data.specs.declared.job.TransferRefusal.TheVariants as failures
use Rattle.node_model.specs.Rows.{is_lost_ordered}
use Rattle.node_model.specs.State.{State}
use Rattle.node_model.specs.Evidence.{Standing, Asked}
use Rattle.node_model.specs.SetUp.{SetUp, slots}
use Rattle.node_model.specs.Ends.{may_take, takes_at}
use Rattle.p2p_wire.specs.declared.message.Message.{Message}
use Rattle.p2p_wire.specs.declared.message.Message.TheVariants.{AuthSuccess, Version, CheckPresent, LockContent, RemoveBefore, GetTimestamp, Timestamp, Get, Put, PutFrom, AlreadyHave, Data, Valid, Invalid, Success, Failure, Error}
use Rattle.p2p_wire.specs.Messages.{order_of, message_of, text_of}
use Rattle.node_model.specs.Sessions.{line_in, reaches}
use Rattle.node_model.specs.Jobs
use Rattle.node_model.specs.Jobs.{Part, Gets, Puts, Drops, Phase, Fresh, Next, Opens, Greets, GetsData, GetsBytes, GetsWord, PutsOffer, PutsBytes, PutsWord, PutsAnswer, AsksLock, AsksLook, AsksTime, is_move, Work, job_end, partner, side_of}
use Rattle.node_model.specs.Calls.{to_commit, to_hold, to_release, to_resume}
use Rattle.node_model.specs.Look.{Look, Effect, failing_call, waiting_frame}
use Rattle.node_model.specs.SessionStep.{bytes_left}
use Rattle.node_model.specs.Knows.{enough_by, next_by}
use Rattle.node_model.specs.JobStep.{Turn, hears, turn_of, attempts, bar_there, by_me, clock_of, end_with, ends, farewells, is_there, key_of, me, owns_share, quietly, says_to, sends_to, talk, wrong_message}
use Rattle.node_model.specs.DropStep.{takes_drop, takes_time, asks_copy, asks_lock, asks_target, bars, expiry, first_drop, first_end, first_remote, held_until, in_time, lacking_outcome, orders, own_share, removes, required_there, row_refusal, shares, target, times, tries_own}
use Rattle.node_model.specs.Requests.{asks, goes_to}
use Rattle.node_model.specs.TransferStep.{takes_get, takes_put, content_of, first_get, first_put, gains, next_get, next_source, puts_from, puts_piece, takes_bytes}
use Rattle.node_model.specs.Turns.{takes_answer, awaits, by_partner, goes_on, has_room, job_step, needs, slot_step, with_partner, is_awaiting, first_step, goes, judges, next_step, outcome_of, takes, takes_frame, takes_text}
use Rattle.node_model.specs.Found.{ByJob, FirstLocal, HasDeadline, IsAsked, JobFound, IsJobEntry, JobTakes, FindsOutcome, HasOutcome}
use Rattle.step_facts.proofs.Cases.{TakesAtHand, takes_none, takes_one, unless_found}

-- ---- what all jobs share

attempts_found : (t : Turn) (cs : List Call) (taken : Option FrameView) (m : Effect) → JobFound t taken m → JobFound t taken (attempts t cs taken m)
attempts_found t cs taken m g = unless_found (JobFound t taken) (failing_call t.look.fails cs) (λ call. quietly (Fault call (by_me t)) taken) m (λ call. (refl, (refl, refl))) g

quiet_found : (t : Turn) (taken : Option FrameView) → JobFound t taken (quietly (talk t) taken)
quiet_found t taken = (refl, (refl, inl refl))

sends_found : (t : Turn) (taken : Option FrameView) (peer : ℕ) (body : FrameText) → IsAsked body → JobFound t taken (sends_to t (talk t) taken peer (body ∷ []))
sends_found t taken peer body asked = (refl, (refl, inr (peer, body, refl, asked)))

wrong_found : (t : Turn) (f : FrameView) (peer : ℕ) → JobFound t (Some f) (wrong_message t f peer)
wrong_found t f peer = sends_found t (Some f) peer Closing tt

ends_found : (t : Turn) (taken : Option FrameView) (outcome : Outcome) → FindsOutcome t taken outcome ⊎ HasOutcome t taken outcome → JobFound t taken (ends t taken outcome)
ends_found t taken outcome why =
    let good : Effect = record { kind = ends_job t.w.number outcome; taken = taken; sent = farewells t (is_lost_ordered outcome); lines = []; calls = [] } in
    attempts_found t (to_release (owns_share t && not (is_lost_ordered outcome))) taken good (refl, record { number_is = refl; why = why; sent_is = refl })

-- ---- drops

bars_found : (t : Turn) → FirstLocal t → (here : Bool) (required : Option (List ℕ)) (bar : Option ℕ) (held : Option (Option ℕ))
    → is_there t ≡ here → required_there t ≡ required → bar_there t ≡ bar → held_until t ≡ held → JobFound t None (bars t (row_refusal here required bar held))
bars_found t first false required bar held there wanted free unheld = ends_found t None (Refused refusals.NotPresent) (inl (first, there))
bars_found t first true (Some text) bar held there wanted free unheld = ends_found t None (Refused (refusals.Required text)) (inl (first.part_is, first.first, wanted))
bars_found t first true None (Some j) held there wanted free unheld = ends_found t None (Refused (refusals.Barred j)) (inl (first, there, free))
bars_found t first true None None (Some end) there wanted free unheld = ends_found t None (Refused (refusals.Held end)) (inl (first, there, free, unheld))
bars_found t first true None None None there wanted free unheld = (
  refl,
  record {
    part_is = first.part_is;
    first = first.first;
    side = first.side;
    there = there;
    free = free;
    unheld = unheld;
    spared = wanted;
    number_is = refl;
    need_is = refl;
    key_is = refl;
    takes_none = refl;
    sends_none = refl;
  },
)

shares_found : (t : Turn) → t.w.part ≡ Drops → t.w.phase ≡ Fresh → side_of t.w ≡ Remote → t.read.standing (me t) ≡ Asked → JobFound t None (shares t)
shares_found t part first side asked =
    attempts_found t (to_hold (is_there t) (bar_there t)) None (made_of (is_there t) (bar_there t)) (go (is_there t) (bar_there t) refl refl)
  where
    made_of : Bool → Option ℕ → Effect
    made_of here bar = quietly (own_share (t.number) (clock_of t + hold_time) t.w.number (key_of t) (talk t) (by_me t) here bar) None

    go : (here : Bool) (bar : Option ℕ) → is_there t ≡ here → bar_there t ≡ bar → JobFound t None (made_of here bar)
    go false bar there free = quiet_found t None
    go true (Some j) there free = quiet_found t None
    go true None there free = (
      refl,
      record {
        part_is = part;
        first = first;
        side = side;
        asked = asked;
        there = there;
        free = free;
        hold_is = refl;
        end_is = refl;
        by_is = refl;
        key_is = refl;
        takes_none = refl;
        sends_none = refl;
      },
    )

own_found : (t : Turn) → t.w.part ≡ Drops → t.w.phase ≡ Fresh → side_of t.w ≡ Remote → (standing : Standing) → t.read.standing (me t) ≡ standing
    → JobFound t None (tries_own t standing)
own_found t part first side Asked is = shares_found t part first side is
own_found t part first side standing is = quiet_found t None

remote_found : (t : Turn) → t.w.part ≡ Drops → t.w.phase ≡ Fresh → side_of t.w ≡ Remote → (required : Option (List ℕ)) → required_there t ≡ required
    → JobFound t None (first_remote t required)
remote_found t part first side (Some text) is = ends_found t None (Refused (refusals.Required text)) (inl (part, first, is))
remote_found t part first side None is = own_found t part first side (t.read.standing (me t)) refl

first_drop_found : (t : Turn) → t.w.part ≡ Drops → t.w.phase ≡ Fresh → (side : Side) → side_of t.w ≡ side → JobFound t None (first_drop t side)
first_drop_found t part first Local side =
    attempts_found t (calls.Has ∷ []) None (bars t (row_refusal (is_there t) (required_there t) (bar_there t) (held_until t)))
    (bars_found t (record { part_is = part; first = first; side = side }) (is_there t) (required_there t) (bar_there t) (held_until t) refl refl refl refl)
first_drop_found t part first Remote side = remote_found t part first side (required_there t) refl

orders_found : (t : Turn) (taken : Option FrameView) (deadline : Option ℕ) → t.w.part ≡ Drops → side_of t.w ≡ Remote
    → HasDeadline t taken deadline → JobFound t taken (orders t taken deadline (order_of deadline (key_of t)))
orders_found t taken deadline part side timed = (
  refl,
  record {
    part_is = part;
    side = side;
    number_is = refl;
    target_is = refl;
    need_is = refl;
    key_is = refl;
    timed = timed;
    sent_is = refl;
  },
)

target_found : (t : Turn) (version : ℕ) (taken : Option FrameView) → t.w.part ≡ Drops → side_of t.w ≡ Remote → (end : Option ℕ) → first_end t ≡ end → JobFound t taken (asks_target t version taken end)
target_found t version taken part side None is = orders_found t taken None part side is
target_found t version taken part side (Some end) is =
    if_either (JobFound t taken) (nat_lt version 3) (quietly (talk t) taken) (says_to t (talk t) taken (target t) GetTimestamp)
    (λ e. quiet_found t taken) (λ e. sends_found t taken (target t) (Line (text_of GetTimestamp)) (GetTimestamp, refl, tt))

lock_found : (t : Turn) (taken : Option FrameView) (peer : ℕ) → JobFound t taken (asks_lock t taken peer)
lock_found t taken peer = sends_found t taken peer (Line (text_of (LockContent (key_of t)))) (LockContent (key_of t), refl, tt)

copy_found : (t : Turn) (version : ℕ) (taken : Option FrameView) (peer : ℕ) → t.w.part ≡ Drops → (side : Side) → side_of t.w ≡ side → JobFound t taken (asks_copy t version taken peer side)
copy_found t version taken peer part Local side = lock_found t taken peer
copy_found t version taken peer part Remote side =
    if_either (JobFound t taken) (target t == peer) (asks_target t version taken (first_end t)) (asks_lock t taken peer)
    (λ e. target_found t version taken part side (first_end t) refl) (λ e. lock_found t taken peer)

asks_found : (t : Turn) (version : ℕ) (taken : Option FrameView) (peer : ℕ) (part : Part) → t.w.part ≡ part → JobFound t taken (asks t version taken peer part)
asks_found t version taken peer Gets part =
    attempts_found t (to_resume t.look.part) taken (says_to t (talk t) taken peer (Get t.look.part [] (key_of t)))
    (sends_found t taken peer (Line (text_of (Get t.look.part [] (key_of t)))) (Get t.look.part [] (key_of t), refl, tt))
asks_found t version taken peer Puts part = sends_found t taken peer (Line (text_of (Put [] (key_of t)))) (Put [] (key_of t), refl, tt)
asks_found t version taken peer Drops part = copy_found t version taken peer part (side_of t.w) refl

goes_to_found : (t : Turn) (peer : ℕ) → JobFound t None (goes_to t peer)
goes_to_found t peer =
    if_either (JobFound t None) (end_with t peer).opened (asks t t.w.version None peer t.w.part) (sends_to t (talk t) None peer (Opening ∷ []))
    (λ e. asks_found t t.w.version None peer t.w.part refl) (λ e. sends_found t None peer Opening tt)

-- ---- what a drop judges

gone_found : (t : Turn) → t.w.part ≡ Drops → t.w.phase ≡ Next → side_of t.w ≡ Local → enough_by t.read t.w ≡ true → JobFound t None (removes t)
gone_found t part next side enough =
    if_either (JobFound t None) (in_time (clock_of t) (first_end t)) (attempts t (calls.Remove ∷ []) None (quietly (Gone (by_me t) (key_of t)) None)) (ends t None (expiry (clock_of t) (first_end t)))
    (λ e. attempts_found t (calls.Remove ∷ []) None (quietly (Gone (by_me t) (key_of t)) None) (
      refl,
      record {
        part_is = part;
        next = next;
        side = side;
        enough = enough;
        in_time = e;
        by_is = refl;
        key_is = refl;
        takes_none = refl;
        sends_none = refl;
      },
    ))
    (λ e. ends_found t None (expiry (clock_of t) (first_end t)) (inl (late (first_end t) refl e)))
  where
    late : (end : Option ℕ) → first_end t ≡ end → in_time (clock_of t) end ≡ false → FindsOutcome t None (expiry (clock_of t) end)
    late None is e = absurd (cc)
    late (Some end) is e = record { part_is = part; first_is = is; clock_is = refl; late = e; judges = inl (next, side, refl) }

judges_found : (t : Turn) → t.w.part ≡ Drops → t.w.phase ≡ Next → (enough : Bool) (next : Option ℕ) (side : Side)
    → enough_by t.read t.w ≡ enough → next_by t.read t.w ≡ next → side_of t.w ≡ side → JobFound t None (judges t enough next side)
judges_found t part phase false (Some peer) side enough next is = goes_to_found t peer
judges_found t part phase false None side enough next is =
    ends_found t None (lacking_outcome t) (inl (record { part_is = part; next = phase; wants = enough; last = next; proof_is = refl; causes_are = refl }))
judges_found t part phase true next Local enough asked is = gone_found t part phase is enough
judges_found t part phase true next Remote enough asked is = goes_to_found t (target t)

-- ---- transfers

first_get_found : (t : Turn) → t.w.part ≡ Gets → t.w.phase ≡ Fresh → (here filled : Bool) (source : Option ℕ) → is_there t ≡ here → t.filled (key_of t) ≡ filled
    → JobFound t None (first_get t here filled source)
first_get_found t part first true filled source there is =
    if_either (JobFound t None) (is_move t.w.what.kind) (quietly (talk t) None) (ends t None (Got None None))
    (λ e. quiet_found t None) (λ e. ends_found t None (Got None None) (inl (part, first, there)))
first_get_found t part first false true source there is = ends_found t None (TransferRefused failures.Busy) (inl (part, first, there, is))
first_get_found t part first false false None there is = quiet_found t None
first_get_found t part first false false (Some peer) there is = goes_to_found t peer

first_put_found : (t : Turn) → t.w.part ≡ Puts → t.w.phase ≡ Fresh → (here : Bool) (peer : Option ℕ) → is_there t ≡ here → t.w.what.peer ≡ peer → JobFound t None (first_put t here peer)
first_put_found t part first true (Some peer) there is = goes_to_found t peer
first_put_found t part first true None there is = ends_found t None (TransferRefused failures.NotHere) (inl (part, first, inr is))
first_put_found t part first false peer there is = ends_found t None (TransferRefused failures.NotHere) (inl (part, first, inl there))

next_get_found : (t : Turn) → t.w.phase ≡ Next → (source : Option ℕ) → next_source t ≡ source → JobFound t None (next_get t source)
next_get_found t next None is = ends_found t None (TransferRefused (failures.NoSource t.w.causes)) (inl (next, is, refl))
next_get_found t next (Some peer) is = goes_to_found t peer

piece_found : (t : Turn) (peer at n : ℕ) → JobFound t None (puts_piece t peer at n)
piece_found t peer at n =
    attempts_found t (calls.Read ∷ []) None (sends_to t (talk t) None peer ((if reaches (content_of t) (at + n) then Bytes n else Closing) ∷ []))
    (sends_found t None peer (if reaches (content_of t) (at + n) then Bytes n else Closing) (go (reaches (content_of t) (at + n))))
  where
    go : (b : Bool) → IsAsked (if b then Bytes n else Closing)
    go true = tt
    go false = tt

from_found : (t : Turn) (f : FrameView) (peer n : ℕ) → JobFound t (Some f) (puts_from t f peer n)
from_found t f peer n =
    let m = Data (bytes_left (content_of t) n) in
    let good = if reaches (content_of t) n then says_to t (talk t) (Some f) peer m else wrong_message t f peer in
    attempts_found t (calls.Size ∷ []) (Some f) good
    (if_either (JobFound t (Some f)) (reaches (content_of t) n) (says_to t (talk t) (Some f) peer m) (wrong_message t f peer)
    (λ e. sends_found t (Some f) peer (Line (text_of m)) (m, refl, tt)) (λ e. wrong_found t f peer))

gains_found : (t : Turn) (f : FrameView) (peer start size : ℕ) → t.w.phase ≡ GetsWord peer start size → line_in f.body ≡ Some Valid
    → (right : Bool) → t.look.right ≡ right → JobFound t (Some f) (gains t f peer size right)
gains_found t f peer start size phase word true is = (
  refl,
  record {
    peer = peer;
    start = start;
    phase_is = phase;
    f = f;
    taken_is = refl;
    word = word;
    right = is;
    by_is = refl;
    key_is = refl;
    sent_is = refl;
  },
)
gains_found t f peer start size phase word false is = sends_found t (Some f) peer (Line (text_of Failure)) (Failure, refl, tt)

-- ---- the steps that take no frame

first_found : (t : Turn) → t.w.phase ≡ Fresh → (part : Part) → t.w.part ≡ part → JobFound t None (first_step t part)
first_found t first Gets part =
    attempts_found t (calls.Has ∷ []) None (first_get t (is_there t) (t.filled (key_of t)) (next_source t))
    (first_get_found t part first (is_there t) (t.filled (key_of t)) (next_source t) refl refl)
first_found t first Puts part =
    attempts_found t (calls.Has ∷ []) None (first_put t (is_there t) t.w.what.peer) (first_put_found t part first (is_there t) t.w.what.peer refl refl)
first_found t first Drops part = first_drop_found t part first (side_of t.w) refl

next_found : (t : Turn) → t.w.phase ≡ Next → (part : Part) → t.w.part ≡ part → JobFound t None (next_step t part)
next_found t next Drops part = judges_found t part next (enough_by t.read t.w) (next_by t.read t.w) (side_of t.w) refl refl refl
next_found t next part is = next_get_found t next (next_source t) refl

-- the job stands on no connection, or on one where it awaits nothing
abbrev pub Goes : Turn → Phase → Type 0
Goes t phase = (partner t.w.what.peer phase ≡ None) ⊎ (is_awaiting phase ≡ false)

settled : (t : Turn) (phase : Phase) → t.w.phase ≡ phase → partner t.w.what.peer phase ≡ None → JobFound t None (ends t None (outcome_of t phase))
settled t phase is none = ends_found t None (outcome_of t phase)
    (inr (record { alone = subst (λ p. partner t.w.what.peer p ≡ None) (sym is) none; takes_none = refl; outcome_is = ap (outcome_of t) (sym is) }))

pub goes_found : (t : Turn) (phase : Phase) → t.w.phase ≡ phase → Goes t phase → JobFound t None (goes t phase)
goes_found t Fresh is free = first_found t is t.w.part refl
goes_found t Next is free = next_found t is t.w.part refl
goes_found t (PutsBytes peer start at left) is free = piece_found t peer at (min 32768 left)
goes_found t (PutsWord peer start) is free = sends_found t None peer (Line (text_of Valid)) (Valid, refl, tt)
goes_found t phase is (inl none) = settled t phase is none
goes_found t phase is (inr e) = absurd (cc)

-- ---- the steps that take a frame

times_found : (t : Turn) (f : FrameView) (n : ℕ) → t.w.part ≡ Drops → side_of t.w ≡ Remote → t.w.phase ≡ AsksTime → line_in f.body ≡ Some (Timestamp n)
    → (end : Option ℕ) → first_end t ≡ end → JobFound t (Some f) (times t f n end)
times_found t f n part side phase told None is = orders_found t (Some f) None part side is
times_found t f n part side phase told (Some end) is =
    let deadline = n + (end - clock_of t) / 1000 in
    if_either (JobFound t (Some f)) (nat_lt (clock_of t) end) (orders t (Some f) (Some deadline) (RemoveBefore deadline (key_of t)))
    (ends t (Some f) (Refused (refusals.Expired end (clock_of t))))
    (λ e. orders_found t (Some f) (Some deadline) part side (f, refl, phase, (n, end, told, is, e, refl)))
    (λ e. ends_found t (Some f) (Refused (refusals.Expired end (clock_of t)))
    (inl (record { part_is = part; first_is = is; clock_is = refl; late = e; judges = inr (side, phase) })))

time_found : (t : Turn) (f : FrameView) (peer n : ℕ) → t.w.part ≡ Drops → t.w.phase ≡ AsksTime → line_in f.body ≡ Some (Timestamp n)
    → (side : Side) → side_of t.w ≡ side → JobFound t (Some f) (takes_time t f peer n side)
time_found t f peer n part phase told Local side = wrong_found t f peer
time_found t f peer n part phase told Remote side =
    if_either (JobFound t (Some f)) (nat_lt n (2 ^ 61)) (times t f n (first_end t)) (wrong_message t f peer)
    (λ e. times_found t f n part side phase told (first_end t) refl) (λ e. wrong_found t f peer)

hears_found : (t : Turn) (f : FrameView) → JobFound t (Some f) (hears t f)
hears_found t f = quiet_found t (Some f)

bytes_found : (t : Turn) (f : FrameView) (peer n : ℕ) (phase : Phase) → JobFound t (Some f) (takes_bytes t f peer n phase)
bytes_found t f peer n (GetsBytes p start size left) =
    if_either (JobFound t (Some f)) (nat_lt 0 n && nat_le n left) (attempts t (calls.Append ∷ []) (Some f) (quietly (talk t) (Some f))) (wrong_message t f peer)
    (λ e. attempts_found t (calls.Append ∷ []) (Some f) (quietly (talk t) (Some f)) (quiet_found t (Some f))) (λ e. wrong_found t f peer)
bytes_found t f peer n phase = wrong_found t f peer

drop_found : (t : Turn) (f : FrameView) (peer : ℕ) → t.w.part ≡ Drops → (phase : Phase) (m : Message) → t.w.phase ≡ phase → line_in f.body ≡ Some m
    → JobFound t (Some f) (takes_drop t f peer phase m)
drop_found t f peer part (AsksLock p since) Success is told = hears_found t f
drop_found t f peer part (AsksLock p since) Failure is told =
    sends_found t (Some f) peer (Line (text_of (CheckPresent (key_of t)))) (CheckPresent (key_of t), refl, tt)
drop_found t f peer part (AsksLook p) Success is told = hears_found t f
drop_found t f peer part (AsksLook p) Failure is told = hears_found t f
drop_found t f peer part AsksTime (Timestamp n) is told = time_found t f peer n part is told (side_of t.w) refl
drop_found t f peer part Jobs.Orders Success is told = hears_found t f
drop_found t f peer part Jobs.Orders Failure is told = hears_found t f
drop_found t f peer part phase m is told = wrong_found t f peer

get_found : (t : Turn) (f : FrameView) (peer : ℕ) → partner t.w.what.peer t.w.phase ≡ Some peer → (phase : Phase) (m : Message) → t.w.phase ≡ phase → line_in f.body ≡ Some m
    → JobFound t (Some f) (takes_get t f peer phase m)
get_found t f peer on (GetsData p start) (Data n) is told = hears_found t f
get_found t f peer on (GetsWord p start size) Valid is told = gains_at t.w.what.peer on is
  where
    gains_at : (what : Option ℕ) → partner t.w.what.peer t.w.phase ≡ Some peer → t.w.phase ≡ GetsWord p start size
        → JobFound t (Some f) (attempts t (to_commit t.look.right) (Some f) (gains t f peer size t.look.right))
    gains_at what on is =
        let same : Some p ≡ Some peer = subst (λ x. partner t.w.what.peer x ≡ Some peer) is on in
        let here : t.w.phase ≡ GetsWord peer start size = cc in
        attempts_found t (to_commit t.look.right) (Some f) (gains t f peer size t.look.right) (gains_found t f peer start size here told t.look.right refl)
get_found t f peer on (GetsWord p start size) Invalid is told = sends_found t (Some f) peer (Line (text_of Failure)) (Failure, refl, tt)
get_found t f peer on phase m is told = wrong_found t f peer

put_found : (t : Turn) (f : FrameView) (peer : ℕ) → partner t.w.what.peer t.w.phase ≡ Some peer → (phase : Phase) (m : Message) → t.w.phase ≡ phase → line_in f.body ≡ Some m
    → JobFound t (Some f) (takes_put t f peer phase m)
put_found t f peer on (PutsOffer p) AlreadyHave is told = hears_found t f
put_found t f peer on (PutsOffer p) Failure is told = hears_found t f
put_found t f peer on (PutsOffer p) (Error text) is told =
    if_either (JobFound t (Some f)) (bytes_eq text (codes "busy")) (hears t f) (wrong_message t f peer) (λ e. hears_found t f) (λ e. wrong_found t f peer)
put_found t f peer on (PutsOffer p) (PutFrom n) is told = from_found t f peer n
put_found t f peer on (PutsAnswer p start) Success is told = hears_found t f
put_found t f peer on (PutsAnswer p start) Failure is told = hears_found t f
put_found t f peer on phase m is told = wrong_found t f peer

answer_found : (t : Turn) (f : FrameView) (peer : ℕ) → partner t.w.what.peer t.w.phase ≡ Some peer → (phase : Phase) (m : Message) → t.w.phase ≡ phase → line_in f.body ≡ Some m
    → (part : Part) → t.w.part ≡ part → JobFound t (Some f) (takes_answer t f peer part phase m)
answer_found t f peer on phase m is told Gets part = get_found t f peer on phase m is told
answer_found t f peer on phase m is told Puts part = put_found t f peer on phase m is told
answer_found t f peer on phase m is told Drops part = drop_found t f peer part phase m is told

takes_found : (t : Turn) (f : FrameView) (peer : ℕ) → partner t.w.what.peer t.w.phase ≡ Some peer → (phase : Phase) (m : Message) → t.w.phase ≡ phase → line_in f.body ≡ Some m
    → JobFound t (Some f) (takes t f peer phase m)
takes_found t f peer on (Opens p) (AuthSuccess id) is told = sends_found t (Some f) peer (Line (text_of (Version 3))) (Version 3, refl, tt)
takes_found t f peer on (Greets p) (Version n) is told =
    if_either (JobFound t (Some f)) (nat_le n 3) (asks t n (Some f) peer t.w.part) (wrong_message t f peer) (λ e. asks_found t n (Some f) peer t.w.part refl) (λ e. wrong_found t f peer)
takes_found t f peer on phase m is told = answer_found t f peer on phase m is told t.w.part refl

text_found : (t : Turn) (f : FrameView) (peer : ℕ) → partner t.w.what.peer t.w.phase ≡ Some peer → (m : Option Message) → line_in f.body ≡ m → JobFound t (Some f) (takes_text t f peer m)
text_found t f peer on None told = wrong_found t f peer
text_found t f peer on (Some m) told = takes_found t f peer on t.w.phase m refl told

pub frame_found : (t : Turn) (peer : ℕ) (f : FrameView) → partner t.w.what.peer t.w.phase ≡ Some peer → (body : FrameText) → f.body ≡ body → JobFound t (Some f) (takes_frame t peer f body)
frame_found t peer f on Opening is = wrong_found t f peer
frame_found t peer f on Closing is = hears_found t f
frame_found t peer f on (Bytes n) is = bytes_found t f peer n t.w.phase
frame_found t peer f on (Line text) is = text_found t f peer on (message_of text) (ap line_in is)

-- ---- the step

-- what a job makes
pub record MadeBy (t : Turn) (m : Effect) : Type 0 where
  pub frame : (m.taken ≡ None) ⊎ JobTakes t m
  pub found : IsJobEntry t m m.kind
  pub at_hand : TakesAtHand t.look m

on_found : (t : Turn) (m : Effect) → Goes t t.w.phase → goes_on t ≡ Some m → MadeBy t m
on_found t m free e = go (list_all (has_room t) (needs t t.w.phase)) e
  where
    go : (b : Bool) → (if b then Some (goes t t.w.phase) else None) ≡ Some m → MadeBy t m
    go true g =
        let same : goes t t.w.phase ≡ m = cc in
        let found = goes_found t t.w.phase refl free in
        subst (MadeBy t) same (record { frame = inl found.0; found = found.1; at_hand = takes_none t.look (goes t t.w.phase) found.0 })
    go false g = absurd (cc)

awaits_found : (t : Turn) (peer : ℕ) (m : Effect) → partner t.w.what.peer t.w.phase ≡ Some peer → is_awaiting t.w.phase ≡ true → (end_with t peer).opened ≡ true
    → (f : Option FrameView) → waiting_frame (end_with t peer) t.look (job_end t.w peer) ≡ f → awaits t peer f ≡ Some m → MadeBy t m
awaits_found t peer m on awaiting opened None is e = absurd (cc)
awaits_found t peer m on awaiting opened (Some f) is e = go (has_room t peer) e
  where
    go : (b : Bool) → (if b then Some (takes_frame t peer f f.body) else None) ≡ Some m → MadeBy t m
    go false g = absurd (cc)
    go true g =
        let same : takes_frame t peer f f.body ≡ m = cc in
        let found = frame_found t peer f on f.body refl in
        let was = find_member (λ g. takes_at (job_end t.w peer) g && may_take (end_with t peer) g) t.look.at_hand f is in
        let both = and_parts (takes_at (job_end t.w peer) f) (may_take (end_with t peer) f) was.1 in
        subst (MadeBy t) same (record {
          frame = inr (record { f = f; taken_is = found.0; peer = peer; partner_is = on; awaits = awaiting; opened = opened; of_end = both.0; may = both.1 });
          found = found.1;
          at_hand = takes_one t.look (takes_frame t peer f f.body) f found.0 was.0;
        })

with_found : (t : Turn) (peer : ℕ) (m : Effect) → partner t.w.what.peer t.w.phase ≡ Some peer → (b : Bool) → (end_with t peer).opened ≡ b → with_partner t peer b ≡ Some m → MadeBy t m
with_found t peer m on false opened e =
    let same : quietly (talk t) None ≡ m = cc in
    let found = quiet_found t None in
    subst (MadeBy t) same (record { frame = inl found.0; found = found.1; at_hand = takes_none t.look (quietly (talk t) None) found.0 })
with_found t peer m on true opened e = go (is_awaiting t.w.phase) refl e
  where
    go : (b : Bool) → is_awaiting t.w.phase ≡ b → (if b then awaits t peer (waiting_frame (end_with t peer) t.look (job_end t.w peer)) else goes_on t) ≡ Some m → MadeBy t m
    go true awaiting g = awaits_found t peer m on awaiting opened (waiting_frame (end_with t peer) t.look (job_end t.w peer)) refl g
    go false awaiting g = on_found t m (inr awaiting) g

pub partner_found : (t : Turn) (m : Effect) (p : Option ℕ) → partner t.w.what.peer t.w.phase ≡ p → by_partner t p ≡ Some m → MadeBy t m
partner_found t m None on e = on_found t m (inl on) e
partner_found t m (Some peer) on e = with_found t peer m on (end_with t peer).opened refl e

slot_found : (s : SetUp) (st : State) (k : Look) (slot : ℕ) (m : Effect) (w : Option Work) → find (λ w. w.slot == slot) st.works ≡ w → slot_step s st k w ≡ Some m → ByJob s st k m
slot_found s st k slot m None is e = absurd (cc)
slot_found s st k slot m (Some w) is e =
    let x = partner_found (turn_of s st k w) m (partner w.what.peer w.phase) refl e in
    record { w = w; slot = slot; runs = is; frame = x.frame; found = x.found }

pub job_found : (s : SetUp) (st : State) (k : Look) (m : Effect) → job_step s st k ≡ Some m → ByJob s st k m
job_found s st k m e =
    let x = first_some-was (λ slot. slot_step s st k (find (λ w. w.slot == slot) st.works)) slots m e in
    slot_found s st k x.0 m (find (λ w. w.slot == x.0) st.works) refl x.2

slot_at_hand : (s : SetUp) (st : State) (k : Look) (m : Effect) (w : Option Work) → slot_step s st k w ≡ Some m → TakesAtHand k m
slot_at_hand s st k m None e = absurd (cc)
slot_at_hand s st k m (Some w) e = (partner_found (turn_of s st k w) m (partner w.what.peer w.phase) refl e).at_hand

pub job_at_hand : (s : SetUp) (st : State) (k : Look) (m : Effect) → job_step s st k ≡ Some m → TakesAtHand k m
job_at_hand s st k m e =
    let x = first_some-was (λ slot. slot_step s st k (find (λ w. w.slot == slot) st.works)) slots m e in
    slot_at_hand s st k m (find (λ w. w.slot == x.0) st.works) x.2
