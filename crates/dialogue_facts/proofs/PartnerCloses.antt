-- A job closes a connection, other than at its end, only with its partner.
use Rattle.std.proofs.Common.{◌≡◌, ◌≢◌, ℕ, ◌+◌, ◌-◌, ◌/◌, Bool, true, false, List, [], ◌∷◌, Option, Some, None, ◌⊎◌, inl, inr, refl, sym, ap, ◌∙◌, subst}
use Rattle.std.specs.Prelude.{◌^◌, if◌then◌else◌, ◌==◌, ◌&&◌, min, nat_lt, nat_le, bytes_eq, codes, not}
use Rattle.std.specs.List.{list_all}
use Rattle.std.proofs.lemmas.Bool.{true≢false}
use Rattle.annex_base.specs.Lists.{Each, Member}
use Rattle.annex_base.specs.declared.kinds.Call.{Call}
use Rattle.annex_base.proofs.Conditions.{if_either}
use Rattle.annex_base.proofs.Lists.{Each-member}
use Rattle.annex_base.specs.declared.kinds.Call.TheVariants as calls
use Rattle.drop_proof.specs.declared.rule.Side.{Side}
use Rattle.drop_proof.specs.declared.rule.Side.TheVariants.{Local, Remote}
use Rattle.run_data.specs.declared.entry.Entry.{Entry}
use Rattle.run_data.specs.declared.entry.EntryKind.{EntryKind}
use Rattle.run_data.specs.declared.entry.EntryKind.TheVariants.{Fault, Gain, Gone, Order, End as ends_job}
use Rattle.run_data.specs.declared.entry.FrameView.{FrameView}
use Rattle.run_data.specs.declared.entry.FrameText.{FrameText}
use Rattle.run_data.specs.declared.entry.FrameText.TheVariants.{Opening, Closing, Bytes, Line}
use Rattle.run_data.specs.declared.job.Outcome.{Outcome}
use Rattle.run_data.specs.declared.job.Outcome.TheVariants.{Got, Refused, TransferRefused}
use Rattle.run_data.specs.declared.job.TransferRefusal.TheVariants as failures
use Rattle.run_data.specs.declared.job.DropRefusal.{DropRefusal}
use Rattle.run_data.specs.declared.job.DropRefusal.TheVariants as refusals
use Rattle.node_model.specs.Rows.{is_lost_ordered}
use Rattle.node_model.specs.Evidence.{Standing, Asked}
use Rattle.p2p_wire.specs.declared.message.Message.{Message}
use Rattle.p2p_wire.specs.declared.message.Message.TheVariants.{AuthSuccess, Version, CheckPresent, LockContent, Remove, RemoveBefore, GetTimestamp, Timestamp, Get, Put, PutFrom, AlreadyHave, Data, Valid, Invalid, Success, Failure, Error}
use Rattle.p2p_wire.specs.Messages.{message_of, text_of}
use Rattle.node_model.specs.SetUp.{SetUp}
use Rattle.node_model.specs.Sessions.{reaches}
use Rattle.node_model.specs.Jobs
use Rattle.node_model.specs.Jobs.{Part, Gets, Puts, Drops, Phase, Fresh, Next, Opens, Greets, GetsData, GetsBytes, GetsWord, PutsOffer, PutsBytes, PutsWord, PutsAnswer, AsksLock, AsksLook, AsksTime, job_end, partner, side_of, is_move}
use Rattle.node_model.specs.Calls.{to_commit, to_hold, to_release, to_resume}
use Rattle.node_model.specs.Look.{Effect, failing_call, waiting_frame}
use Rattle.node_model.specs.SessionStep.{bytes_left}
use Rattle.node_model.specs.Knows.{enough_by, next_by}
use Rattle.node_model.specs.JobStep.{Turn, hears, attempts, bar_there, by_me, clock_of, end_with, ends, farewells, is_there, key_of, me, owns_share, quietly, says_to, sends_to, talk, wrong_message}
use Rattle.node_model.specs.DropStep.{asks_copy, asks_lock, asks_target, bars, expiry, first_drop, first_end, first_remote, held_until, in_time, lacking_outcome, need_now, orders, removes, required_there, row_refusal, takes_drop, takes_time, target, times, tries_own}
use Rattle.node_model.specs.Requests.{asks, goes_to}
use Rattle.node_model.specs.TransferStep.{content_of, first_get, first_put, gains, next_get, next_source, puts_from, puts_piece, takes_bytes, takes_get, takes_put}
use Rattle.node_model.specs.Turns.{awaits, by_partner, first_step, goes, goes_on, has_room, is_awaiting, judges, needs, next_step, outcome_of, takes, takes_answer, takes_frame, takes_text, with_partner}
use Rattle.step_facts.proofs.Cases.{unless_found}
use Rattle.step_facts.proofs.JobSteps.{Stepped, turn_at}

abbrev IsEnd : EntryKind → Type 0
IsEnd (ends_job j outcome) = Unit {0}
IsEnd kind = ⊥

abbrev OnPartner : Turn → FrameView → Type 0
OnPartner t g = g.body ≡ Closing → partner t.w.what.peer t.w.phase ≡ Some g.peer

abbrev Shuts : Turn → Effect → Type 0
Shuts t m = IsEnd m.kind ⊎ Each (OnPartner t) m.sent

abbrev is_shutting : FrameText → Bool
is_shutting Closing = true
is_shutting body = false

-- ---- what all jobs share

attempts_shuts : (t : Turn) (cs : List Call) (taken : Option FrameView) (m : Effect) → Shuts t m → Shuts t (attempts t cs taken m)
attempts_shuts t cs taken m g = unless_found (Shuts t) (failing_call t.look.fails cs) (λ call. quietly (Fault call (by_me t)) taken) m (λ call. inr tt) g

open_is : (body : FrameText) → is_shutting body ≡ false → body ≡ Closing → ⊥
open_is body n e = true≢false (sym (ap is_shutting e) ∙ n)

one_shuts : (t : Turn) (kind : EntryKind) (taken : Option FrameView) (peer : ℕ) (body : FrameText) → is_shutting body ≡ false → Shuts t (sends_to t kind taken peer (body ∷ []))
one_shuts t kind taken peer body n = inr ((λ e. absurd (open_is body n e)), tt)

there_shuts : (t : Turn) (kind : EntryKind) (taken : Option FrameView) (peer : ℕ) (body : FrameText) → partner t.w.what.peer t.w.phase ≡ Some peer → Shuts t (sends_to t kind taken peer (body ∷ []))
there_shuts t kind taken peer body on = inr ((λ e. on), tt)

wrong_shuts : (t : Turn) (f : FrameView) (peer : ℕ) → partner t.w.what.peer t.w.phase ≡ Some peer → Shuts t (wrong_message t f peer)
wrong_shuts t f peer on = there_shuts t (talk t) (Some f) peer Closing on

ends_shuts : (t : Turn) (taken : Option FrameView) (outcome : Outcome) → Shuts t (ends t taken outcome)
ends_shuts t taken outcome =
    let lost = is_lost_ordered outcome in
    attempts_shuts t (to_release (owns_share t && not lost)) taken (record { kind = ends_job t.w.number outcome; taken = taken; sent = farewells t lost; lines = []; calls = [] }) (inl tt)

-- ---- requests

orders_shuts : (t : Turn) (taken : Option FrameView) (deadline : Option ℕ) (m : Message) → Shuts t (orders t taken deadline m)
orders_shuts t taken deadline m = one_shuts t (Order t.w.number (target t) deadline (need_now t) (key_of t)) taken (target t) (Line (text_of m)) refl

target_shuts : (t : Turn) (version : ℕ) (taken : Option FrameView) (end : Option ℕ) → Shuts t (asks_target t version taken end)
target_shuts t version taken None = orders_shuts t taken None (Remove (key_of t))
target_shuts t version taken (Some end) =
    if_either (Shuts t) (nat_lt version 3) (quietly (talk t) taken) (says_to t (talk t) taken (target t) GetTimestamp) (λ e. inr tt) (λ e. one_shuts t (talk t) taken (target t) (Line (text_of GetTimestamp)) refl)

copy_shuts : (t : Turn) (version : ℕ) (taken : Option FrameView) (peer : ℕ) (side : Side) → Shuts t (asks_copy t version taken peer side)
copy_shuts t version taken peer Local = one_shuts t (talk t) taken peer (Line (text_of (LockContent (key_of t)))) refl
copy_shuts t version taken peer Remote =
    if_either (Shuts t) (target t == peer) (asks_target t version taken (first_end t)) (asks_lock t taken peer)
    (λ e. target_shuts t version taken (first_end t)) (λ e. one_shuts t (talk t) taken peer (Line (text_of (LockContent (key_of t)))) refl)

asks_shuts : (t : Turn) (version : ℕ) (taken : Option FrameView) (peer : ℕ) (part : Part) → Shuts t (asks t version taken peer part)
asks_shuts t version taken peer Gets =
    attempts_shuts t (to_resume t.look.part) taken (says_to t (talk t) taken peer (Get t.look.part [] (key_of t))) (one_shuts t (talk t) taken peer (Line (text_of (Get t.look.part [] (key_of t)))) refl)
asks_shuts t version taken peer Puts = one_shuts t (talk t) taken peer (Line (text_of (Put [] (key_of t)))) refl
asks_shuts t version taken peer Drops = copy_shuts t version taken peer (side_of t.w)

goes_to_shuts : (t : Turn) (peer : ℕ) → Shuts t (goes_to t peer)
goes_to_shuts t peer = if_either (Shuts t) (end_with t peer).opened (asks t t.w.version None peer t.w.part) (sends_to t (talk t) None peer (Opening ∷ []))
    (λ o. asks_shuts t t.w.version None peer t.w.part) (λ o. one_shuts t (talk t) None peer Opening refl)

-- ---- the steps that take no frame

bars_shuts : (t : Turn) (refusal : Option DropRefusal) → Shuts t (bars t refusal)
bars_shuts t None = inr tt
bars_shuts t (Some refusal) = ends_shuts t None (Refused refusal)

own_shuts : (t : Turn) (standing : Standing) → Shuts t (tries_own t standing)
own_shuts t Asked = attempts_shuts t (to_hold (is_there t) (bar_there t)) None (quietly (_) None) (inr tt)
own_shuts t standing = inr tt

remote_shuts : (t : Turn) (text : Option (List ℕ)) → Shuts t (first_remote t text)
remote_shuts t (Some text) = ends_shuts t None (Refused (refusals.Required text))
remote_shuts t None = own_shuts t (t.read.standing (me t))

first_drop_shuts : (t : Turn) (side : Side) → Shuts t (first_drop t side)
first_drop_shuts t Local = attempts_shuts t (calls.Has ∷ []) None (bars t (row_refusal (is_there t) (required_there t) (bar_there t) (held_until t))) (bars_shuts t (row_refusal (is_there t) (required_there t) (bar_there t) (held_until t)))
first_drop_shuts t Remote = remote_shuts t (required_there t)

first_get_shuts : (t : Turn) (here filled : Bool) (source : Option ℕ) → next_source t ≡ source → Shuts t (first_get t here filled source)
first_get_shuts t true filled source is = if_either (Shuts t) (is_move t.w.what.kind) (quietly (talk t) None) (ends t None (Got None None)) (λ e. inr tt) (λ e. ends_shuts t None (Got None None))
first_get_shuts t false true source is = ends_shuts t None (TransferRefused failures.Busy)
first_get_shuts t false false None is = inr tt
first_get_shuts t false false (Some peer) is = goes_to_shuts t peer

first_put_shuts : (t : Turn) (here : Bool) (peer : Option ℕ) → t.w.what.peer ≡ peer → Shuts t (first_put t here peer)
first_put_shuts t true (Some peer) is = goes_to_shuts t peer
first_put_shuts t true None is = ends_shuts t None (TransferRefused failures.NotHere)
first_put_shuts t false peer is = ends_shuts t None (TransferRefused failures.NotHere)

first_shuts : (t : Turn) (part : Part) → Shuts t (first_step t part)
first_shuts t Gets = attempts_shuts t (calls.Has ∷ []) None (first_get t (is_there t) (t.filled (key_of t)) (next_source t)) (first_get_shuts t (is_there t) (t.filled (key_of t)) (next_source t) refl)
first_shuts t Puts = attempts_shuts t (calls.Has ∷ []) None (first_put t (is_there t) t.w.what.peer) (first_put_shuts t (is_there t) t.w.what.peer refl)
first_shuts t Drops = first_drop_shuts t (side_of t.w)

removes_shuts : (t : Turn) → Shuts t (removes t)
removes_shuts t = if_either (Shuts t) (in_time (clock_of t) (first_end t)) (attempts t (calls.Remove ∷ []) None (quietly (Gone (by_me t) (key_of t)) None)) (ends t None (expiry (clock_of t) (first_end t)))
    (λ e. attempts_shuts t (calls.Remove ∷ []) None (quietly (Gone (by_me t) (key_of t)) None) (inr tt)) (λ e. ends_shuts t None (expiry (clock_of t) (first_end t)))

judges_shuts : (t : Turn) → t.w.part ≡ Drops → t.w.phase ≡ Next → (enough : Bool) (next : Option ℕ) (side : Side) → enough_by t.read t.w ≡ enough → next_by t.read t.w ≡ next → side_of t.w ≡ side → Shuts t (judges t enough next side)
judges_shuts t part phase false (Some peer) side enough next is = goes_to_shuts t peer
judges_shuts t part phase false None side enough next is = ends_shuts t None (lacking_outcome t)
judges_shuts t part phase true next Local enough asked is = removes_shuts t
judges_shuts t part phase true next Remote enough asked is = goes_to_shuts t (target t)

next_get_shuts : (t : Turn) (source : Option ℕ) → next_source t ≡ source → Shuts t (next_get t source)
next_get_shuts t None is = ends_shuts t None (TransferRefused (failures.NoSource t.w.causes))
next_get_shuts t (Some peer) is = goes_to_shuts t peer

next_shuts : (t : Turn) → t.w.phase ≡ Next → (part : Part) → t.w.part ≡ part → Shuts t (next_step t part)
next_shuts t phase Drops is = judges_shuts t is phase (enough_by t.read t.w) (next_by t.read t.w) (side_of t.w) refl refl refl
next_shuts t phase part is = next_get_shuts t (next_source t) refl

piece_shuts : (t : Turn) (peer at n : ℕ) → partner t.w.what.peer t.w.phase ≡ Some peer → Shuts t (puts_piece t peer at n)
piece_shuts t peer at n on = attempts_shuts t (calls.Read ∷ []) None (sends_to t (talk t) None peer ((if reaches (content_of t) (at + n) then Bytes n else Closing) ∷ [])) (go (reaches (content_of t) (at + n)))
  where
    go : (b : Bool) → Shuts t (sends_to t (talk t) None peer ((if b then Bytes n else Closing) ∷ []))
    go true = one_shuts t (talk t) None peer (Bytes n) refl
    go false = there_shuts t (talk t) None peer Closing on

goes_shuts : (t : Turn) (phase : Phase) → t.w.phase ≡ phase → Shuts t (goes t phase)
goes_shuts t Fresh is = first_shuts t t.w.part
goes_shuts t Next is = next_shuts t is t.w.part refl
goes_shuts t (PutsBytes peer start at left) is = piece_shuts t peer at (min 32768 left) (ap (partner t.w.what.peer) is)
goes_shuts t (PutsWord peer start) is = one_shuts t (talk t) None peer (Line (text_of Valid)) refl
goes_shuts t phase is = ends_shuts t None (outcome_of t phase)

-- ---- the steps that take a frame

times_shuts : (t : Turn) (f : FrameView) (n : ℕ) (end : Option ℕ) → Shuts t (times t f n end)
times_shuts t f n None = orders_shuts t (Some f) None (Remove (key_of t))
times_shuts t f n (Some end) =
    let deadline = n + (end - clock_of t) / 1000 in
    if_either (Shuts t) (nat_lt (clock_of t) end) (orders t (Some f) (Some deadline) (RemoveBefore deadline (key_of t))) (ends t (Some f) (Refused (refusals.Expired end (clock_of t))))
    (λ e. orders_shuts t (Some f) (Some deadline) (RemoveBefore deadline (key_of t))) (λ e. ends_shuts t (Some f) (Refused (refusals.Expired end (clock_of t))))

time_shuts : (t : Turn) (f : FrameView) (peer n : ℕ) (side : Side) → partner t.w.what.peer t.w.phase ≡ Some peer → Shuts t (takes_time t f peer n side)
time_shuts t f peer n Local on = wrong_shuts t f peer on
time_shuts t f peer n Remote on = if_either (Shuts t) (nat_lt n (2 ^ 61)) (times t f n (first_end t)) (wrong_message t f peer) (λ e. times_shuts t f n (first_end t)) (λ e. wrong_shuts t f peer on)

bytes_shuts : (t : Turn) (f : FrameView) (peer n : ℕ) (phase : Phase) → partner t.w.what.peer t.w.phase ≡ Some peer → Shuts t (takes_bytes t f peer n phase)
bytes_shuts t f peer n (GetsBytes p start size left) on =
    if_either (Shuts t) (nat_lt 0 n && nat_le n left) (attempts t (calls.Append ∷ []) (Some f) (quietly (talk t) (Some f))) (wrong_message t f peer)
    (λ e. attempts_shuts t (calls.Append ∷ []) (Some f) (quietly (talk t) (Some f)) (inr tt)) (λ e. wrong_shuts t f peer on)
bytes_shuts t f peer n phase on = wrong_shuts t f peer on

drop_shuts : (t : Turn) (f : FrameView) (peer : ℕ) (phase : Phase) (m : Message) → partner t.w.what.peer t.w.phase ≡ Some peer → Shuts t (takes_drop t f peer phase m)
drop_shuts t f peer (AsksLock p since) Success on = inr tt
drop_shuts t f peer (AsksLock p since) Failure on = one_shuts t (talk t) (Some f) peer (Line (text_of (CheckPresent (key_of t)))) refl
drop_shuts t f peer (AsksLook p) Success on = inr tt
drop_shuts t f peer (AsksLook p) Failure on = inr tt
drop_shuts t f peer AsksTime (Timestamp n) on = time_shuts t f peer n (side_of t.w) on
drop_shuts t f peer Jobs.Orders Success on = inr tt
drop_shuts t f peer Jobs.Orders Failure on = inr tt
drop_shuts t f peer phase m on = wrong_shuts t f peer on

gains_shuts : (t : Turn) (f : FrameView) (peer size : ℕ) (right : Bool) → Shuts t (gains t f peer size right)
gains_shuts t f peer size true = one_shuts t (Gain (by_me t) size (key_of t)) (Some f) peer (Line (text_of Success)) refl
gains_shuts t f peer size false = one_shuts t (talk t) (Some f) peer (Line (text_of Failure)) refl

get_shuts : (t : Turn) (f : FrameView) (peer : ℕ) (phase : Phase) (m : Message) → partner t.w.what.peer t.w.phase ≡ Some peer → Shuts t (takes_get t f peer phase m)
get_shuts t f peer (GetsData p start) (Data n) on = inr tt
get_shuts t f peer (GetsWord p start size) Valid on = attempts_shuts t (to_commit t.look.right) (Some f) (gains t f peer size t.look.right) (gains_shuts t f peer size t.look.right)
get_shuts t f peer (GetsWord p start size) Invalid on = one_shuts t (talk t) (Some f) peer (Line (text_of Failure)) refl
get_shuts t f peer phase m on = wrong_shuts t f peer on

from_shuts : (t : Turn) (f : FrameView) (peer n : ℕ) → partner t.w.what.peer t.w.phase ≡ Some peer → Shuts t (puts_from t f peer n)
from_shuts t f peer n on =
    let m = Data (bytes_left (content_of t) n) in
    let good = if reaches (content_of t) n then says_to t (talk t) (Some f) peer m else wrong_message t f peer in
    attempts_shuts t (calls.Size ∷ []) (Some f) good
    (if_either (Shuts t) (reaches (content_of t) n) (says_to t (talk t) (Some f) peer m) (wrong_message t f peer) (λ e. one_shuts t (talk t) (Some f) peer (Line (text_of m)) refl) (λ e. wrong_shuts t f peer on))

put_shuts : (t : Turn) (f : FrameView) (peer : ℕ) (phase : Phase) (m : Message) → partner t.w.what.peer t.w.phase ≡ Some peer → Shuts t (takes_put t f peer phase m)
put_shuts t f peer (PutsOffer p) AlreadyHave on = inr tt
put_shuts t f peer (PutsOffer p) Failure on = inr tt
put_shuts t f peer (PutsOffer p) (Error text) on = if_either (Shuts t) (bytes_eq text (codes "busy")) (hears t f) (wrong_message t f peer) (λ e. inr tt) (λ e. wrong_shuts t f peer on)
put_shuts t f peer (PutsOffer p) (PutFrom n) on = from_shuts t f peer n on
put_shuts t f peer (PutsAnswer p start) Success on = inr tt
put_shuts t f peer (PutsAnswer p start) Failure on = inr tt
put_shuts t f peer phase m on = wrong_shuts t f peer on

answer_shuts : (t : Turn) (f : FrameView) (peer : ℕ) (part : Part) (phase : Phase) (m : Message) → partner t.w.what.peer t.w.phase ≡ Some peer → Shuts t (takes_answer t f peer part phase m)
answer_shuts t f peer Gets phase m on = get_shuts t f peer phase m on
answer_shuts t f peer Puts phase m on = put_shuts t f peer phase m on
answer_shuts t f peer Drops phase m on = drop_shuts t f peer phase m on

takes_shuts : (t : Turn) (f : FrameView) (peer : ℕ) (phase : Phase) (m : Message) → partner t.w.what.peer t.w.phase ≡ Some peer → Shuts t (takes t f peer phase m)
takes_shuts t f peer (Opens p) (AuthSuccess id) on = one_shuts t (talk t) (Some f) peer (Line (text_of (Version 3))) refl
takes_shuts t f peer (Greets p) (Version n) on = if_either (Shuts t) (nat_le n 3) (asks t n (Some f) peer t.w.part) (wrong_message t f peer) (λ e. asks_shuts t n (Some f) peer t.w.part) (λ e. wrong_shuts t f peer on)
takes_shuts t f peer phase m on = answer_shuts t f peer t.w.part phase m on

text_shuts : (t : Turn) (f : FrameView) (peer : ℕ) (m : Option Message) → partner t.w.what.peer t.w.phase ≡ Some peer → Shuts t (takes_text t f peer m)
text_shuts t f peer None on = wrong_shuts t f peer on
text_shuts t f peer (Some m) on = takes_shuts t f peer t.w.phase m on

frame_shuts : (t : Turn) (peer : ℕ) (f : FrameView) (body : FrameText) → partner t.w.what.peer t.w.phase ≡ Some peer → Shuts t (takes_frame t peer f body)
frame_shuts t peer f Opening on = wrong_shuts t f peer on
frame_shuts t peer f Closing on = inr tt
frame_shuts t peer f (Bytes n) on = bytes_shuts t f peer n t.w.phase on
frame_shuts t peer f (Line text) on = text_shuts t f peer (message_of text) on

-- ---- the step

on_shuts : (t : Turn) (m : Effect) → goes_on t ≡ Some m → Shuts t m
on_shuts t m e = go (list_all (has_room t) (needs t t.w.phase)) e
  where
    go : (b : Bool) → (if b then Some (goes t t.w.phase) else None) ≡ Some m → Shuts t m
    go true g = let same : goes t t.w.phase ≡ m = cc in subst (Shuts t) same (goes_shuts t t.w.phase refl)
    go false g = absurd (cc)

awaits_shuts : (t : Turn) (peer : ℕ) (m : Effect) → partner t.w.what.peer t.w.phase ≡ Some peer → (f : Option FrameView) → awaits t peer f ≡ Some m → Shuts t m
awaits_shuts t peer m on None e = absurd (cc)
awaits_shuts t peer m on (Some f) e = go (has_room t peer) e
  where
    go : (b : Bool) → (if b then Some (takes_frame t peer f f.body) else None) ≡ Some m → Shuts t m
    go true g = let same : takes_frame t peer f f.body ≡ m = cc in subst (Shuts t) same (frame_shuts t peer f f.body on)
    go false g = absurd (cc)

with_shuts : (t : Turn) (peer : ℕ) (m : Effect) → partner t.w.what.peer t.w.phase ≡ Some peer → (b : Bool) → with_partner t peer b ≡ Some m → Shuts t m
with_shuts t peer m on false e = let same : quietly (talk t) None ≡ m = cc in subst (Shuts t) same (inr tt)
with_shuts t peer m on true e = go (is_awaiting t.w.phase) e
  where
    go : (b : Bool) → (if b then awaits t peer (waiting_frame (end_with t peer) t.look (job_end t.w peer)) else goes_on t) ≡ Some m → Shuts t m
    go true g = awaits_shuts t peer m on (waiting_frame (end_with t peer) t.look (job_end t.w peer)) g
    go false g = on_shuts t m g

partner_shuts : (t : Turn) (m : Effect) (p : Option ℕ) → partner t.w.what.peer t.w.phase ≡ p → by_partner t p ≡ Some m → Shuts t m
partner_shuts t m None on e = on_shuts t m e
partner_shuts t m (Some peer) on e = with_shuts t peer m on (end_with t peer).opened e

-- **a job that goes on closes only the connection on which it stands**
pub stepped_shuts : (s : SetUp) (past : List Entry) (e : Entry) (x : Stepped s past e) → ((j : ℕ) (outcome : Outcome) → e.kind ≢ ends_job j outcome)
    → (g : FrameView) → Member g e.sent → g.body ≡ Closing → partner x.w.what.peer x.w.phase ≡ Some g.peer
stepped_shuts s past e x goes_on g m is = elim (partner_shuts (turn_at s past e x) x.made (partner x.w.what.peer x.w.phase) refl x.does) [
  | inl end ↦ absurd (ended x.made.kind (ap (λ (y : Entry). y.kind) x.is) end)
  | inr all ↦ Each-member (OnPartner (turn_at s past e x)) x.made.sent g all (subst (Member g) (ap (λ (y : Entry). y.sent) x.is) m) is
]
  where
    ended : (kind : EntryKind) → e.kind ≡ kind → IsEnd kind → ⊥
    ended (ends_job j outcome) same end = goes_on j outcome same
    ended kind same end = elim end [ ]
