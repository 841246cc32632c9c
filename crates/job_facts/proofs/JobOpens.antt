-- Whom a job opens a connection with: the source that a get asks next, the job's peer, or whom a drop has chosen.
use Rattle.std.proofs.Common.{◌≡◌, ℕ, ◌+◌, ◌-◌, ◌/◌, Bool, true, false, List, [], ◌∷◌, Option, Some, None, ◌⊎◌, inl, inr, refl, sym, ap, ◌∙◌, subst}
use Rattle.std.specs.Prelude.{◌^◌, if◌then◌else◌, ◌==◌, ◌&&◌, min, nat_lt, nat_le, bytes_eq, codes, not}
use Rattle.std.specs.List.{list_all}
use Rattle.std.proofs.lemmas.Bool.{true≢false}
use Rattle.annex_base.specs.Lists.{Each}
use Rattle.annex_base.specs.declared.kinds.Call.{Call}
use Rattle.annex_base.proofs.Conditions.{if_either}
use Rattle.annex_base.specs.declared.kinds.Call.TheVariants as calls
use Rattle.drop_proof.specs.declared.rule.Side.{Side}
use Rattle.drop_proof.specs.declared.rule.Side.TheVariants.{Local, Remote}
use Rattle.run_data.specs.declared.entry.Entry.{Entry}
use Rattle.run_data.specs.declared.entry.EntryKind.{EntryKind}
use Rattle.run_data.specs.declared.entry.EntryKind.TheVariants.{Fault, Gain, Gone, Order, End as ends_job}
use Rattle.run_data.specs.declared.entry.FrameView.{FrameView}
use Rattle.run_data.specs.declared.entry.FrameText.{FrameText}
use Rattle.run_data.specs.declared.entry.FrameText.TheVariants.{Opening, Closing, Bytes, Line}
use Rattle.run_data.specs.declared.job.Outcome.{Outcome}
use Rattle.run_data.specs.declared.job.Outcome.TheVariants.{Got, Refused, TransferRefused}
use Rattle.run_data.specs.declared.job.TransferRefusal.TheVariants as failures
use Rattle.run_data.specs.declared.job.DropRefusal.{DropRefusal}
use Rattle.run_data.specs.declared.job.DropRefusal.TheVariants as refusals
use Rattle.node_model.specs.Rows.{is_lost_ordered}
use Rattle.node_model.specs.Evidence.{Standing, Asked}
use Rattle.p2p_wire.specs.declared.message.Message.{Message}
use Rattle.p2p_wire.specs.declared.message.Message.TheVariants.{AuthSuccess, Version, CheckPresent, LockContent, Remove, RemoveBefore, GetTimestamp, Timestamp, Get, Put, PutFrom, AlreadyHave, Data, Valid, Invalid, Success, Failure, Error}
use Rattle.p2p_wire.specs.Messages.{message_of, text_of}
use Rattle.node_model.specs.SetUp.{SetUp}
use Rattle.node_model.specs.Ends.{frames, is_opening}
use Rattle.node_model.specs.Sessions.{reaches}
use Rattle.node_model.specs.Jobs
use Rattle.node_model.specs.Jobs.{Part, Gets, Puts, Drops, Phase, Fresh, Next, Opens, Greets, GetsData, GetsBytes, GetsWord, PutsOffer, PutsBytes, PutsWord, PutsAnswer, AsksLock, AsksLook, AsksTime, job_end, partner, side_of, is_move}
use Rattle.node_model.specs.Calls.{to_commit, to_hold, to_release, to_resume}
use Rattle.node_model.specs.Look.{Effect, failing_call, waiting_frame}
use Rattle.node_model.specs.SessionStep.{bytes_left}
use Rattle.node_model.specs.Knows.{enough_by, next_by}
use Rattle.node_model.specs.JobStep.{Turn, hears, attempts, bar_there, by_me, clock_of, end_with, ends, farewell, farewells, is_there, key_of, me, owns_share, quietly, says_to, sends_to, talk, wrong_message, others_of}
use Rattle.node_model.specs.DropStep.{asks_copy, asks_lock, asks_target, bars, expiry, first_drop, first_end, first_remote, held_until, in_time, lacking_outcome, need_now, orders, removes, required_there, row_refusal, takes_drop, takes_time, target, times, tries_own}
use Rattle.node_model.specs.Requests.{asks, goes_to}
use Rattle.node_model.specs.TransferStep.{content_of, first_get, first_put, gains, next_get, next_source, puts_from, puts_piece, takes_bytes, takes_get, takes_put}
use Rattle.node_model.specs.Turns.{awaits, by_partner, first_step, goes, goes_on, has_room, is_awaiting, judges, needs, next_step, outcome_of, takes, takes_answer, takes_frame, takes_text, with_partner}
use Rattle.step_facts.proofs.Cases.{unless_found}
use Rattle.step_facts.proofs.ServerEnds.{each_flat}
use Rattle.step_facts.proofs.EndMoves.{OpensNone, frames_none}
use Rattle.job_facts.proofs.Farewells.{farewell_none}
use Rattle.job_facts.proofs.TalkFacts.{Chosen}
use Rattle.step_facts.proofs.JobSteps.{Stepped, turn_at}

-- the job may open a connection with the peer
abbrev pub Called : Turn → ℕ → Type 0
Called t peer = (next_source t ≡ Some peer) ⊎ ((t.w.what.peer ≡ Some peer) ⊎ ((t.w.part ≡ Drops) × (t.w.phase ≡ Next) × Chosen t peer))

abbrev Calls : Turn → Effect → Type 0
Calls t m = Each (λ g. is_opening g.body ≡ true → Called t g.peer) m.sent

-- ---- what all jobs share

none_calls : (t : Turn) (fs : List FrameView) → OpensNone fs → Each (λ g. is_opening g.body ≡ true → Called t g.peer) fs
none_calls t [] n = tt
none_calls t (f ∷ fs) n = ((λ e. absurd (true≢false (sym e ∙ n.0))), none_calls t fs n.1)

attempts_calls : (t : Turn) (cs : List Call) (taken : Option FrameView) (m : Effect) → Calls t m → Calls t (attempts t cs taken m)
attempts_calls t cs taken m g = unless_found (Calls t) (failing_call t.look.fails cs) (λ call. quietly (Fault call (by_me t)) taken) m (λ call. tt) g

one_calls : (t : Turn) (kind : EntryKind) (taken : Option FrameView) (peer : ℕ) (body : FrameText) → is_opening body ≡ false → Calls t (sends_to t kind taken peer (body ∷ []))
one_calls t kind taken peer body n = ((λ e. absurd (true≢false (sym e ∙ n))), tt)

wrong_calls : (t : Turn) (f : FrameView) (peer : ℕ) → Calls t (wrong_message t f peer)
wrong_calls t f peer = one_calls t (talk t) (Some f) peer Closing refl

ends_calls : (t : Turn) (taken : Option FrameView) (outcome : Outcome) → Calls t (ends t taken outcome)
ends_calls t taken outcome =
    let lost = is_lost_ordered outcome in
    attempts_calls t (to_release (owns_share t && not lost)) taken (record { kind = ends_job t.w.number outcome; taken = taken; sent = farewells t lost; lines = []; calls = [] })
    (none_calls t (farewells t lost) (each_flat (λ g. is_opening g.body ≡ false) (λ peer. frames (job_end t.w peer) (end_with t peer) (farewell t lost peer (end_with t peer).opened))
    (λ peer. frames_none (job_end t.w peer) (end_with t peer) (farewell t lost peer (end_with t peer).opened) (farewell_none t lost peer (end_with t peer).opened)) (others_of t)))

-- ---- requests

orders_calls : (t : Turn) (taken : Option FrameView) (deadline : Option ℕ) (m : Message) → Calls t (orders t taken deadline m)
orders_calls t taken deadline m = one_calls t (Order t.w.number (target t) deadline (need_now t) (key_of t)) taken (target t) (Line (text_of m)) refl

target_calls : (t : Turn) (version : ℕ) (taken : Option FrameView) (end : Option ℕ) → Calls t (asks_target t version taken end)
target_calls t version taken None = orders_calls t taken None (Remove (key_of t))
target_calls t version taken (Some end) =
    if_either (Calls t) (nat_lt version 3) (quietly (talk t) taken) (says_to t (talk t) taken (target t) GetTimestamp) (λ e. tt) (λ e. one_calls t (talk t) taken (target t) (Line (text_of GetTimestamp)) refl)

copy_calls : (t : Turn) (version : ℕ) (taken : Option FrameView) (peer : ℕ) (side : Side) → Calls t (asks_copy t version taken peer side)
copy_calls t version taken peer Local = one_calls t (talk t) taken peer (Line (text_of (LockContent (key_of t)))) refl
copy_calls t version taken peer Remote =
    if_either (Calls t) (target t == peer) (asks_target t version taken (first_end t)) (asks_lock t taken peer)
    (λ e. target_calls t version taken (first_end t)) (λ e. one_calls t (talk t) taken peer (Line (text_of (LockContent (key_of t)))) refl)

asks_calls : (t : Turn) (version : ℕ) (taken : Option FrameView) (peer : ℕ) (part : Part) → Calls t (asks t version taken peer part)
asks_calls t version taken peer Gets =
    attempts_calls t (to_resume t.look.part) taken (says_to t (talk t) taken peer (Get t.look.part [] (key_of t))) (one_calls t (talk t) taken peer (Line (text_of (Get t.look.part [] (key_of t)))) refl)
asks_calls t version taken peer Puts = one_calls t (talk t) taken peer (Line (text_of (Put [] (key_of t)))) refl
asks_calls t version taken peer Drops = copy_calls t version taken peer (side_of t.w)

goes_to_calls : (t : Turn) (peer : ℕ) → Called t peer → Calls t (goes_to t peer)
goes_to_calls t peer called = if_either (Calls t) (end_with t peer).opened (asks t t.w.version None peer t.w.part) (sends_to t (talk t) None peer (Opening ∷ []))
    (λ o. asks_calls t t.w.version None peer t.w.part) (λ o. ((λ e. called), tt))

-- ---- the steps that take no frame

bars_calls : (t : Turn) (refusal : Option DropRefusal) → Calls t (bars t refusal)
bars_calls t None = tt
bars_calls t (Some refusal) = ends_calls t None (Refused refusal)

own_calls : (t : Turn) (standing : Standing) → Calls t (tries_own t standing)
own_calls t Asked = attempts_calls t (to_hold (is_there t) (bar_there t)) None (quietly (_) None) tt
own_calls t standing = tt

remote_calls : (t : Turn) (text : Option (List ℕ)) → Calls t (first_remote t text)
remote_calls t (Some text) = ends_calls t None (Refused (refusals.Required text))
remote_calls t None = own_calls t (t.read.standing (me t))

first_drop_calls : (t : Turn) (side : Side) → Calls t (first_drop t side)
first_drop_calls t Local = attempts_calls t (calls.Has ∷ []) None (bars t (row_refusal (is_there t) (required_there t) (bar_there t) (held_until t))) (bars_calls t (row_refusal (is_there t) (required_there t) (bar_there t) (held_until t)))
first_drop_calls t Remote = remote_calls t (required_there t)

first_get_calls : (t : Turn) (here filled : Bool) (source : Option ℕ) → next_source t ≡ source → Calls t (first_get t here filled source)
first_get_calls t true filled source is = if_either (Calls t) (is_move t.w.what.kind) (quietly (talk t) None) (ends t None (Got None None)) (λ e. tt) (λ e. ends_calls t None (Got None None))
first_get_calls t false true source is = ends_calls t None (TransferRefused failures.Busy)
first_get_calls t false false None is = tt
first_get_calls t false false (Some peer) is = goes_to_calls t peer (inl is)

first_put_calls : (t : Turn) (here : Bool) (peer : Option ℕ) → t.w.what.peer ≡ peer → Calls t (first_put t here peer)
first_put_calls t true (Some peer) is = goes_to_calls t peer (inr (inl is))
first_put_calls t true None is = ends_calls t None (TransferRefused failures.NotHere)
first_put_calls t false peer is = ends_calls t None (TransferRefused failures.NotHere)

first_calls : (t : Turn) (part : Part) → Calls t (first_step t part)
first_calls t Gets = attempts_calls t (calls.Has ∷ []) None (first_get t (is_there t) (t.filled (key_of t)) (next_source t)) (first_get_calls t (is_there t) (t.filled (key_of t)) (next_source t) refl)
first_calls t Puts = attempts_calls t (calls.Has ∷ []) None (first_put t (is_there t) t.w.what.peer) (first_put_calls t (is_there t) t.w.what.peer refl)
first_calls t Drops = first_drop_calls t (side_of t.w)

removes_calls : (t : Turn) → Calls t (removes t)
removes_calls t = if_either (Calls t) (in_time (clock_of t) (first_end t)) (attempts t (calls.Remove ∷ []) None (quietly (Gone (by_me t) (key_of t)) None)) (ends t None (expiry (clock_of t) (first_end t)))
    (λ e. attempts_calls t (calls.Remove ∷ []) None (quietly (Gone (by_me t) (key_of t)) None) tt) (λ e. ends_calls t None (expiry (clock_of t) (first_end t)))

judges_calls : (t : Turn) → t.w.part ≡ Drops → t.w.phase ≡ Next → (enough : Bool) (next : Option ℕ) (side : Side) → enough_by t.read t.w ≡ enough → next_by t.read t.w ≡ next → side_of t.w ≡ side → Calls t (judges t enough next side)
judges_calls t part phase false (Some peer) side enough next is = goes_to_calls t peer (inr (inr (part, phase, inl (enough, next))))
judges_calls t part phase false None side enough next is = ends_calls t None (lacking_outcome t)
judges_calls t part phase true next Local enough asked is = removes_calls t
judges_calls t part phase true next Remote enough asked is = goes_to_calls t (target t) (inr (inr (part, phase, inr (enough, is, refl))))

next_get_calls : (t : Turn) (source : Option ℕ) → next_source t ≡ source → Calls t (next_get t source)
next_get_calls t None is = ends_calls t None (TransferRefused (failures.NoSource t.w.causes))
next_get_calls t (Some peer) is = goes_to_calls t peer (inl is)

next_calls : (t : Turn) → t.w.phase ≡ Next → (part : Part) → t.w.part ≡ part → Calls t (next_step t part)
next_calls t phase Drops is = judges_calls t is phase (enough_by t.read t.w) (next_by t.read t.w) (side_of t.w) refl refl refl
next_calls t phase part is = next_get_calls t (next_source t) refl

piece_calls : (t : Turn) (peer at n : ℕ) → Calls t (puts_piece t peer at n)
piece_calls t peer at n = attempts_calls t (calls.Read ∷ []) None (sends_to t (talk t) None peer ((if reaches (content_of t) (at + n) then Bytes n else Closing) ∷ [])) (go (reaches (content_of t) (at + n)))
  where
    go : (b : Bool) → Calls t (sends_to t (talk t) None peer ((if b then Bytes n else Closing) ∷ []))
    go true = one_calls t (talk t) None peer (Bytes n) refl
    go false = one_calls t (talk t) None peer Closing refl

goes_calls : (t : Turn) (phase : Phase) → t.w.phase ≡ phase → Calls t (goes t phase)
goes_calls t Fresh is = first_calls t t.w.part
goes_calls t Next is = next_calls t is t.w.part refl
goes_calls t (PutsBytes peer start at left) is = piece_calls t peer at (min 32768 left)
goes_calls t (PutsWord peer start) is = one_calls t (talk t) None peer (Line (text_of Valid)) refl
goes_calls t phase is = ends_calls t None (outcome_of t phase)

-- ---- the steps that take a frame

times_calls : (t : Turn) (f : FrameView) (n : ℕ) (end : Option ℕ) → Calls t (times t f n end)
times_calls t f n None = orders_calls t (Some f) None (Remove (key_of t))
times_calls t f n (Some end) =
    let deadline = n + (end - clock_of t) / 1000 in
    if_either (Calls t) (nat_lt (clock_of t) end) (orders t (Some f) (Some deadline) (RemoveBefore deadline (key_of t))) (ends t (Some f) (Refused (refusals.Expired end (clock_of t))))
    (λ e. orders_calls t (Some f) (Some deadline) (RemoveBefore deadline (key_of t))) (λ e. ends_calls t (Some f) (Refused (refusals.Expired end (clock_of t))))

time_calls : (t : Turn) (f : FrameView) (peer n : ℕ) (side : Side) → Calls t (takes_time t f peer n side)
time_calls t f peer n Local = wrong_calls t f peer
time_calls t f peer n Remote = if_either (Calls t) (nat_lt n (2 ^ 61)) (times t f n (first_end t)) (wrong_message t f peer) (λ e. times_calls t f n (first_end t)) (λ e. wrong_calls t f peer)

bytes_calls : (t : Turn) (f : FrameView) (peer n : ℕ) (phase : Phase) → Calls t (takes_bytes t f peer n phase)
bytes_calls t f peer n (GetsBytes p start size left) =
    if_either (Calls t) (nat_lt 0 n && nat_le n left) (attempts t (calls.Append ∷ []) (Some f) (quietly (talk t) (Some f))) (wrong_message t f peer)
    (λ e. attempts_calls t (calls.Append ∷ []) (Some f) (quietly (talk t) (Some f)) tt) (λ e. wrong_calls t f peer)
bytes_calls t f peer n phase = wrong_calls t f peer

drop_calls : (t : Turn) (f : FrameView) (peer : ℕ) (phase : Phase) (m : Message) → Calls t (takes_drop t f peer phase m)
drop_calls t f peer (AsksLock p since) Success = tt
drop_calls t f peer (AsksLock p since) Failure = one_calls t (talk t) (Some f) peer (Line (text_of (CheckPresent (key_of t)))) refl
drop_calls t f peer (AsksLook p) Success = tt
drop_calls t f peer (AsksLook p) Failure = tt
drop_calls t f peer AsksTime (Timestamp n) = time_calls t f peer n (side_of t.w)
drop_calls t f peer Jobs.Orders Success = tt
drop_calls t f peer Jobs.Orders Failure = tt
drop_calls t f peer phase m = wrong_calls t f peer

gains_calls : (t : Turn) (f : FrameView) (peer size : ℕ) (right : Bool) → Calls t (gains t f peer size right)
gains_calls t f peer size true = one_calls t (Gain (by_me t) size (key_of t)) (Some f) peer (Line (text_of Success)) refl
gains_calls t f peer size false = one_calls t (talk t) (Some f) peer (Line (text_of Failure)) refl

get_calls : (t : Turn) (f : FrameView) (peer : ℕ) (phase : Phase) (m : Message) → Calls t (takes_get t f peer phase m)
get_calls t f peer (GetsData p start) (Data n) = tt
get_calls t f peer (GetsWord p start size) Valid = attempts_calls t (to_commit t.look.right) (Some f) (gains t f peer size t.look.right) (gains_calls t f peer size t.look.right)
get_calls t f peer (GetsWord p start size) Invalid = one_calls t (talk t) (Some f) peer (Line (text_of Failure)) refl
get_calls t f peer phase m = wrong_calls t f peer

from_calls : (t : Turn) (f : FrameView) (peer n : ℕ) → Calls t (puts_from t f peer n)
from_calls t f peer n =
    let m = Data (bytes_left (content_of t) n) in
    let good = if reaches (content_of t) n then says_to t (talk t) (Some f) peer m else wrong_message t f peer in
    attempts_calls t (calls.Size ∷ []) (Some f) good
    (if_either (Calls t) (reaches (content_of t) n) (says_to t (talk t) (Some f) peer m) (wrong_message t f peer) (λ e. one_calls t (talk t) (Some f) peer (Line (text_of m)) refl) (λ e. wrong_calls t f peer))

put_calls : (t : Turn) (f : FrameView) (peer : ℕ) (phase : Phase) (m : Message) → Calls t (takes_put t f peer phase m)
put_calls t f peer (PutsOffer p) AlreadyHave = tt
put_calls t f peer (PutsOffer p) Failure = tt
put_calls t f peer (PutsOffer p) (Error text) = if_either (Calls t) (bytes_eq text (codes "busy")) (hears t f) (wrong_message t f peer) (λ e. tt) (λ e. wrong_calls t f peer)
put_calls t f peer (PutsOffer p) (PutFrom n) = from_calls t f peer n
put_calls t f peer (PutsAnswer p start) Success = tt
put_calls t f peer (PutsAnswer p start) Failure = tt
put_calls t f peer phase m = wrong_calls t f peer

answer_calls : (t : Turn) (f : FrameView) (peer : ℕ) (part : Part) (phase : Phase) (m : Message) → Calls t (takes_answer t f peer part phase m)
answer_calls t f peer Gets phase m = get_calls t f peer phase m
answer_calls t f peer Puts phase m = put_calls t f peer phase m
answer_calls t f peer Drops phase m = drop_calls t f peer phase m

takes_calls : (t : Turn) (f : FrameView) (peer : ℕ) (phase : Phase) (m : Message) → Calls t (takes t f peer phase m)
takes_calls t f peer (Opens p) (AuthSuccess id) = one_calls t (talk t) (Some f) peer (Line (text_of (Version 3))) refl
takes_calls t f peer (Greets p) (Version n) = if_either (Calls t) (nat_le n 3) (asks t n (Some f) peer t.w.part) (wrong_message t f peer) (λ e. asks_calls t n (Some f) peer t.w.part) (λ e. wrong_calls t f peer)
takes_calls t f peer phase m = answer_calls t f peer t.w.part phase m

text_calls : (t : Turn) (f : FrameView) (peer : ℕ) (m : Option Message) → Calls t (takes_text t f peer m)
text_calls t f peer None = wrong_calls t f peer
text_calls t f peer (Some m) = takes_calls t f peer t.w.phase m

frame_calls : (t : Turn) (peer : ℕ) (f : FrameView) (body : FrameText) → Calls t (takes_frame t peer f body)
frame_calls t peer f Opening = wrong_calls t f peer
frame_calls t peer f Closing = tt
frame_calls t peer f (Bytes n) = bytes_calls t f peer n t.w.phase
frame_calls t peer f (Line text) = text_calls t f peer (message_of text)

-- ---- the step

on_calls : (t : Turn) (m : Effect) → goes_on t ≡ Some m → Calls t m
on_calls t m e = go (list_all (has_room t) (needs t t.w.phase)) e
  where
    go : (b : Bool) → (if b then Some (goes t t.w.phase) else None) ≡ Some m → Calls t m
    go true g = let same : goes t t.w.phase ≡ m = cc in subst (Calls t) same (goes_calls t t.w.phase refl)
    go false g = absurd (cc)

awaits_calls : (t : Turn) (peer : ℕ) (m : Effect) (f : Option FrameView) → awaits t peer f ≡ Some m → Calls t m
awaits_calls t peer m None e = absurd (cc)
awaits_calls t peer m (Some f) e = go (has_room t peer) e
  where
    go : (b : Bool) → (if b then Some (takes_frame t peer f f.body) else None) ≡ Some m → Calls t m
    go true g = let same : takes_frame t peer f f.body ≡ m = cc in subst (Calls t) same (frame_calls t peer f f.body)
    go false g = absurd (cc)

with_calls : (t : Turn) (peer : ℕ) (m : Effect) (b : Bool) → with_partner t peer b ≡ Some m → Calls t m
with_calls t peer m false e = let same : quietly (talk t) None ≡ m = cc in subst (Calls t) same tt
with_calls t peer m true e = go (is_awaiting t.w.phase) e
  where
    go : (b : Bool) → (if b then awaits t peer (waiting_frame (end_with t peer) t.look (job_end t.w peer)) else goes_on t) ≡ Some m → Calls t m
    go true g = awaits_calls t peer m (waiting_frame (end_with t peer) t.look (job_end t.w peer)) g
    go false g = on_calls t m g

partner_calls : (t : Turn) (m : Effect) (p : Option ℕ) → by_partner t p ≡ Some m → Calls t m
partner_calls t m None e = on_calls t m e
partner_calls t m (Some peer) e = with_calls t peer m (end_with t peer).opened e

-- the peers of the Openings that a job's step sends
pub stepped_calls : (s : SetUp) (past : List Entry) (e : Entry) (x : Stepped s past e) → Each (λ g. is_opening g.body ≡ true → Called (turn_at s past e x) g.peer) e.sent
stepped_calls s past e x =
    let t = turn_at s past e x in
    subst (Each (λ g. is_opening g.body ≡ true → Called t g.peer)) (sym (ap (λ (y : Entry). y.sent) x.is)) (partner_calls t x.made (partner x.w.what.peer x.w.phase) x.does)
