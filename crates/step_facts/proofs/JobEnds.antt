-- Where a job speaks: at the ends of its own slot, on one that is open, or with an Opening on one that is closed.
use Rattle.std.proofs.Common.{◌≡◌, ℕ, ◌+◌, ◌-◌, ◌/◌, Bool, true, false, List, [], ◌∷◌, ◌++◌, Option, Some, None, ◌⊎◌, inl, inr, refl, sym, ap, ◌∙◌, subst}
use Rattle.std.specs.Prelude.{◌^◌, if◌then◌else◌, ◌==◌, ◌&&◌, find, min, nat_lt, nat_le, bytes_eq, codes, not}
use Rattle.std.specs.List.{list_all}
use Rattle.std.proofs.lemmas.Bool.{eqb-true}
use Rattle.annex_base.specs.Lists.{Each}
use Rattle.annex_base.specs.declared.kinds.Call.{Call}
use Rattle.annex_base.proofs.Conditions.{if_either}
use Rattle.annex_base.specs.declared.kinds.Call.TheVariants as calls
use Rattle.annex_base.proofs.Options.{first_some-was}
use Rattle.drop_proof.specs.declared.rule.Side.{Side}
use Rattle.drop_proof.specs.declared.rule.Side.TheVariants.{Local, Remote}
use Rattle.run_data.specs.declared.entry.EntryKind.{EntryKind}
use Rattle.run_data.specs.declared.entry.EntryKind.TheVariants.{Fault, Gain, Gone, Order, End as ends_job}
use Rattle.run_data.specs.declared.entry.FrameView.{FrameView}
use Rattle.run_data.specs.declared.entry.FrameText.{FrameText}
use Rattle.run_data.specs.declared.entry.FrameText.TheVariants.{Opening, Closing, Bytes, Line}
use Rattle.run_data.specs.declared.job.Outcome.{Outcome}
use Rattle.run_data.specs.declared.job.Outcome.TheVariants.{Got, Refused, TransferRefused}
use Rattle.run_data.specs.declared.job.TransferRefusal.TheVariants as failures
use Rattle.run_data.specs.declared.job.DropRefusal.{DropRefusal}
use Rattle.run_data.specs.declared.job.DropRefusal.TheVariants as refusals
use Rattle.node_model.specs.Rows.{is_lost_ordered}
use Rattle.node_model.specs.Evidence.{Standing, Asked}
use Rattle.p2p_wire.specs.declared.message.Message.{Message}
use Rattle.p2p_wire.specs.declared.message.Message.TheVariants.{AuthSuccess, Version, CheckPresent, LockContent, UnlockContent, Remove, RemoveBefore, GetTimestamp, Timestamp, Get, Put, PutFrom, AlreadyHave, Data, Valid, Invalid, Success, Failure, Error}
use Rattle.p2p_wire.specs.Messages.{message_of, text_of}
use Rattle.node_model.specs.SetUp.{SetUp, slots}
use Rattle.node_model.specs.Ends.{End, frames, is_opening}
use Rattle.node_model.specs.Sessions.{reaches}
use Rattle.node_model.specs.Jobs
use Rattle.node_model.specs.Jobs.{Work, Part, Phase, Gets, Puts, Drops, Fresh, Next, Opens, Greets, GetsData, GetsBytes, GetsWord, PutsOffer, PutsBytes, PutsWord, PutsAnswer, AsksLock, AsksLook, AsksTime, job_end, partner, side_of, is_move}
use Rattle.node_model.specs.Calls.{to_commit, to_hold, to_release, to_resume}
use Rattle.node_model.specs.State.{State}
use Rattle.node_model.specs.Look.{Look, Effect, failing_call, waiting_frame}
use Rattle.node_model.specs.SessionStep.{bytes_left}
use Rattle.node_model.specs.Knows.{enough_by, next_by}
use Rattle.node_model.specs.JobStep.{Turn, hears, attempts, bar_there, by_me, clock_of, end_with, ends, farewell, farewells, has_lock, is_there, key_of, me, owns_share, quietly, says_to, sends_to, talk, turn_of, wrong_message, others_of}
use Rattle.node_model.specs.DropStep.{asks_copy, asks_lock, asks_target, bars, expiry, first_drop, first_end, held_until, in_time, lacking_outcome, need_now, orders, removes, required_there, row_refusal, takes_drop, takes_time, target, times, tries_own}
use Rattle.node_model.specs.Requests.{asks, goes_to}
use Rattle.node_model.specs.TransferStep.{content_of, first_get, first_put, gains, next_get, next_source, puts_from, puts_piece, takes_bytes, takes_get, takes_put}
use Rattle.node_model.specs.Turns.{awaits, by_partner, first_step, goes, goes_on, has_room, is_awaiting, job_step, judges, needs, next_step, outcome_of, slot_step, takes, takes_answer, takes_frame, takes_text, with_partner}
use Rattle.step_facts.proofs.EndMoves.{sends_epoch}
use Rattle.step_facts.proofs.Cases.{unless_found}
use Rattle.step_facts.proofs.ServerEnds.{each_flat}

-- a frame at an end that stands so: of its epoch while it is open, or the Opening of the next where it is closed
abbrev pub SentWell : End → FrameView → Type 0
SentWell c g = ((c.opened ≡ true) × (g.epoch ≡ c.epoch) × (is_opening g.body ≡ false)) ⊎ ((c.opened ≡ false) × (g.epoch ≡ c.epoch + 1) × (g.body ≡ Opening))

-- the job's own end, as a client
abbrev pub JobSays : Turn → FrameView → Type 0
JobSays t g = (g.up ≡ true) × (g.slot ≡ t.w.slot) × SentWell (end_with t g.peer) g

abbrev pub Says : Turn → Effect → Type 0
Says t m = Each (JobSays t) m.sent

-- ---- what all jobs share

attempts_says : (t : Turn) (cs : List Call) (taken : Option FrameView) (m : Effect) → Says t m → Says t (attempts t cs taken m)
attempts_says t cs taken m g = unless_found (Says t) (failing_call t.look.fails cs) (λ call. quietly (Fault call (by_me t)) taken) m (λ call. tt) g

-- one frame on an open connection
one_says : (t : Turn) (kind : EntryKind) (taken : Option FrameView) (peer : ℕ) (body : FrameText) → (end_with t peer).opened ≡ true → is_opening body ≡ false → Says t (sends_to t kind taken peer (body ∷ []))
one_says t kind taken peer body o n = ((refl, refl, inl (o, sends_epoch (end_with t peer) body n, n)), tt)

wrong_says : (t : Turn) (f : FrameView) (peer : ℕ) → (end_with t peer).opened ≡ true → Says t (wrong_message t f peer)
wrong_says t f peer o = one_says t (talk t) (Some f) peer Closing o refl

farewell_says : (t : Turn) (lost : Bool) (peer : ℕ) (b : Bool) → (end_with t peer).opened ≡ b → Each (JobSays t) (frames (job_end t.w peer) (end_with t peer) (farewell t lost peer b))
farewell_says t lost peer false o = tt
farewell_says t lost peer true o = go (has_lock t peer && not lost)
  where
    go : (b : Bool) → Each (JobSays t) (frames (job_end t.w peer) (end_with t peer) ((if b then Line (text_of (UnlockContent (key_of t))) ∷ [] else []) ++ Closing ∷ []))
    go true = ((refl, refl, inl (o, refl, refl)), ((refl, refl, inl (o, refl, refl)), tt))
    go false = ((refl, refl, inl (o, refl, refl)), tt)

ends_says : (t : Turn) (taken : Option FrameView) (outcome : Outcome) → Says t (ends t taken outcome)
ends_says t taken outcome =
    attempts_says t (to_release (owns_share t && not (is_lost_ordered outcome))) taken (record { kind = ends_job t.w.number outcome; taken = taken; sent = farewells t (is_lost_ordered outcome); lines = []; calls = [] })
    (each_flat (JobSays t) (λ peer. frames (job_end t.w peer) (end_with t peer) (farewell t (is_lost_ordered outcome) peer (end_with t peer).opened))
    (λ peer. farewell_says t (is_lost_ordered outcome) peer (end_with t peer).opened refl) (others_of t))

-- ---- requests

abbrev Open : Turn → ℕ → Type 0
Open t peer = (end_with t peer).opened ≡ true

orders_says : (t : Turn) (taken : Option FrameView) (deadline : Option ℕ) (m : Message) → Open t (target t) → Says t (orders t taken deadline m)
orders_says t taken deadline m o = one_says t (Order t.w.number (target t) deadline (need_now t) (key_of t)) taken (target t) (Line (text_of m)) o refl

target_says : (t : Turn) (version : ℕ) (taken : Option FrameView) (end : Option ℕ) → Open t (target t) → Says t (asks_target t version taken end)
target_says t version taken None o = orders_says t taken None (Remove (key_of t)) o
target_says t version taken (Some end) o =
    if_either (Says t) (nat_lt version 3) (quietly (talk t) taken) (says_to t (talk t) taken (target t) GetTimestamp) (λ e. tt) (λ e. one_says t (talk t) taken (target t) (Line (text_of GetTimestamp)) o refl)

copy_says : (t : Turn) (version : ℕ) (taken : Option FrameView) (peer : ℕ) (side : Side) → Open t peer → Says t (asks_copy t version taken peer side)
copy_says t version taken peer Local o = one_says t (talk t) taken peer (Line (text_of (LockContent (key_of t)))) o refl
copy_says t version taken peer Remote o =
    if_either (Says t) (target t == peer) (asks_target t version taken (first_end t)) (asks_lock t taken peer)
    (λ e. target_says t version taken (first_end t) (subst (Open t) (sym (eqb-true (target t) peer e)) o))
    (λ e. one_says t (talk t) taken peer (Line (text_of (LockContent (key_of t)))) o refl)

asks_says : (t : Turn) (version : ℕ) (taken : Option FrameView) (peer : ℕ) (part : Part) → Open t peer → Says t (asks t version taken peer part)
asks_says t version taken peer Gets o =
    attempts_says t (to_resume t.look.part) taken (says_to t (talk t) taken peer (Get t.look.part [] (key_of t))) (one_says t (talk t) taken peer (Line (text_of (Get t.look.part [] (key_of t)))) o refl)
asks_says t version taken peer Puts o = one_says t (talk t) taken peer (Line (text_of (Put [] (key_of t)))) o refl
asks_says t version taken peer Drops o = copy_says t version taken peer (side_of t.w) o

goes_to_says : (t : Turn) (peer : ℕ) → Says t (goes_to t peer)
goes_to_says t peer = if_either (Says t) (end_with t peer).opened (asks t t.w.version None peer t.w.part) (sends_to t (talk t) None peer (Opening ∷ []))
    (λ o. asks_says t t.w.version None peer t.w.part o) (λ o. ((refl, refl, inr (o, refl, refl)), tt))

-- ---- the steps that take no frame

bars_says : (t : Turn) (refusal : Option DropRefusal) → Says t (bars t refusal)
bars_says t None = tt
bars_says t (Some refusal) = ends_says t None (Refused refusal)

own_says : (t : Turn) (standing : Standing) → Says t (tries_own t standing)
own_says t Asked = attempts_says t (to_hold (is_there t) (bar_there t)) None (quietly (_) None) tt
own_says t standing = tt

remote_says : (t : Turn) (text : Option (List ℕ)) → Says t (Rattle.node_model.specs.DropStep.first_remote t text)
remote_says t (Some text) = ends_says t None (Refused (refusals.Required text))
remote_says t None = own_says t (t.read.standing (me t))

first_drop_says : (t : Turn) (side : Side) → Says t (first_drop t side)
first_drop_says t Local = attempts_says t (calls.Has ∷ []) None (bars t (row_refusal (is_there t) (required_there t) (bar_there t) (held_until t))) (bars_says t (row_refusal (is_there t) (required_there t) (bar_there t) (held_until t)))
first_drop_says t Remote = remote_says t (required_there t)

first_get_says : (t : Turn) (here filled : Bool) (source : Option ℕ) → Says t (first_get t here filled source)
first_get_says t true filled source = if_either (Says t) (is_move t.w.what.kind) (quietly (talk t) None) (ends t None (Got None None)) (λ e. tt) (λ e. ends_says t None (Got None None))
first_get_says t false true source = ends_says t None (TransferRefused failures.Busy)
first_get_says t false false None = tt
first_get_says t false false (Some peer) = goes_to_says t peer

first_put_says : (t : Turn) (here : Bool) (peer : Option ℕ) → Says t (first_put t here peer)
first_put_says t true (Some peer) = goes_to_says t peer
first_put_says t true None = ends_says t None (TransferRefused failures.NotHere)
first_put_says t false peer = ends_says t None (TransferRefused failures.NotHere)

first_says : (t : Turn) (part : Part) → Says t (first_step t part)
first_says t Gets = attempts_says t (calls.Has ∷ []) None (first_get t (is_there t) (t.filled (key_of t)) (next_source t)) (first_get_says t (is_there t) (t.filled (key_of t)) (next_source t))
first_says t Puts = attempts_says t (calls.Has ∷ []) None (first_put t (is_there t) t.w.what.peer) (first_put_says t (is_there t) t.w.what.peer)
first_says t Drops = first_drop_says t (side_of t.w)

removes_says : (t : Turn) → Says t (removes t)
removes_says t = if_either (Says t) (in_time (clock_of t) (first_end t)) (attempts t (calls.Remove ∷ []) None (quietly (Gone (by_me t) (key_of t)) None)) (ends t None (expiry (clock_of t) (first_end t)))
    (λ e. attempts_says t (calls.Remove ∷ []) None (quietly (Gone (by_me t) (key_of t)) None) tt) (λ e. ends_says t None (expiry (clock_of t) (first_end t)))

judges_says : (t : Turn) (enough : Bool) (next : Option ℕ) (side : Side) → Says t (judges t enough next side)
judges_says t false (Some peer) side = goes_to_says t peer
judges_says t false None side = ends_says t None (lacking_outcome t)
judges_says t true next Local = removes_says t
judges_says t true next Remote = goes_to_says t (target t)

next_get_says : (t : Turn) (source : Option ℕ) → Says t (next_get t source)
next_get_says t None = ends_says t None (TransferRefused (failures.NoSource t.w.causes))
next_get_says t (Some peer) = goes_to_says t peer

next_says : (t : Turn) (part : Part) → Says t (next_step t part)
next_says t Drops = judges_says t (enough_by t.read t.w) (next_by t.read t.w) (side_of t.w)
next_says t part = next_get_says t (next_source t)

piece_says : (t : Turn) (peer at n : ℕ) → Open t peer → Says t (puts_piece t peer at n)
piece_says t peer at n o = attempts_says t (calls.Read ∷ []) None (sends_to t (talk t) None peer ((if reaches (content_of t) (at + n) then Bytes n else Closing) ∷ [])) (go (reaches (content_of t) (at + n)))
  where
    go : (b : Bool) → Says t (sends_to t (talk t) None peer ((if b then Bytes n else Closing) ∷ []))
    go true = one_says t (talk t) None peer (Bytes n) o refl
    go false = one_says t (talk t) None peer Closing o refl

-- the partner's connection, if the job stands on one, is open
abbrev OnOpen : Turn → Phase → Type 0
OnOpen t phase = (peer : ℕ) → partner t.w.what.peer phase ≡ Some peer → Open t peer

goes_says : (t : Turn) (phase : Phase) → OnOpen t phase → Says t (goes t phase)
goes_says t Fresh o = first_says t t.w.part
goes_says t Next o = next_says t t.w.part
goes_says t (PutsBytes peer start at left) o = piece_says t peer at (min 32768 left) (o peer refl)
goes_says t (PutsWord peer start) o = one_says t (talk t) None peer (Line (text_of Valid)) (o peer refl) refl
goes_says t phase o = ends_says t None (outcome_of t phase)

-- ---- the steps that take a frame

times_says : (t : Turn) (f : FrameView) (n : ℕ) (end : Option ℕ) → Open t (target t) → Says t (times t f n end)
times_says t f n None o = orders_says t (Some f) None (Remove (key_of t)) o
times_says t f n (Some end) o =
    let deadline = n + (end - clock_of t) / 1000 in
    if_either (Says t) (nat_lt (clock_of t) end) (orders t (Some f) (Some deadline) (RemoveBefore deadline (key_of t))) (ends t (Some f) (Refused (refusals.Expired end (clock_of t))))
    (λ e. orders_says t (Some f) (Some deadline) (RemoveBefore deadline (key_of t)) o) (λ e. ends_says t (Some f) (Refused (refusals.Expired end (clock_of t))))

time_says : (t : Turn) (f : FrameView) (peer n : ℕ) (side : Side) → Open t peer → (side ≡ Remote → Open t (target t)) → Says t (takes_time t f peer n side)
time_says t f peer n Local o p = wrong_says t f peer o
time_says t f peer n Remote o p = if_either (Says t) (nat_lt n (2 ^ 61)) (times t f n (first_end t)) (wrong_message t f peer) (λ e. times_says t f n (first_end t) (p refl)) (λ e. wrong_says t f peer o)

bytes_says : (t : Turn) (f : FrameView) (peer n : ℕ) (phase : Phase) → Open t peer → Says t (takes_bytes t f peer n phase)
bytes_says t f peer n (GetsBytes p start size left) o =
    if_either (Says t) (nat_lt 0 n && nat_le n left) (attempts t (calls.Append ∷ []) (Some f) (quietly (talk t) (Some f))) (wrong_message t f peer)
    (λ e. attempts_says t (calls.Append ∷ []) (Some f) (quietly (talk t) (Some f)) tt) (λ e. wrong_says t f peer o)
bytes_says t f peer n phase o = wrong_says t f peer o

drop_says : (t : Turn) (f : FrameView) (peer : ℕ) (phase : Phase) (m : Message) → Open t peer → (phase ≡ AsksTime → side_of t.w ≡ Remote → Open t (target t)) → Says t (takes_drop t f peer phase m)
drop_says t f peer (AsksLock p since) Success o p' = tt
drop_says t f peer (AsksLock p since) Failure o p' = one_says t (talk t) (Some f) peer (Line (text_of (CheckPresent (key_of t)))) o refl
drop_says t f peer (AsksLook p) Success o p' = tt
drop_says t f peer (AsksLook p) Failure o p' = tt
drop_says t f peer AsksTime (Timestamp n) o p' = time_says t f peer n (side_of t.w) o (p' refl)
drop_says t f peer Jobs.Orders Success o p' = tt
drop_says t f peer Jobs.Orders Failure o p' = tt
drop_says t f peer phase m o p' = wrong_says t f peer o

gains_says : (t : Turn) (f : FrameView) (peer size : ℕ) (right : Bool) → Open t peer → Says t (gains t f peer size right)
gains_says t f peer size true o = one_says t (Gain (by_me t) size (key_of t)) (Some f) peer (Line (text_of Success)) o refl
gains_says t f peer size false o = one_says t (talk t) (Some f) peer (Line (text_of Failure)) o refl

get_says : (t : Turn) (f : FrameView) (peer : ℕ) (phase : Phase) (m : Message) → Open t peer → Says t (takes_get t f peer phase m)
get_says t f peer (GetsData p start) (Data n) o = tt
get_says t f peer (GetsWord p start size) Valid o = attempts_says t (to_commit t.look.right) (Some f) (gains t f peer size t.look.right) (gains_says t f peer size t.look.right o)
get_says t f peer (GetsWord p start size) Invalid o = one_says t (talk t) (Some f) peer (Line (text_of Failure)) o refl
get_says t f peer phase m o = wrong_says t f peer o

from_says : (t : Turn) (f : FrameView) (peer n : ℕ) → Open t peer → Says t (puts_from t f peer n)
from_says t f peer n o =
    let m = Data (bytes_left (content_of t) n) in
    let good = if reaches (content_of t) n then says_to t (talk t) (Some f) peer m else wrong_message t f peer in
    attempts_says t (calls.Size ∷ []) (Some f) good
    (if_either (Says t) (reaches (content_of t) n) (says_to t (talk t) (Some f) peer m) (wrong_message t f peer) (λ e. one_says t (talk t) (Some f) peer (Line (text_of m)) o refl) (λ e. wrong_says t f peer o))

put_says : (t : Turn) (f : FrameView) (peer : ℕ) (phase : Phase) (m : Message) → Open t peer → Says t (takes_put t f peer phase m)
put_says t f peer (PutsOffer p) AlreadyHave o = tt
put_says t f peer (PutsOffer p) Failure o = tt
put_says t f peer (PutsOffer p) (Error text) o = if_either (Says t) (bytes_eq text (codes "busy")) (hears t f) (wrong_message t f peer) (λ e. tt) (λ e. wrong_says t f peer o)
put_says t f peer (PutsOffer p) (PutFrom n) o = from_says t f peer n o
put_says t f peer (PutsAnswer p start) Success o = tt
put_says t f peer (PutsAnswer p start) Failure o = tt
put_says t f peer phase m o = wrong_says t f peer o

-- the target of a remote drop that awaits a timestamp is the partner
at_target : (t : Turn) (peer : ℕ) (phase : Phase) → partner t.w.what.peer phase ≡ Some peer → Open t peer → phase ≡ AsksTime → side_of t.w ≡ Remote → Open t (target t)
at_target t peer phase on o is side =
    let what : t.w.what.peer ≡ Some peer = subst (λ x. partner t.w.what.peer x ≡ Some peer) is on in
    let same : target t ≡ peer = ap (λ x. Jobs.or_own (me t) x t.w.what.peer) side ∙ ap (λ x. Jobs.or_own (me t) Remote x) what in
    subst (Open t) (sym same) o

answer_says : (t : Turn) (f : FrameView) (peer : ℕ) (part : Part) (phase : Phase) (m : Message) → partner t.w.what.peer phase ≡ Some peer → Open t peer → Says t (takes_answer t f peer part phase m)
answer_says t f peer Gets phase m on o = get_says t f peer phase m o
answer_says t f peer Puts phase m on o = put_says t f peer phase m o
answer_says t f peer Drops phase m on o = drop_says t f peer phase m o (at_target t peer phase on o)

takes_says : (t : Turn) (f : FrameView) (peer : ℕ) (phase : Phase) (m : Message) → partner t.w.what.peer phase ≡ Some peer → Open t peer → Says t (takes t f peer phase m)
takes_says t f peer (Opens p) (AuthSuccess id) on o = one_says t (talk t) (Some f) peer (Line (text_of (Version 3))) o refl
takes_says t f peer (Greets p) (Version n) on o = if_either (Says t) (nat_le n 3) (asks t n (Some f) peer t.w.part) (wrong_message t f peer) (λ e. asks_says t n (Some f) peer t.w.part o) (λ e. wrong_says t f peer o)
takes_says t f peer phase m on o = answer_says t f peer t.w.part phase m on o

text_says : (t : Turn) (f : FrameView) (peer : ℕ) (m : Option Message) → partner t.w.what.peer t.w.phase ≡ Some peer → Open t peer → Says t (takes_text t f peer m)
text_says t f peer None on o = wrong_says t f peer o
text_says t f peer (Some m) on o = takes_says t f peer t.w.phase m on o

frame_says : (t : Turn) (peer : ℕ) (f : FrameView) (body : FrameText) → partner t.w.what.peer t.w.phase ≡ Some peer → Open t peer → Says t (takes_frame t peer f body)
frame_says t peer f Opening on o = wrong_says t f peer o
frame_says t peer f Closing on o = tt
frame_says t peer f (Bytes n) on o = bytes_says t f peer n t.w.phase o
frame_says t peer f (Line text) on o = text_says t f peer (message_of text) on o

-- ---- the step

on_says : (t : Turn) (m : Effect) → OnOpen t t.w.phase → goes_on t ≡ Some m → Says t m
on_says t m o e = go (list_all (has_room t) (needs t t.w.phase)) e
  where
    go : (b : Bool) → (if b then Some (goes t t.w.phase) else None) ≡ Some m → Says t m
    go true g = let same : goes t t.w.phase ≡ m = cc in subst (Says t) same (goes_says t t.w.phase o)
    go false g = absurd (cc)

awaits_says : (t : Turn) (peer : ℕ) (m : Effect) → partner t.w.what.peer t.w.phase ≡ Some peer → Open t peer → (f : Option FrameView) → awaits t peer f ≡ Some m → Says t m
awaits_says t peer m on o None e = absurd (cc)
awaits_says t peer m on o (Some f) e = go (has_room t peer) e
  where
    go : (b : Bool) → (if b then Some (takes_frame t peer f f.body) else None) ≡ Some m → Says t m
    go true g = let same : takes_frame t peer f f.body ≡ m = cc in subst (Says t) same (frame_says t peer f f.body on o)
    go false g = absurd (cc)

with_says : (t : Turn) (peer : ℕ) (m : Effect) → partner t.w.what.peer t.w.phase ≡ Some peer → (b : Bool) → (end_with t peer).opened ≡ b → with_partner t peer b ≡ Some m → Says t m
with_says t peer m on false o e = let same : quietly (talk t) None ≡ m = cc in subst (Says t) same tt
with_says t peer m on true o e = go (is_awaiting t.w.phase) e
  where
    go : (b : Bool) → (if b then awaits t peer (waiting_frame (end_with t peer) t.look (job_end t.w peer)) else goes_on t) ≡ Some m → Says t m
    go true g = awaits_says t peer m on o (waiting_frame (end_with t peer) t.look (job_end t.w peer)) g
    go false g = on_says t m (λ p is. let same : Some peer ≡ Some p = sym on ∙ is in let it : peer ≡ p = cc in subst (Open t) it o) g

partner_says : (t : Turn) (m : Effect) (p : Option ℕ) → partner t.w.what.peer t.w.phase ≡ p → by_partner t p ≡ Some m → Says t m
partner_says t m None on e = on_says t m (λ p is. absurd (let no' : None ≡ Some p = sym on ∙ is in cc)) e
partner_says t m (Some peer) on e = with_says t peer m on (end_with t peer).opened refl e

-- a job's entry speaks where the job in the slot may
pub record JobSpeaks (s : SetUp) (st : State) (k : Look) (m : Effect) : Type 0 where
  pub w : Work
  pub slot : ℕ
  pub runs : find (λ w. w.slot == slot) st.works ≡ Some w
  pub says : Says (turn_of s st k w) m

slot_says : (s : SetUp) (st : State) (k : Look) (slot : ℕ) (m : Effect) (w : Option Work) → find (λ w. w.slot == slot) st.works ≡ w → slot_step s st k w ≡ Some m → JobSpeaks s st k m
slot_says s st k slot m None is e = absurd (cc)
slot_says s st k slot m (Some w) is e = record { w = w; slot = slot; runs = is; says = partner_says (turn_of s st k w) m (partner w.what.peer w.phase) refl e }

pub job_speaks : (s : SetUp) (st : State) (k : Look) (m : Effect) → job_step s st k ≡ Some m → JobSpeaks s st k m
job_speaks s st k m e =
    let x = first_some-was (λ slot. slot_step s st k (find (λ w. w.slot == slot) st.works)) slots m e in
    slot_says s st k x.0 m (find (λ w. w.slot == x.0) st.works) refl x.2
