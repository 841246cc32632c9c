-- What the step of a job takes.
use Rattle.std.proofs.Common.{◌≡◌, ℕ, ◌+◌, ◌^◌, Bool, true, false, List, [], ◌∷◌, Option, Some, None, ◌⊎◌, inl, inr, refl, subst}
use Rattle.std.specs.Prelude.{bytes_eq, codes, ◌&&◌, ◌==◌, if◌then◌else◌, nat_le, nat_lt}
use Rattle.std.specs.List.{list_all}
use Rattle.std.proofs.lemmas.Bool.{and_parts}
use Rattle.annex_base.proofs.Conditions.{if_either}
use Rattle.annex_base.proofs.Lists.{find_member}
use Rattle.annex_base.specs.declared.kinds.Call.{Call}
use Rattle.annex_base.specs.declared.kinds.Call.TheVariants as calls
use Rattle.annex_base.specs.Bools.{same_bool}
use Rattle.drop_proof.specs.declared.rule.Side.{Side}
use Rattle.drop_proof.specs.declared.rule.Side.TheVariants.{Local, Remote}
use Rattle.run_data.specs.declared.entry.EntryKind.TheVariants.{Fault}
use Rattle.run_data.specs.declared.entry.FrameView.{FrameView}
use Rattle.run_data.specs.declared.entry.FrameText.{FrameText}
use Rattle.run_data.specs.declared.entry.FrameText.TheVariants.{Opening, Closing, Bytes, Line}
use Rattle.run_data.specs.declared.job.Outcome.{Outcome}
use Rattle.run_data.specs.declared.job.Outcome.TheVariants.{Got, Refused, TransferRefused}
use Rattle.run_data.specs.declared.job.DropRefusal.{DropRefusal}
use Rattle.run_data.specs.declared.job.DropRefusal.TheVariants as refusals
use Rattle.run_data.specs.declared.job.TransferRefusal.TheVariants as failures
use Rattle.p2p_wire.specs.declared.message.Message.{Message}
use Rattle.p2p_wire.specs.declared.message.Message.TheVariants.{AlreadyHave, AuthSuccess, Data, Error, Failure, Invalid, PutFrom, Success, Timestamp, Valid, Version}
use Rattle.p2p_wire.specs.Messages.{message_of}
use Rattle.node_model.specs.Ends.{may_take, takes_at}
use Rattle.node_model.specs.Evidence.{Asked, Standing}
use Rattle.node_model.specs.Jobs
use Rattle.node_model.specs.Jobs.{AsksLock, AsksLook, AsksTime, Drops, Fresh, Gets, GetsBytes, GetsData, GetsWord, Greets, Next, Opens, Part, Phase, Puts, PutsAnswer, PutsBytes, PutsOffer, PutsWord, Work, is_move, job_end, side_of}
use Rattle.node_model.specs.Look.{Effect, failing_call, unless, waiting_frame}
use Rattle.node_model.specs.Calls.{to_commit, to_hold}
use Rattle.node_model.specs.Clocks.{hold_time}
use Rattle.node_model.specs.Knows.{enough_by, next_by}
use Rattle.node_model.specs.JobStep.{Turn, attempts, bar_there, by_me, clock_of, end_with, ends, is_there, key_of, me, quietly, talk}
use Rattle.node_model.specs.DropStep.{asks_copy, asks_target, bars, expiry, first_drop, first_end, first_remote, held_until, in_time, lacking_outcome, own_share, removes, required_there, row_refusal, takes_drop, takes_time, target, times, tries_own}
use Rattle.node_model.specs.Requests.{asks, goes_to}
use Rattle.node_model.specs.Sessions.{reaches}
use Rattle.node_model.specs.Slots.{job_of}
use Rattle.node_model.specs.TransferStep.{content_of, first_get, first_put, gains, next_get, next_source, puts_from, takes_bytes, takes_get, takes_put}
use Rattle.node_model.specs.Turns.{awaits, by_partner, first_step, goes, goes_on, has_room, is_awaiting, judges, needs, next_step, outcome_of, takes, takes_answer, takes_frame, takes_text, with_partner}
use Rattle.fleet_model.proofs.JobsStored.{EffectFits, frame_fits}
use Rattle.fleet_model.proofs.Working.{IsFit}

-- ---- it took this frame, or none, by an entry of the job

abbrev Took : Turn → Option FrameView → Effect → Type 0
Took t taken m = (m.taken ≡ taken) × (job_of m.kind ≡ Some t.w.number)

attempts_took : (t : Turn) (cs : List Call) (taken : Option FrameView) (m : Effect) → Took t taken m → Took t taken (attempts t cs taken m)
attempts_took t cs taken m took = go (failing_call t.look.fails cs)
  where
    go : (c : Option Call) → Took t taken (unless c (λ call. quietly (Fault call (by_me t)) taken) m)
    go None = took
    go (Some call) = (refl, refl)

ends_took : (t : Turn) (taken : Option FrameView) (outcome : Outcome) → Took t taken (ends t taken outcome)
ends_took t taken outcome = attempts_took t _ taken _ (refl, refl)

-- ---- the first request

target_took : (t : Turn) (version : ℕ) (taken : Option FrameView) (end : Option ℕ) → Took t taken (asks_target t version taken end)
target_took t version taken None = (refl, refl)
target_took t version taken (Some end) = if_either (Took t taken) (nat_lt version 3) _ _ (λ e. (refl, refl)) (λ e. (refl, refl))

copy_took : (t : Turn) (version : ℕ) (taken : Option FrameView) (peer : ℕ) (side : Side) → Took t taken (asks_copy t version taken peer side)
copy_took t version taken peer Local = (refl, refl)
copy_took t version taken peer Remote = if_either (Took t taken) (target t == peer) _ _ (λ e. target_took t version taken (first_end t)) (λ e. (refl, refl))

asks_took : (t : Turn) (version : ℕ) (taken : Option FrameView) (peer : ℕ) (part : Part) → Took t taken (asks t version taken peer part)
asks_took t version taken peer Gets = attempts_took t _ taken _ (refl, refl)
asks_took t version taken peer Puts = (refl, refl)
asks_took t version taken peer Drops = copy_took t version taken peer (side_of t.w)

goes_to_took : (t : Turn) (peer : ℕ) → Took t None (goes_to t peer)
goes_to_took t peer = if_either (Took t None) (end_with t peer).opened _ _ (λ e. asks_took t t.w.version None peer t.w.part) (λ e. (refl, refl))

-- ---- the steps of a drop that take no frame

bars_took : (t : Turn) (why : Option DropRefusal) → Took t None (bars t why)
bars_took t (Some refusal) = ends_took t None (Refused refusal)
bars_took t None = (refl, refl)

own_made : (t : Turn) (hold end : ℕ) (here : Bool) (bar : Option ℕ) → job_of (own_share hold end t.w.number (key_of t) (talk t) (by_me t) here bar) ≡ Some t.w.number
own_made t hold end true None = refl
own_made t hold end here bar = refl

own_took : (t : Turn) (standing : Standing) → Took t None (tries_own t standing)
own_took t Asked = attempts_took t (to_hold (is_there t) (bar_there t)) None _ (refl, own_made t t.number (clock_of t + hold_time) (is_there t) (bar_there t))
own_took t standing = (refl, refl)

remote_took : (t : Turn) (required : Option (List ℕ)) → Took t None (first_remote t required)
remote_took t (Some text) = ends_took t None (Refused (refusals.Required text))
remote_took t None = own_took t (t.read.standing (me t))

first_took : (t : Turn) (side : Side) → Took t None (first_drop t side)
first_took t Local = attempts_took t (calls.Has ∷ []) None _ (bars_took t (row_refusal (is_there t) (required_there t) (bar_there t) (held_until t)))
first_took t Remote = remote_took t (required_there t)

removes_took : (t : Turn) → Took t None (removes t)
removes_took t =
    if_either (Took t None) (in_time (clock_of t) (first_end t)) _ _
    (λ e. attempts_took t (calls.Remove ∷ []) None _ (refl, refl)) (λ e. ends_took t None (expiry (clock_of t) (first_end t)))

judges_took : (t : Turn) (enough : Bool) (next : Option ℕ) (side : Side) → Took t None (judges t enough next side)
judges_took t false (Some peer) side = goes_to_took t peer
judges_took t false None side = ends_took t None (lacking_outcome t)
judges_took t true next Local = removes_took t
judges_took t true next Remote = goes_to_took t (target t)

-- ---- those of a transfer

first_get_took : (t : Turn) (here filled : Bool) (source : Option ℕ) → Took t None (first_get t here filled source)
first_get_took t true filled source = if_either (Took t None) (is_move t.w.what.kind) _ _ (λ e. (refl, refl)) (λ e. ends_took t None (Got None None))
first_get_took t false true source = ends_took t None (TransferRefused failures.Busy)
first_get_took t false false None = (refl, refl)
first_get_took t false false (Some peer) = goes_to_took t peer

next_get_took : (t : Turn) (source : Option ℕ) → Took t None (next_get t source)
next_get_took t None = ends_took t None (TransferRefused (failures.NoSource t.w.causes))
next_get_took t (Some peer) = goes_to_took t peer

first_put_took : (t : Turn) (here : Bool) (peer : Option ℕ) → Took t None (first_put t here peer)
first_put_took t true (Some peer) = goes_to_took t peer
first_put_took t here peer = ends_took t None (TransferRefused failures.NotHere)

-- ---- those of any job

first_step_took : (t : Turn) (part : Part) → Took t None (first_step t part)
first_step_took t Gets = attempts_took t (calls.Has ∷ []) None _ (first_get_took t (is_there t) (t.filled (key_of t)) (next_source t))
first_step_took t Puts = attempts_took t (calls.Has ∷ []) None _ (first_put_took t (is_there t) t.w.what.peer)
first_step_took t Drops = first_took t (side_of t.w)

next_step_took : (t : Turn) (part : Part) → Took t None (next_step t part)
next_step_took t Drops = judges_took t (enough_by t.read t.w) (next_by t.read t.w) (side_of t.w)
next_step_took t part = next_get_took t (next_source t)

goes_took : (t : Turn) (phase : Phase) → Took t None (goes t phase)
goes_took t Fresh = first_step_took t t.w.part
goes_took t Next = next_step_took t t.w.part
goes_took t (PutsBytes peer start at left) = attempts_took t (calls.Read ∷ []) None _ (refl, refl)
goes_took t (PutsWord peer start) = (refl, refl)
goes_took t phase = ends_took t None (outcome_of t phase)

-- ---- the steps that take a frame

times_took : (t : Turn) (f : FrameView) (n : ℕ) (end : Option ℕ) → Took t (Some f) (times t f n end)
times_took t f n None = (refl, refl)
times_took t f n (Some end) = if_either (Took t (Some f)) (nat_lt (clock_of t) end) _ _ (λ e. (refl, refl)) (λ e. ends_took t (Some f) (Refused (refusals.Expired end (clock_of t))))

time_took : (t : Turn) (f : FrameView) (peer n : ℕ) (side : Side) → Took t (Some f) (takes_time t f peer n side)
time_took t f peer n Local = (refl, refl)
time_took t f peer n Remote = if_either (Took t (Some f)) (nat_lt n (2 ^ 61)) _ _ (λ e. times_took t f n (first_end t)) (λ e. (refl, refl))

drop_took : (t : Turn) (f : FrameView) (peer : ℕ) (phase : Phase) (m : Message) → Took t (Some f) (takes_drop t f peer phase m)
drop_took t f peer (AsksLock p since) Success = (refl, refl)
drop_took t f peer (AsksLock p since) Failure = (refl, refl)
drop_took t f peer (AsksLook p) Success = (refl, refl)
drop_took t f peer (AsksLook p) Failure = (refl, refl)
drop_took t f peer AsksTime (Timestamp n) = time_took t f peer n (side_of t.w)
drop_took t f peer Jobs.Orders Success = (refl, refl)
drop_took t f peer Jobs.Orders Failure = (refl, refl)
drop_took t f peer phase m = (refl, refl)

gains_took : (t : Turn) (f : FrameView) (peer size : ℕ) (right : Bool) → Took t (Some f) (gains t f peer size right)
gains_took t f peer size true = (refl, refl)
gains_took t f peer size false = (refl, refl)

get_took : (t : Turn) (f : FrameView) (peer : ℕ) (phase : Phase) (m : Message) → Took t (Some f) (takes_get t f peer phase m)
get_took t f peer (GetsData p start) (Data n) = (refl, refl)
get_took t f peer (GetsWord p start size) Valid = attempts_took t (to_commit t.look.right) (Some f) _ (gains_took t f peer size t.look.right)
get_took t f peer (GetsWord p start size) Invalid = (refl, refl)
get_took t f peer phase m = (refl, refl)

from_took : (t : Turn) (f : FrameView) (peer n : ℕ) → Took t (Some f) (puts_from t f peer n)
from_took t f peer n = attempts_took t (calls.Size ∷ []) (Some f) _ (if_either (Took t (Some f)) (reaches (content_of t) n) _ _ (λ e. (refl, refl)) (λ e. (refl, refl)))

put_took : (t : Turn) (f : FrameView) (peer : ℕ) (phase : Phase) (m : Message) → Took t (Some f) (takes_put t f peer phase m)
put_took t f peer (PutsOffer p) AlreadyHave = (refl, refl)
put_took t f peer (PutsOffer p) Failure = (refl, refl)
put_took t f peer (PutsOffer p) (Error text) = if_either (Took t (Some f)) (bytes_eq text (codes "busy")) _ _ (λ e. (refl, refl)) (λ e. (refl, refl))
put_took t f peer (PutsOffer p) (PutFrom n) = from_took t f peer n
put_took t f peer (PutsAnswer p start) Success = (refl, refl)
put_took t f peer (PutsAnswer p start) Failure = (refl, refl)
put_took t f peer phase m = (refl, refl)

answer_took : (t : Turn) (f : FrameView) (peer : ℕ) (part : Part) (phase : Phase) (m : Message) → Took t (Some f) (takes_answer t f peer part phase m)
answer_took t f peer Gets phase m = get_took t f peer phase m
answer_took t f peer Puts phase m = put_took t f peer phase m
answer_took t f peer Drops phase m = drop_took t f peer phase m

message_took : (t : Turn) (f : FrameView) (peer : ℕ) (phase : Phase) (m : Message) → Took t (Some f) (takes t f peer phase m)
message_took t f peer (Opens p) (AuthSuccess id) = (refl, refl)
message_took t f peer (Greets p) (Version n) = if_either (Took t (Some f)) (nat_le n 3) _ _ (λ e. asks_took t n (Some f) peer t.w.part) (λ e. (refl, refl))
message_took t f peer phase m = answer_took t f peer t.w.part phase m

text_took : (t : Turn) (f : FrameView) (peer : ℕ) (m : Option Message) → Took t (Some f) (takes_text t f peer m)
text_took t f peer None = (refl, refl)
text_took t f peer (Some m) = message_took t f peer t.w.phase m

bytes_took : (t : Turn) (f : FrameView) (peer n : ℕ) (phase : Phase) → Took t (Some f) (takes_bytes t f peer n phase)
bytes_took t f peer n (GetsBytes p start size left) =
    if_either (Took t (Some f)) (nat_lt 0 n && nat_le n left) _ _ (λ e. attempts_took t (calls.Append ∷ []) (Some f) _ (refl, refl)) (λ e. (refl, refl))
bytes_took t f peer n phase = (refl, refl)

frame_took : (t : Turn) (peer : ℕ) (f : FrameView) (body : FrameText) → Took t (Some f) (takes_frame t peer f body)
frame_took t peer f Opening = (refl, refl)
frame_took t peer f Closing = (refl, refl)
frame_took t peer f (Bytes n) = bytes_took t f peer n t.w.phase
frame_took t peer f (Line text) = text_took t f peer (message_of text)

-- ---- the step of a job

-- a job took this frame, which came to a client
pub record IsHeard (w : Work) (m : Effect) (f : FrameView) : Type 0 where
  pub taken : m.taken ≡ Some f
  pub made : job_of m.kind ≡ Some w.number
  pub down : f.up ≡ false
  pub fits : EffectFits w f.body m

abbrev pub HearsAtMost : Work → Effect → Type 0
HearsAtMost w m = (m.taken ≡ None) ⊎ ((f : FrameView) × IsHeard w m f)

pub to_client : (w : Work) (peer : ℕ) (f : FrameView) → takes_at (job_end w peer) f ≡ true → f.up ≡ false
to_client w peer f e = go f.up (and_parts ((f.peer == peer) && (f.slot == w.slot)) _ e).1
  where
    go : (b : Bool) → same_bool true (if b then false else true) ≡ true → b ≡ false
    go true g = absurd (cc)
    go false g = refl

on_hears : (t : Turn) (m : Effect) → goes_on t ≡ Some m → HearsAtMost t.w m
on_hears t m e = go (list_all (has_room t) (needs t t.w.phase)) e
  where
    go : (b : Bool) → (if b then Some (goes t t.w.phase) else None) ≡ Some m → HearsAtMost t.w m
    go true g =
        let same : goes t t.w.phase ≡ m = cc in
        inl (subst (λ (x : Effect). x.taken ≡ None) same (goes_took t t.w.phase).0)
    go false g = absurd (cc)

awaits_hears : (t : Turn) (peer : ℕ) (m : Effect) → IsFit t.w → (f : Option FrameView) → waiting_frame (end_with t peer) t.look (job_end t.w peer) ≡ f → awaits t peer f ≡ Some m → HearsAtMost t.w m
awaits_hears t peer m fit None is e = absurd (cc)
awaits_hears t peer m fit (Some f) is e = go (has_room t peer) e
  where
    go : (b : Bool) → (if b then Some (takes_frame t peer f f.body) else None) ≡ Some m → HearsAtMost t.w m
    go false g = absurd (cc)
    go true g =
        let same : takes_frame t peer f f.body ≡ m = cc in
        let was = find_member (λ g. takes_at (job_end t.w peer) g && may_take (end_with t peer) g) t.look.at_hand f is in
        let both = and_parts (takes_at (job_end t.w peer) f) (may_take (end_with t peer) f) was.1 in
        let took = frame_took t peer f f.body in
        inr (
          f,
          subst (λ (x : Effect). IsHeard t.w x f) same (record {
            taken = took.0;
            made = took.1;
            down = to_client t.w peer f both.0;
            fits = frame_fits t peer f f.body fit;
          }),
        )

with_hears : (t : Turn) (peer : ℕ) (m : Effect) → IsFit t.w → (b : Bool) → with_partner t peer b ≡ Some m → HearsAtMost t.w m
with_hears t peer m fit false e =
    let same : quietly (talk t) None ≡ m = cc in inl (subst (λ (x : Effect). x.taken ≡ None) same refl)
with_hears t peer m fit true e = go (is_awaiting t.w.phase) e
  where
    go : (b : Bool) → (if b then awaits t peer (waiting_frame (end_with t peer) t.look (job_end t.w peer)) else goes_on t) ≡ Some m → HearsAtMost t.w m
    go true g = awaits_hears t peer m fit (waiting_frame (end_with t peer) t.look (job_end t.w peer)) refl g
    go false g = on_hears t m g

pub partner_hears : (t : Turn) (m : Effect) (p : Option ℕ) → IsFit t.w → by_partner t p ≡ Some m → HearsAtMost t.w m
partner_hears t m None fit e = on_hears t m e
partner_hears t m (Some peer) fit e = with_hears t peer m fit (end_with t peer).opened e
