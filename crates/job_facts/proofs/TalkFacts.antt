-- What a job's talk says, by the part of the job and by where it stands; and where a job stands that orders a removal.
use Rattle.node_model.specs.Clocks.{hold_time}
use Rattle.std.proofs.Common.{◌≡◌, ℕ, ◌+◌, ◌-◌, ◌/◌, ◌^◌, Bool, true, false, List, [], ◌∷◌, Option, Some, None, ◌⊎◌, inl, inr, refl, sym, ap, ◌∙◌, subst}
use Rattle.std.specs.Prelude.{if◌then◌else◌, ◌==◌, ◌&&◌, not, min, nat_lt, nat_le, bytes_eq, codes}
use Rattle.std.specs.List.{list_all}
use Rattle.std.proofs.lemmas.Bool.{eqb-true}
use Rattle.annex_base.specs.declared.kinds.Call.{Call}
use Rattle.annex_base.proofs.Conditions.{if_either}
use Rattle.annex_base.specs.declared.kinds.Call.TheVariants as calls
use Rattle.drop_proof.specs.declared.rule.Side.{Side}
use Rattle.drop_proof.specs.declared.rule.Side.TheVariants.{Local, Remote}
use Rattle.run_data.specs.declared.entry.EntryKind.{EntryKind}
use Rattle.run_data.specs.declared.entry.EntryKind.TheVariants.{Fault, Gone, Order, Talk, End as ends_job}
use Rattle.run_data.specs.declared.entry.FrameView.{FrameView}
use Rattle.run_data.specs.declared.entry.FrameText.{FrameText}
use Rattle.run_data.specs.declared.entry.FrameText.TheVariants.{Opening, Closing, Bytes, Line}
use Rattle.run_data.specs.declared.job.Outcome.{Outcome}
use Rattle.run_data.specs.declared.job.Outcome.TheVariants.{Got, Refused, TransferRefused}
use Rattle.run_data.specs.declared.job.DropRefusal.TheVariants as refusals
use Rattle.run_data.specs.declared.job.TransferRefusal.TheVariants as failures
use Rattle.node_model.specs.Rows.{is_lost_ordered}
use Rattle.node_model.specs.State.{State}
use Rattle.node_model.specs.Evidence.{Standing, Asked}
use Rattle.node_model.specs.SetUp.{SetUp}
use Rattle.node_model.specs.Ends.{frames}
use Rattle.p2p_wire.specs.declared.message.Message.{Message}
use Rattle.p2p_wire.specs.declared.message.Message.TheVariants.{AuthSuccess, Version, CheckPresent, LockContent, RemoveBefore, GetTimestamp, Timestamp, Get, Put, PutFrom, AlreadyHave, Data, Valid, Invalid, Success, Failure, Error}
use Rattle.p2p_wire.specs.Messages.{message_of, text_of}
use Rattle.node_model.specs.Sessions.{reaches}
use Rattle.node_model.specs.Jobs
use Rattle.node_model.specs.Jobs.{Part, Gets, Puts, Drops, Phase, Fresh, Next, Opens, Greets, GetsData, GetsBytes, GetsWord, PutsOffer, PutsBytes, PutsWord, PutsAnswer, AsksLock, AsksLook, AsksTime, Removed, Denied, Late, Ends, is_move, Work, job_end, partner, side_of}
use Rattle.node_model.specs.Calls.{to_commit, to_hold, to_release, to_resume}
use Rattle.node_model.specs.Look.{Look, Effect, failing_call, waiting_frame}
use Rattle.node_model.specs.SessionStep.{bytes_left}
use Rattle.node_model.specs.Knows.{enough_by, next_by}
use Rattle.node_model.specs.JobStep.{Turn, hears, turn_of, attempts, bar_there, by_me, clock_of, end_with, ends, farewells, is_there, key_of, me, owns_share, quietly, says_to, sends_to, talk, wrong_message}
use Rattle.node_model.specs.DropStep.{takes_drop, takes_time, asks_copy, asks_lock, asks_target, bars, expiry, first_drop, first_end, first_remote, held_until, in_time, lacking_outcome, orders, own_share, removes, required_there, row_refusal, shares, target, times, tries_own}
use Rattle.node_model.specs.Requests.{asks, goes_to}
use Rattle.node_model.specs.TransferStep.{takes_get, takes_put, content_of, first_get, first_put, gains, next_get, next_source, puts_from, puts_piece, takes_bytes}
use Rattle.node_model.specs.Turns.{takes_answer, awaits, by_partner, goes_on, has_room, needs, slot_step, with_partner, is_awaiting, first_step, goes, judges, next_step, outcome_of, takes, takes_frame, takes_text}
use Rattle.step_facts.proofs.Cases.{unless_found}

-- ---- what it says

-- the job has begun its part, and its outcome doesn't stand yet
abbrev pub under_way : Phase → Bool
under_way Fresh = false
under_way Removed = false
under_way Denied = false
under_way (Late time) = false
under_way (Ends outcome) = false
under_way phase = true

-- a drop goes to the candidate that it asks next, while it lacks evidence, or to its target, when it has enough
abbrev pub Chosen : Turn → ℕ → Type 0
Chosen t peer = ((enough_by t.read t.w ≡ false) × (next_by t.read t.w ≡ Some peer)) ⊎ ((enough_by t.read t.w ≡ true) × (side_of t.w ≡ Remote) × (peer ≡ target t))

-- a remote drop asks its target for no copy
abbrev pub Apart : Turn → ℕ → Type 0
Apart t peer = side_of t.w ≡ Remote → (target t == peer) ≡ false

-- a drop's message to a peer, by where it stands
abbrev pub DropAsks : Turn → ℕ → Phase → Message → Type 0
DropAsks t peer (Opens p) (Version n) = p ≡ peer
DropAsks t peer (Greets p) (LockContent key) = (p ≡ peer) × (key ≡ key_of t) × Apart t peer
DropAsks t peer (Greets p) GetTimestamp = (p ≡ peer) × (peer ≡ target t) × (side_of t.w ≡ Remote)
DropAsks t peer Next (LockContent key) = (key ≡ key_of t) × Chosen t peer × Apart t peer × ((end_with t peer).opened ≡ true)
DropAsks t peer Next GetTimestamp = Chosen t peer × (peer ≡ target t) × (side_of t.w ≡ Remote)
DropAsks t peer (AsksLock p since) (CheckPresent key) = (p ≡ peer) × (key ≡ key_of t)
DropAsks t peer phase m = ⊥

abbrev pub GetAsks : Message → Type 0
GetAsks (Version n) = Unit {0}
GetAsks (Get n file key) = Unit {0}
GetAsks Failure = Unit {0}
GetAsks m = ⊥

abbrev pub PutAsks : Message → Type 0
PutAsks (Version n) = Unit {0}
PutAsks (Put file key) = Unit {0}
PutAsks (Data n) = Unit {0}
PutAsks Valid = Unit {0}
PutAsks m = ⊥

abbrev pub PartAsks : Turn → ℕ → Part → Message → Type 0
PartAsks t peer Gets m = GetAsks m
PartAsks t peer Puts m = PutAsks m
PartAsks t peer Drops m = DropAsks t peer t.w.phase m

abbrev pub PartOpens : Turn → ℕ → Part → Type 0
PartOpens t peer Drops = (t.w.phase ≡ Next) × Chosen t peer
PartOpens t peer part = Unit {0}

abbrev pub PartSays : Turn → ℕ → Part → FrameText → Type 0
PartSays t peer part Opening = PartOpens t peer part
PartSays t peer part (Line text) = (m : Message) × (text ≡ text_of m) × PartAsks t peer part m
PartSays t peer part body = Unit {0}

-- a drop's first step, where it talks
pub record QuietStart (t : Turn) (taken : Option FrameView) (sent : List FrameView) : Type 0 where
  pub side : side_of t.w ≡ Remote
  pub takes_none : taken ≡ None
  pub sends_none : sent ≡ []

-- one frame to one peer
pub record SaysOne (t : Turn) (sent : List FrameView) : Type 0 where
  pub peer : ℕ
  pub body : FrameText
  pub sent_is : sent ≡ frames (job_end t.w peer) (end_with t peer) (body ∷ [])
  pub says : PartSays t peer t.w.part body

pub record TalkSays (t : Turn) (taken : Option FrameView) (sent : List FrameView) : Type 0 where
  pub first : t.w.part ≡ Drops → t.w.phase ≡ Fresh → QuietStart t taken sent
  pub under : t.w.part ≡ Drops → (t.w.phase ≡ Fresh) ⊎ (under_way t.w.phase ≡ true)
  pub says : (sent ≡ []) ⊎ SaysOne t sent

-- where a job stands that orders
abbrev pub OrderStands : Turn → Type 0
OrderStands t = ((t.w.phase ≡ Next) × Chosen t (target t)) ⊎ ((t.w.phase ≡ Greets (target t)) ⊎ (t.w.phase ≡ AsksTime))

abbrev pub TalkKind : Turn → Effect → EntryKind → Type 0
TalkKind t m (Talk j) = TalkSays t m.taken m.sent
TalkKind t m (Order j peer deadline need key) = OrderStands t
TalkKind t m kind = Unit {0}

abbrev pub Talks : Turn → Effect → Type 0
Talks t m = TalkKind t m m.kind

-- a drop is under way
abbrev pub Begun : Turn → Type 0
Begun t = t.w.part ≡ Drops → under_way t.w.phase ≡ true

not_fresh : (t : Turn) → Begun t → t.w.part ≡ Drops → t.w.phase ≡ Fresh → ⊥
not_fresh t begun part fresh = let is : under_way Fresh ≡ true = subst (λ p. under_way p ≡ true) fresh (begun part) in cc

at_under : (t : Turn) (phase : Phase) → t.w.phase ≡ phase → under_way phase ≡ true → under_way t.w.phase ≡ true
at_under t phase is under = subst (λ p. under_way p ≡ true) (sym is) under

-- ---- what all jobs share

attempts_talks : (t : Turn) (cs : List Call) (taken : Option FrameView) (m : Effect) → Talks t m → Talks t (attempts t cs taken m)
attempts_talks t cs taken m g = unless_found (Talks t) (failing_call t.look.fails cs) (λ call. quietly (Fault call (by_me t)) taken) m (λ call. tt) g

quiet_talks : (t : Turn) (taken : Option FrameView) → Begun t → Talks t (quietly (talk t) taken)
quiet_talks t taken begun = record { first = λ part fresh. absurd (not_fresh t begun part fresh); under = λ part. inr (begun part); says = inl refl }

sends_talks : (t : Turn) (taken : Option FrameView) (peer : ℕ) (body : FrameText) → Begun t → PartSays t peer t.w.part body → Talks t (sends_to t (talk t) taken peer (body ∷ []))
sends_talks t taken peer body begun says = record { first = λ part fresh. absurd (not_fresh t begun part fresh); under = λ part. inr (begun part); says = inr (record { peer = peer; body = body; sent_is = refl; says = says }) }

says_talks : (t : Turn) (taken : Option FrameView) (peer : ℕ) (m : Message) → Begun t → PartAsks t peer t.w.part m → Talks t (says_to t (talk t) taken peer m)
says_talks t taken peer m begun asks = sends_talks t taken peer (Line (text_of m)) begun (m, refl, asks)

wrong_talks : (t : Turn) (f : FrameView) (peer : ℕ) → Begun t → Talks t (wrong_message t f peer)
wrong_talks t f peer begun = sends_talks t (Some f) peer Closing begun tt

ends_talks : (t : Turn) (taken : Option FrameView) (outcome : Outcome) → Talks t (ends t taken outcome)
ends_talks t taken outcome =
    let good : Effect = record { kind = ends_job t.w.number outcome; taken = taken; sent = farewells t (is_lost_ordered outcome); lines = []; calls = [] } in
    attempts_talks t (to_release (owns_share t && not (is_lost_ordered outcome))) taken good tt

-- ---- the first steps of a drop

bars_talks : (t : Turn) (here : Bool) (required : Option (List ℕ)) (bar : Option ℕ) (held : Option (Option ℕ)) → Talks t (bars t (row_refusal here required bar held))
bars_talks t false required bar held = ends_talks t None (Refused refusals.NotPresent)
bars_talks t true (Some text) bar held = ends_talks t None (Refused (refusals.Required text))
bars_talks t true None (Some j) held = ends_talks t None (Refused (refusals.Barred j))
bars_talks t true None None (Some end) = ends_talks t None (Refused (refusals.Held end))
bars_talks t true None None None = tt

start_talks : (t : Turn) → t.w.phase ≡ Fresh → side_of t.w ≡ Remote → Talks t (quietly (talk t) None)
start_talks t fresh side = record { first = λ part fresh. record { side = side; takes_none = refl; sends_none = refl }; under = λ part. inl fresh; says = inl refl }

shares_talks : (t : Turn) → t.w.phase ≡ Fresh → side_of t.w ≡ Remote → Talks t (shares t)
shares_talks t fresh side = attempts_talks t (to_hold (is_there t) (bar_there t)) None (made_of (is_there t) (bar_there t)) (go (is_there t) (bar_there t))
  where
    made_of : Bool → Option ℕ → Effect
    made_of here bar = quietly (own_share (t.number) (clock_of t + hold_time) t.w.number (key_of t) (talk t) (by_me t) here bar) None

    go : (here : Bool) (bar : Option ℕ) → Talks t (made_of here bar)
    go false bar = start_talks t fresh side
    go true (Some j) = start_talks t fresh side
    go true None = tt

own_talks : (t : Turn) → t.w.phase ≡ Fresh → side_of t.w ≡ Remote → (standing : Standing) → Talks t (tries_own t standing)
own_talks t fresh side Asked = shares_talks t fresh side
own_talks t fresh side standing = start_talks t fresh side

remote_talks : (t : Turn) → t.w.phase ≡ Fresh → side_of t.w ≡ Remote → (required : Option (List ℕ)) → Talks t (first_remote t required)
remote_talks t fresh side (Some text) = ends_talks t None (Refused (refusals.Required text))
remote_talks t fresh side None = own_talks t fresh side (t.read.standing (me t))

first_drop_talks : (t : Turn) → t.w.phase ≡ Fresh → (side : Side) → side_of t.w ≡ side → Talks t (first_drop t side)
first_drop_talks t fresh Local side =
    attempts_talks t (calls.Has ∷ []) None (bars t (row_refusal (is_there t) (required_there t) (bar_there t) (held_until t)))
    (bars_talks t (is_there t) (required_there t) (bar_there t) (held_until t))
first_drop_talks t fresh Remote side = remote_talks t fresh side (required_there t)

-- ---- requests

-- a job that asks a peer stands at Next, or has its version
abbrev AsksAt : Turn → ℕ → Type 0
AsksAt t peer = ((t.w.phase ≡ Next) × Chosen t peer × ((end_with t peer).opened ≡ true)) ⊎ (t.w.phase ≡ Greets peer)

at_begun : (t : Turn) (peer : ℕ) → AsksAt t peer → Begun t
at_begun t peer (inl at) part = at_under t Next at.0 refl
at_begun t peer (inr at) part = at_under t (Greets peer) at refl

drop_asks : (t : Turn) (peer : ℕ) (m : Message) → t.w.part ≡ Drops → DropAsks t peer t.w.phase m → PartAsks t peer t.w.part m
drop_asks t peer m part asks = subst (λ p. PartAsks t peer p m) (sym part) asks

asks_lock_at : (t : Turn) (peer : ℕ) → AsksAt t peer → Apart t peer → DropAsks t peer t.w.phase (LockContent (key_of t))
asks_lock_at t peer (inl at) apart = subst (λ p. DropAsks t peer p (LockContent (key_of t))) (sym at.0) (refl, at.1, apart, at.2)
asks_lock_at t peer (inr at) apart = subst (λ p. DropAsks t peer p (LockContent (key_of t))) (sym at) (refl, refl, apart)

asks_time_at : (t : Turn) (peer : ℕ) → side_of t.w ≡ Remote → AsksAt t peer → peer ≡ target t → DropAsks t peer t.w.phase GetTimestamp
asks_time_at t peer side (inl at) same = subst (λ p. DropAsks t peer p GetTimestamp) (sym at.0) (at.1, same, side)
asks_time_at t peer side (inr at) same = subst (λ p. DropAsks t peer p GetTimestamp) (sym at) (refl, same, side)

order_at : (t : Turn) (peer : ℕ) → AsksAt t peer → peer ≡ target t → OrderStands t
order_at t peer (inl at) same = inl (at.0, subst (Chosen t) same at.1)
order_at t peer (inr at) same = inr (inl (at ∙ ap Greets same))

-- asked of the target itself
target_talks : (t : Turn) (version : ℕ) (taken : Option FrameView) → t.w.part ≡ Drops → side_of t.w ≡ Remote → AsksAt t (target t) → (end : Option ℕ) → Talks t (asks_target t version taken end)
target_talks t version taken part side at None = order_at t (target t) at refl
target_talks t version taken part side at (Some end) =
    if_either (Talks t) (nat_lt version 3) (quietly (talk t) taken) (says_to t (talk t) taken (target t) GetTimestamp)
    (λ e. quiet_talks t taken (at_begun t (target t) at))
    (λ e. says_talks t taken (target t) GetTimestamp (at_begun t (target t) at) (drop_asks t (target t) GetTimestamp part (asks_time_at t (target t) side at refl)))

lock_talks : (t : Turn) (taken : Option FrameView) (peer : ℕ) → t.w.part ≡ Drops → AsksAt t peer → Apart t peer → Talks t (asks_lock t taken peer)
lock_talks t taken peer part at apart =
    says_talks t taken peer (LockContent (key_of t)) (at_begun t peer at) (drop_asks t peer (LockContent (key_of t)) part (asks_lock_at t peer at apart))

copy_talks : (t : Turn) (version : ℕ) (taken : Option FrameView) (peer : ℕ) → t.w.part ≡ Drops → AsksAt t peer → (side : Side) → side_of t.w ≡ side → Talks t (asks_copy t version taken peer side)
copy_talks t version taken peer part at Local is = lock_talks t taken peer part at (λ remote. let no_side : Local ≡ Remote = sym is ∙ remote in absurd (cc))
copy_talks t version taken peer part at Remote is =
    if_either (Talks t) (target t == peer) (asks_target t version taken (first_end t)) (asks_lock t taken peer)
    (λ e. target_talks t version taken part is (subst (AsksAt t) (sym (eqb-true (target t) peer e)) at) (first_end t)) (λ e. lock_talks t taken peer part at (λ remote. e))

no_part : (t : Turn) (part : Part) → t.w.part ≡ part → (part ≡ Drops → ⊥) → Begun t
no_part t part is apart drops = absurd (apart (sym is ∙ drops))

asks_talks : (t : Turn) (version : ℕ) (taken : Option FrameView) (peer : ℕ) (part : Part) → t.w.part ≡ part → (part ≡ Drops → AsksAt t peer) → Talks t (asks t version taken peer part)
asks_talks t version taken peer Gets part at =
    attempts_talks t (to_resume t.look.part) taken (says_to t (talk t) taken peer (Get t.look.part [] (key_of t)))
    (says_talks t taken peer (Get t.look.part [] (key_of t)) (no_part t Gets part (λ e. cc)) (subst (λ p. PartAsks t peer p (Get t.look.part [] (key_of t))) (sym part) tt))
asks_talks t version taken peer Puts part at =
    says_talks t taken peer (Put [] (key_of t)) (no_part t Puts part (λ e. cc)) (subst (λ p. PartAsks t peer p (Put [] (key_of t))) (sym part) tt)
asks_talks t version taken peer Drops part at = copy_talks t version taken peer part (at refl) (side_of t.w) refl

opens_at : (t : Turn) (peer : ℕ) (part : Part) → (part ≡ Drops → (t.w.phase ≡ Next) × Chosen t peer) → PartOpens t peer part
opens_at t peer Gets at = tt
opens_at t peer Puts at = tt
opens_at t peer Drops at = at refl

goes_to_talks : (t : Turn) (peer : ℕ) → (t.w.part ≡ Drops → (t.w.phase ≡ Next) × Chosen t peer) → Talks t (goes_to t peer)
goes_to_talks t peer at =
    if_either (Talks t) (end_with t peer).opened (asks t t.w.version None peer t.w.part) (sends_to t (talk t) None peer (Opening ∷ []))
    (λ e. asks_talks t t.w.version None peer t.w.part refl (λ drops. let stands = at drops in inl (stands.0, stands.1, e)))
    (λ e. sends_talks t None peer Opening (λ drops. let stands = at drops in at_under t Next stands.0 refl) (opens_at t peer t.w.part at))

-- ---- what a drop judges

gone_talks : (t : Turn) → Talks t (removes t)
gone_talks t =
    if_either (Talks t) (in_time (clock_of t) (first_end t)) (attempts t (calls.Remove ∷ []) None (quietly (Gone (by_me t) (key_of t)) None)) (ends t None (expiry (clock_of t) (first_end t)))
    (λ e. attempts_talks t (calls.Remove ∷ []) None (quietly (Gone (by_me t) (key_of t)) None) tt)
    (λ e. ends_talks t None (expiry (clock_of t) (first_end t)))

judges_talks : (t : Turn) → t.w.phase ≡ Next → (enough : Bool) (next : Option ℕ) (side : Side)
    → enough_by t.read t.w ≡ enough → next_by t.read t.w ≡ next → side_of t.w ≡ side → Talks t (judges t enough next side)
judges_talks t phase false (Some peer) side enough next is = goes_to_talks t peer (λ drops. (phase, inl (enough, next)))
judges_talks t phase false None side enough next is = ends_talks t None (lacking_outcome t)
judges_talks t phase true next Local enough asked is = gone_talks t
judges_talks t phase true next Remote enough asked is = goes_to_talks t (target t) (λ drops. (phase, inr (enough, is, refl)))

-- ---- transfers

-- the job is at its transfer
abbrev Transfers : Turn → Type 0
Transfers t = t.w.part ≡ Drops → ⊥

transfer_begun : (t : Turn) → Transfers t → Begun t
transfer_begun t apart drops = absurd (apart drops)

transfer_goes : (t : Turn) (peer : ℕ) → Transfers t → Talks t (goes_to t peer)
transfer_goes t peer apart = goes_to_talks t peer (λ drops. absurd (apart drops))

first_get_talks : (t : Turn) → Transfers t → (here filled : Bool) (source : Option ℕ) → Talks t (first_get t here filled source)
first_get_talks t apart true filled source =
    if_either (Talks t) (is_move t.w.what.kind) (quietly (talk t) None) (ends t None (Got None None))
    (λ e. quiet_talks t None (transfer_begun t apart)) (λ e. ends_talks t None (Got None None))
first_get_talks t apart false true source = ends_talks t None (TransferRefused failures.Busy)
first_get_talks t apart false false None = quiet_talks t None (transfer_begun t apart)
first_get_talks t apart false false (Some peer) = transfer_goes t peer apart

first_put_talks : (t : Turn) → Transfers t → (here : Bool) (peer : Option ℕ) → Talks t (first_put t here peer)
first_put_talks t apart true (Some peer) = transfer_goes t peer apart
first_put_talks t apart true None = ends_talks t None (TransferRefused failures.NotHere)
first_put_talks t apart false peer = ends_talks t None (TransferRefused failures.NotHere)

next_get_talks : (t : Turn) → Transfers t → (source : Option ℕ) → Talks t (next_get t source)
next_get_talks t apart None = ends_talks t None (TransferRefused (failures.NoSource t.w.causes))
next_get_talks t apart (Some peer) = transfer_goes t peer apart

piece_talks : (t : Turn) (peer at n : ℕ) → Begun t → Talks t (puts_piece t peer at n)
piece_talks t peer at n begun =
    attempts_talks t (calls.Read ∷ []) None (sends_to t (talk t) None peer ((if reaches (content_of t) (at + n) then Bytes n else Closing) ∷ []))
    (sends_talks t None peer (if reaches (content_of t) (at + n) then Bytes n else Closing) begun (go (reaches (content_of t) (at + n))))
  where
    go : (b : Bool) → PartSays t peer t.w.part (if b then Bytes n else Closing)
    go true = tt
    go false = tt

from_talks : (t : Turn) (f : FrameView) (peer n : ℕ) → t.w.part ≡ Puts → Talks t (puts_from t f peer n)
from_talks t f peer n part =
    let m = Data (bytes_left (content_of t) n) in
    let good = if reaches (content_of t) n then says_to t (talk t) (Some f) peer m else wrong_message t f peer in
    attempts_talks t (calls.Size ∷ []) (Some f) good
    (if_either (Talks t) (reaches (content_of t) n) (says_to t (talk t) (Some f) peer m) (wrong_message t f peer)
    (λ e. says_talks t (Some f) peer m (no_part t Puts part (λ e. cc)) (subst (λ p. PartAsks t peer p m) (sym part) tt)) (λ e. wrong_talks t f peer (no_part t Puts part (λ e. cc))))

gains_talks : (t : Turn) (f : FrameView) (peer size : ℕ) → t.w.part ≡ Gets → (right : Bool) → Talks t (gains t f peer size right)
gains_talks t f peer size part true = tt
gains_talks t f peer size part false = says_talks t (Some f) peer Failure (no_part t Gets part (λ e. cc)) (subst (λ p. PartAsks t peer p Failure) (sym part) tt)

-- ---- the steps that take no frame

first_talks : (t : Turn) → t.w.phase ≡ Fresh → (part : Part) → t.w.part ≡ part → Talks t (first_step t part)
first_talks t fresh Gets part =
    attempts_talks t (calls.Has ∷ []) None (first_get t (is_there t) (t.filled (key_of t)) (next_source t))
    (first_get_talks t (λ d. let no : Gets ≡ Drops = sym part ∙ d in cc) (is_there t) (t.filled (key_of t)) (next_source t))
first_talks t fresh Puts part =
    attempts_talks t (calls.Has ∷ []) None (first_put t (is_there t) t.w.what.peer) (first_put_talks t (λ d. let no : Puts ≡ Drops = sym part ∙ d in cc) (is_there t) t.w.what.peer)
first_talks t fresh Drops part = first_drop_talks t fresh (side_of t.w) refl

next_talks : (t : Turn) → t.w.phase ≡ Next → (part : Part) → t.w.part ≡ part → Talks t (next_step t part)
next_talks t next Drops part = judges_talks t next (enough_by t.read t.w) (next_by t.read t.w) (side_of t.w) refl refl refl
next_talks t next Gets part = next_get_talks t (λ d. let no : Gets ≡ Drops = sym part ∙ d in cc) (next_source t)
next_talks t next Puts part = next_get_talks t (λ d. let no : Puts ≡ Drops = sym part ∙ d in cc) (next_source t)

-- the phases of a part
abbrev pub Fits : Part → Phase → Type 0
Fits part Fresh = Unit {0}
Fits part Next = Unit {0}
Fits part (Opens peer) = Unit {0}
Fits part (Greets peer) = Unit {0}
Fits part (Ends outcome) = Unit {0}
Fits Gets (GetsData peer start) = Unit {0}
Fits Gets (GetsBytes peer start size left) = Unit {0}
Fits Gets (GetsWord peer start size) = Unit {0}
Fits Puts (PutsOffer peer) = Unit {0}
Fits Puts (PutsBytes peer start at left) = Unit {0}
Fits Puts (PutsWord peer start) = Unit {0}
Fits Puts (PutsAnswer peer start) = Unit {0}
Fits Drops (AsksLock peer since) = Unit {0}
Fits Drops (AsksLook peer) = Unit {0}
Fits Drops AsksTime = Unit {0}
Fits Drops Jobs.Orders = Unit {0}
Fits Drops Removed = Unit {0}
Fits Drops Denied = Unit {0}
Fits Drops (Late time) = Unit {0}
Fits part phase = ⊥

puts_word : (part : Part) (peer start : ℕ) → Fits part (PutsWord peer start) → part ≡ Puts
puts_word Gets peer start fits = absurd fits
puts_word Puts peer start fits = refl
puts_word Drops peer start fits = absurd fits

goes_talks : (t : Turn) (phase : Phase) → t.w.phase ≡ phase → Fits t.w.part phase → Talks t (goes t phase)
goes_talks t Fresh is fits = first_talks t is t.w.part refl
goes_talks t Next is fits = next_talks t is t.w.part refl
goes_talks t (PutsBytes peer start at left) is fits =
    piece_talks t peer at (min 32768 left) (λ part. at_under t (PutsBytes peer start at left) is refl)
goes_talks t (PutsWord peer start) is fits =
    says_talks t None peer Valid (λ part. at_under t (PutsWord peer start) is refl)
    (subst (λ p. PartAsks t peer p Valid) (sym (puts_word t.w.part peer start fits)) tt)
goes_talks t phase is fits = ends_talks t None (outcome_of t phase)

-- ---- the steps that take a frame

on_under : (what : Option ℕ) (peer : ℕ) (phase : Phase) → partner what phase ≡ Some peer → under_way phase ≡ true
on_under what peer Fresh on = absurd (cc)
on_under what peer Removed on = absurd (cc)
on_under what peer Denied on = absurd (cc)
on_under what peer (Late time) on = absurd (cc)
on_under what peer (Ends outcome) on = absurd (cc)
on_under what peer phase on = refl

-- a job that stands on a connection has begun
on_begun : (t : Turn) (peer : ℕ) → partner t.w.what.peer t.w.phase ≡ Some peer → Begun t
on_begun t peer on part = on_under t.w.what.peer peer t.w.phase on

times_talks : (t : Turn) (f : FrameView) (n : ℕ) → t.w.phase ≡ AsksTime → (end : Option ℕ) → Talks t (times t f n end)
times_talks t f n phase None = inr (inr phase)
times_talks t f n phase (Some end) =
    let deadline = n + (end - clock_of t) / 1000 in
    if_either (Talks t) (nat_lt (clock_of t) end) (orders t (Some f) (Some deadline) (RemoveBefore deadline (key_of t)))
    (ends t (Some f) (Refused (refusals.Expired end (clock_of t))))
    (λ e. inr (inr phase)) (λ e. ends_talks t (Some f) (Refused (refusals.Expired end (clock_of t))))

time_talks : (t : Turn) (f : FrameView) (peer n : ℕ) → Begun t → t.w.phase ≡ AsksTime → (side : Side) → Talks t (takes_time t f peer n side)
time_talks t f peer n begun phase Local = wrong_talks t f peer begun
time_talks t f peer n begun phase Remote =
    if_either (Talks t) (nat_lt n (2 ^ 61)) (times t f n (first_end t)) (wrong_message t f peer)
    (λ e. times_talks t f n phase (first_end t)) (λ e. wrong_talks t f peer begun)

hears_talks : (t : Turn) (f : FrameView) → Begun t → Talks t (hears t f)
hears_talks t f begun = quiet_talks t (Some f) begun

bytes_talks : (t : Turn) (f : FrameView) (peer n : ℕ) → Begun t → (phase : Phase) → Talks t (takes_bytes t f peer n phase)
bytes_talks t f peer n begun (GetsBytes p start size left) =
    if_either (Talks t) (nat_lt 0 n && nat_le n left) (attempts t (calls.Append ∷ []) (Some f) (quietly (talk t) (Some f))) (wrong_message t f peer)
    (λ e. attempts_talks t (calls.Append ∷ []) (Some f) (quietly (talk t) (Some f)) (quiet_talks t (Some f) begun)) (λ e. wrong_talks t f peer begun)
bytes_talks t f peer n begun phase = wrong_talks t f peer begun

drop_talks : (t : Turn) (f : FrameView) (peer : ℕ) → partner t.w.what.peer t.w.phase ≡ Some peer → t.w.part ≡ Drops → (phase : Phase) (m : Message) → t.w.phase ≡ phase → Talks t (takes_drop t f peer phase m)
drop_talks t f peer on part (AsksLock p since) Success is = hears_talks t f (on_begun t peer on)
drop_talks t f peer on part (AsksLock p since) Failure is =
    let same : Some p ≡ Some peer = subst (λ x. partner t.w.what.peer x ≡ Some peer) is on in
    says_talks t (Some f) peer (CheckPresent (key_of t)) (on_begun t peer on)
    (drop_asks t peer (CheckPresent (key_of t)) part (subst (λ x. DropAsks t peer x (CheckPresent (key_of t))) (sym is) (cc, refl)))
drop_talks t f peer on part (AsksLook p) Success is = hears_talks t f (on_begun t peer on)
drop_talks t f peer on part (AsksLook p) Failure is = hears_talks t f (on_begun t peer on)
drop_talks t f peer on part AsksTime (Timestamp n) is = time_talks t f peer n (on_begun t peer on) is (side_of t.w)
drop_talks t f peer on part Jobs.Orders Success is = hears_talks t f (on_begun t peer on)
drop_talks t f peer on part Jobs.Orders Failure is = hears_talks t f (on_begun t peer on)
drop_talks t f peer on part phase m is = wrong_talks t f peer (on_begun t peer on)

get_talks : (t : Turn) (f : FrameView) (peer : ℕ) → t.w.part ≡ Gets → (phase : Phase) (m : Message) → Talks t (takes_get t f peer phase m)
get_talks t f peer part (GetsData p start) (Data n) = hears_talks t f (no_part t Gets part (λ e. cc))
get_talks t f peer part (GetsWord p start size) Valid = attempts_talks t (to_commit t.look.right) (Some f) (gains t f peer size t.look.right) (gains_talks t f peer size part t.look.right)
get_talks t f peer part (GetsWord p start size) Invalid = says_talks t (Some f) peer Failure (no_part t Gets part (λ e. cc)) (subst (λ p. PartAsks t peer p Failure) (sym part) tt)
get_talks t f peer part phase m = wrong_talks t f peer (no_part t Gets part (λ e. cc))

put_talks : (t : Turn) (f : FrameView) (peer : ℕ) → t.w.part ≡ Puts → (phase : Phase) (m : Message) → Talks t (takes_put t f peer phase m)
put_talks t f peer part (PutsOffer p) AlreadyHave = hears_talks t f (no_part t Puts part (λ e. cc))
put_talks t f peer part (PutsOffer p) Failure = hears_talks t f (no_part t Puts part (λ e. cc))
put_talks t f peer part (PutsOffer p) (Error text) =
    if_either (Talks t) (bytes_eq text (codes "busy")) (hears t f) (wrong_message t f peer) (λ e. hears_talks t f (no_part t Puts part (λ e. cc))) (λ e. wrong_talks t f peer (no_part t Puts part (λ e. cc)))
put_talks t f peer part (PutsOffer p) (PutFrom n) = from_talks t f peer n part
put_talks t f peer part (PutsAnswer p start) Success = hears_talks t f (no_part t Puts part (λ e. cc))
put_talks t f peer part (PutsAnswer p start) Failure = hears_talks t f (no_part t Puts part (λ e. cc))
put_talks t f peer part phase m = wrong_talks t f peer (no_part t Puts part (λ e. cc))

answer_talks : (t : Turn) (f : FrameView) (peer : ℕ) → partner t.w.what.peer t.w.phase ≡ Some peer → (phase : Phase) (m : Message) → t.w.phase ≡ phase
    → (part : Part) → t.w.part ≡ part → Talks t (takes_answer t f peer part phase m)
answer_talks t f peer on phase m is Gets part = get_talks t f peer part phase m
answer_talks t f peer on phase m is Puts part = put_talks t f peer part phase m
answer_talks t f peer on phase m is Drops part = drop_talks t f peer on part phase m is

version_asks : (t : Turn) (peer : ℕ) → t.w.phase ≡ Opens peer → (part : Part) → PartAsks t peer part (Version 3)
version_asks t peer is Gets = tt
version_asks t peer is Puts = tt
version_asks t peer is Drops = subst (λ x. DropAsks t peer x (Version 3)) (sym is) refl

takes_talks : (t : Turn) (f : FrameView) (peer : ℕ) → partner t.w.what.peer t.w.phase ≡ Some peer → (phase : Phase) (m : Message) → t.w.phase ≡ phase → Talks t (takes t f peer phase m)
takes_talks t f peer on (Opens p) (AuthSuccess id) is =
    let same : Some p ≡ Some peer = subst (λ x. partner t.w.what.peer x ≡ Some peer) is on in
    let at : t.w.phase ≡ Opens peer = cc in
    says_talks t (Some f) peer (Version 3) (on_begun t peer on) (version_asks t peer at t.w.part)
takes_talks t f peer on (Greets p) (Version n) is =
    let same : Some p ≡ Some peer = subst (λ x. partner t.w.what.peer x ≡ Some peer) is on in
    let at : t.w.phase ≡ Greets peer = cc in
    if_either (Talks t) (nat_le n 3) (asks t n (Some f) peer t.w.part) (wrong_message t f peer) (λ e. asks_talks t n (Some f) peer t.w.part refl (λ drops. inr at)) (λ e. wrong_talks t f peer (on_begun t peer on))
takes_talks t f peer on phase m is = answer_talks t f peer on phase m is t.w.part refl

text_talks : (t : Turn) (f : FrameView) (peer : ℕ) → partner t.w.what.peer t.w.phase ≡ Some peer → (m : Option Message) → Talks t (takes_text t f peer m)
text_talks t f peer on None = wrong_talks t f peer (on_begun t peer on)
text_talks t f peer on (Some m) = takes_talks t f peer on t.w.phase m refl

frame_talks : (t : Turn) (peer : ℕ) (f : FrameView) → partner t.w.what.peer t.w.phase ≡ Some peer → (body : FrameText) → Talks t (takes_frame t peer f body)
frame_talks t peer f on Opening = wrong_talks t f peer (on_begun t peer on)
frame_talks t peer f on Closing = hears_talks t f (on_begun t peer on)
frame_talks t peer f on (Bytes n) = bytes_talks t f peer n (on_begun t peer on) t.w.phase
frame_talks t peer f on (Line text) = text_talks t f peer on (message_of text)

-- ---- the step

on_talks : (t : Turn) (m : Effect) → Fits t.w.part t.w.phase → goes_on t ≡ Some m → Talks t m
on_talks t m fits e = go (list_all (has_room t) (needs t t.w.phase)) e
  where
    go : (b : Bool) → (if b then Some (goes t t.w.phase) else None) ≡ Some m → Talks t m
    go true g = let same : goes t t.w.phase ≡ m = cc in subst (Talks t) same (goes_talks t t.w.phase refl fits)
    go false g = absurd (cc)

awaits_talks : (t : Turn) (peer : ℕ) (m : Effect) → partner t.w.what.peer t.w.phase ≡ Some peer → (f : Option FrameView) → awaits t peer f ≡ Some m → Talks t m
awaits_talks t peer m on None e = absurd (cc)
awaits_talks t peer m on (Some f) e = go (has_room t peer) e
  where
    go : (b : Bool) → (if b then Some (takes_frame t peer f f.body) else None) ≡ Some m → Talks t m
    go false g = absurd (cc)
    go true g = let same : takes_frame t peer f f.body ≡ m = cc in subst (Talks t) same (frame_talks t peer f on f.body)

with_talks : (t : Turn) (peer : ℕ) (m : Effect) → Fits t.w.part t.w.phase → partner t.w.what.peer t.w.phase ≡ Some peer → (b : Bool) → with_partner t peer b ≡ Some m → Talks t m
with_talks t peer m fits on false e =
    let same : quietly (talk t) None ≡ m = cc in
    subst (Talks t) same (quiet_talks t None (on_begun t peer on))
with_talks t peer m fits on true e = go (is_awaiting t.w.phase) e
  where
    go : (b : Bool) → (if b then awaits t peer (waiting_frame (end_with t peer) t.look (job_end t.w peer)) else goes_on t) ≡ Some m → Talks t m
    go true g = awaits_talks t peer m on (waiting_frame (end_with t peer) t.look (job_end t.w peer)) g
    go false g = on_talks t m fits g

partner_talks : (t : Turn) (m : Effect) → Fits t.w.part t.w.phase → (p : Option ℕ) → partner t.w.what.peer t.w.phase ≡ p → by_partner t p ≡ Some m → Talks t m
partner_talks t m fits None on e = on_talks t m fits e
partner_talks t m fits (Some peer) on e = with_talks t peer m fits on (end_with t peer).opened e

-- a step of a job in slot order
pub slot_talks : (s : SetUp) (st : State) (k : Look) (m : Effect) (w : Work) → Fits w.part w.phase → slot_step s st k (Some w) ≡ Some m → Talks (turn_of s st k w) m
slot_talks s st k m w fits e = partner_talks (turn_of s st k w) m fits (partner w.what.peer w.phase) refl e
