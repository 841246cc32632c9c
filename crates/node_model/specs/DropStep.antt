-- The steps of a drop, and of the drop of a move (own, over git-annex-drop and the P2P protocol).
use Rattle.std.specs.Prelude.{ℕ, ◌+◌, ◌-◌, ◌/◌, ◌^◌, Bool, true, false, not, if◌then◌else◌, ◌==◌, max, nat_lt, List, [], ◌∷◌, filter, fold, Option, Some, None}
use Rattle.std.specs.List.{list_any}
use Rattle.annex_base.specs.declared.kinds.Call.TheVariants as calls
use Rattle.drop_proof.specs.declared.rule.Need.{Need}
use Rattle.drop_proof.specs.declared.rule.Side.{Side}
use Rattle.drop_proof.specs.declared.rule.Side.TheVariants.{Local, Remote}
use Rattle.drop_proof.specs.Judging.{least_end}
use Rattle.run_data.specs.declared.entry.EntryKind.{EntryKind}
use Rattle.run_data.specs.declared.entry.EntryKind.TheVariants.{Share, Bar, Order, Gone}
use Rattle.run_data.specs.declared.entry.By.{By}
use Rattle.run_data.specs.declared.entry.FrameView.{FrameView}
use Rattle.run_data.specs.declared.job.Outcome.{Outcome}
use Rattle.run_data.specs.declared.job.Outcome.TheVariants.{Refused}
use Rattle.run_data.specs.declared.job.DropRefusal.{DropRefusal}
use Rattle.run_data.specs.declared.job.DropRefusal.TheVariants as refusals
use Rattle.run_data.specs.declared.row.Hold.{Hold}
use Rattle.node_model.specs.Rows.{blocks}
use Rattle.node_model.specs.Evidence.{Standing, Asked}
use Rattle.p2p_wire.specs.declared.message.Message.{Message}
use Rattle.p2p_wire.specs.declared.message.Message.TheVariants.{CheckPresent, Success, Failure, Timestamp, GetTimestamp, LockContent, Remove, RemoveBefore}
use Rattle.node_model.specs.Jobs
use Rattle.node_model.specs.Jobs.{side_of, Phase, AsksLock, AsksLook, AsksTime, target_of}
use Rattle.node_model.specs.Look.{Effect}
use Rattle.node_model.specs.Calls.{to_hold}
use Rattle.node_model.specs.Knows.{denial_of, obeyed_outcome, causes_by, proof_by, known_by}
use Rattle.node_model.specs.JobStep.{Turn, hears, wrong_message, attempts, bar_there, by_me, clock_of, ends, is_there, key_of, me, quietly, says_to, talk}
use Rattle.node_model.specs.Clocks.{hold_time}

abbrev pub need_now : Turn → Need
need_now t = t.read.need

abbrev pub first_end : Turn → Option ℕ
first_end t = least_end (known_by t.read t.w)

abbrev pub target : Turn → ℕ
target t = target_of (me t) t.w

-- ---- its first step

-- until when holds block: an open one without an end
abbrev pub until : List Hold → Option (Option ℕ)
until [] = None
until (h ∷ hs) = Some (if list_any (λ x. not x.kept) (h ∷ hs) then None else Some (fold (λ latest x. max latest x.end) h.end hs))

abbrev pub held_until : Turn → Option (Option ℕ)
held_until t = until (filter (blocks (key_of t) (clock_of t)) t.holds)

-- the expression by which the target requires the content
abbrev pub required_there : Turn → Option (List ℕ)
required_there t = t.read.requires

-- why a local drop is refused by its row, if it is
abbrev pub row_refusal : Bool → Option (List ℕ) → Option ℕ → Option (Option ℕ) → Option DropRefusal
row_refusal false required bar held = Some refusals.NotPresent
row_refusal true (Some text) bar held = Some (refusals.Required text)
row_refusal true None (Some job) held = Some (refusals.Barred job)
row_refusal true None None (Some end) = Some (refusals.Held end)
row_refusal true None None None = None

-- it puts its bar, unless it is refused
abbrev pub bars : Turn → Option DropRefusal → Effect
bars t (Some refusal) = ends t None (Refused refusal)
bars t None = quietly (Bar t.w.number (need_now t) (key_of t)) None

abbrev pub first_local : Turn → Effect
first_local t = attempts t (calls.Has ∷ []) None (bars t (row_refusal (is_there t) (required_there t) (bar_there t) (held_until t)))

-- its own repository's share, where the row permits it
abbrev pub own_share : ℕ → ℕ → ℕ → List ℕ → EntryKind → By → Bool → Option ℕ → EntryKind
own_share hold end job key none by true None = Share hold end by key
own_share hold end job key none by here bar = none

abbrev pub shares : Turn → Effect
shares t = attempts t (to_hold (is_there t) (bar_there t)) None
    (quietly (own_share (t.number) (clock_of t + hold_time) t.w.number (key_of t) (talk t) (by_me t) (is_there t) (bar_there t)) None)

-- an own repository that needs no asking isn't tried
abbrev pub tries_own : Turn → Standing → Effect
tries_own t Asked = shares t
tries_own t standing = quietly (talk t) None

abbrev pub first_remote : Turn → Option (List ℕ) → Effect
first_remote t (Some text) = ends t None (Refused (refusals.Required text))
first_remote t None = tries_own t (t.read.standing (me t))

abbrev pub first_drop : Turn → Side → Effect
first_drop t Local = first_local t
first_drop t Remote = first_remote t (required_there t)

-- ---- its requests

-- an order, with the need that the job read
abbrev pub orders : Turn → Option FrameView → Option ℕ → Message → Effect
orders t taken deadline m = says_to t (Order t.w.number (target t) deadline (need_now t) (key_of t)) taken (target t) m

-- the target's first request: where there is a lock it needs a version with deadlines
abbrev pub asks_target : Turn → ℕ → Option FrameView → Option ℕ → Effect
asks_target t version taken None = orders t taken None (Remove (key_of t))
asks_target t version taken (Some end) = if nat_lt version 3 then quietly (talk t) taken else says_to t (talk t) taken (target t) GetTimestamp

abbrev pub asks_lock : Turn → Option FrameView → ℕ → Effect
asks_lock t taken peer = says_to t (talk t) taken peer (LockContent (key_of t))

abbrev pub asks_copy : Turn → ℕ → Option FrameView → ℕ → Side → Effect
asks_copy t version taken peer Local = asks_lock t taken peer
asks_copy t version taken peer Remote = if target t == peer then asks_target t version taken (first_end t) else asks_lock t taken peer

-- the timestamp gives the deadline, while there is time
abbrev pub times : Turn → FrameView → ℕ → Option ℕ → Effect
times t f n None = orders t (Some f) None (Remove (key_of t))
times t f n (Some end) =
    let deadline = n + (end - clock_of t) / 1000 in
    if nat_lt (clock_of t) end then orders t (Some f) (Some deadline) (RemoveBefore deadline (key_of t))
    else ends t (Some f) (Refused (refusals.Expired end (clock_of t)))

-- ---- its judgement

abbrev pub lacking_outcome : Turn → Outcome
lacking_outcome t = Refused (refusals.Lacking (proof_by t.read t.w) (causes_by t.read t.look.words t.w))

-- the clock is below the end, if there is one
abbrev pub in_time : ℕ → Option ℕ → Bool
in_time clock None = true
in_time clock (Some end) = nat_lt clock end

abbrev pub expiry : ℕ → Option ℕ → Outcome
expiry clock None = Refused (refusals.Expired 0 clock)
expiry clock (Some end) = Refused (refusals.Expired end clock)

-- a local drop that knows enough removes the content
abbrev pub removes : Turn → Effect
removes t = if in_time (clock_of t) (first_end t) then attempts t (calls.Remove ∷ []) None (quietly (Gone (by_me t) (key_of t)) None)
    else ends t None (expiry (clock_of t) (first_end t))

-- ---- its outcome

abbrev pub removal_outcome : Side → Turn → Outcome
removal_outcome Local t = obeyed_outcome None (proof_by t.read t.w)
removal_outcome Remote t = obeyed_outcome (t.look.words (target t)) (proof_by t.read t.w)

abbrev pub denial_outcome : Turn → Outcome
denial_outcome t = Refused (refusals.Denied (denial_of (t.look.words (target t))))

-- ---- the answers that it takes

-- no node tells a time of 2 ^ 61 seconds or more
abbrev pub takes_time : Turn → FrameView → ℕ → ℕ → Side → Effect
takes_time t f peer n Local = wrong_message t f peer
takes_time t f peer n Remote = if nat_lt n (2 ^ 61) then times t f n (first_end t) else wrong_message t f peer

abbrev pub takes_drop : Turn → FrameView → ℕ → Phase → Message → Effect
takes_drop t f peer (AsksLock p since) Success = hears t f
takes_drop t f peer (AsksLock p since) Failure = says_to t (talk t) (Some f) peer (CheckPresent (key_of t))
takes_drop t f peer (AsksLook p) Success = hears t f
takes_drop t f peer (AsksLook p) Failure = hears t f
takes_drop t f peer AsksTime (Timestamp n) = takes_time t f peer n (side_of t.w)
takes_drop t f peer Jobs.Orders Success = hears t f
takes_drop t f peer Jobs.Orders Failure = hears t f
takes_drop t f peer phase m = wrong_message t f peer
