-- The step of a job, by where it stands (own).
use Rattle.std.specs.Prelude.{ℕ, Bool, true, false, ◌&&◌, if◌then◌else◌, ◌==◌, min, nat_lt, nat_le, List, [], ◌∷◌, find, Option, Some, None}
use Rattle.std.specs.List.{list_all}
use Rattle.std.specs.Option.{option_to_list}
use Rattle.annex_base.specs.declared.kinds.Call.TheVariants as calls
use Rattle.annex_base.specs.OptionSteps.{first_some}
use Rattle.drop_proof.specs.declared.rule.Side.{Side}
use Rattle.drop_proof.specs.declared.rule.Side.TheVariants.{Local, Remote}
use Rattle.run_data.specs.declared.entry.FrameView.{FrameView}
use Rattle.run_data.specs.declared.entry.FrameText.{FrameText}
use Rattle.run_data.specs.declared.entry.FrameText.TheVariants.{Opening, Closing, Bytes, Line}
use Rattle.run_data.specs.declared.job.Outcome.{Outcome}
use Rattle.run_data.specs.declared.job.Outcome.TheVariants.{TransferRefused}
use Rattle.run_data.specs.declared.job.TransferRefusal.TheVariants as failures
use Rattle.node_model.specs.State.{State}
use Rattle.node_model.specs.SetUp.{SetUp, slots}
use Rattle.p2p_wire.specs.declared.message.Message.{Message}
use Rattle.p2p_wire.specs.declared.message.Message.TheVariants.{AuthSuccess, Version, Valid}
use Rattle.p2p_wire.specs.Messages.{message_of}
use Rattle.node_model.specs.Jobs.{Work, Part, Gets, Puts, Drops, Phase, Fresh, Next, Opens, Greets, PutsBytes, PutsWord, Removed, Denied, Late, Ends, job_end, partner, side_of}
use Rattle.node_model.specs.Look.{Look, Effect, waiting_frame}
use Rattle.node_model.specs.Knows.{enough_by, next_by}
use Rattle.node_model.specs.JobStep.{Turn, hears, attempts, clock_of, end_needs, end_with, ends, is_there, key_of, locked_peers, quietly, says_to, talk, turn_of, wrong_message}
use Rattle.node_model.specs.DropStep.{takes_drop, denial_outcome, expiry, first_drop, first_end, in_time, lacking_outcome, removal_outcome, removes, target}
use Rattle.node_model.specs.Requests.{asks, goes_to}
use Rattle.node_model.specs.TransferStep.{takes_get, takes_put, first_get, first_put, next_get, next_source, puts_piece, takes_bytes}

-- ---- the steps that take no frame

abbrev pub first_step : Turn → Part → Effect
first_step t Gets = attempts t (calls.Has ∷ []) None (first_get t (is_there t) (t.filled (key_of t)) (next_source t))
first_step t Puts = attempts t (calls.Has ∷ []) None (first_put t (is_there t) t.w.what.peer)
first_step t Drops = first_drop t (side_of t.w)

-- a drop asks its next candidate while it lacks evidence
abbrev pub judges : Turn → Bool → Option ℕ → Side → Effect
judges t false (Some peer) side = goes_to t peer
judges t false None side = ends t None (lacking_outcome t)
judges t true next Local = removes t
judges t true next Remote = goes_to t (target t)

abbrev pub next_step : Turn → Part → Effect
next_step t Drops = judges t (enough_by t.read t.w) (next_by t.read t.w) (side_of t.w)
next_step t part = next_get t (next_source t)

-- the outcome of a job that is to end
abbrev pub outcome_of : Turn → Phase → Outcome
outcome_of t Removed = removal_outcome (side_of t.w) t
outcome_of t Denied = denial_outcome t
outcome_of t (Late time) = expiry (t.clock time) (first_end t)
outcome_of t (Ends outcome) = outcome
outcome_of t phase = TransferRefused failures.Closed

abbrev pub goes : Turn → Phase → Effect
goes t Fresh = first_step t t.w.part
goes t Next = next_step t t.w.part
goes t (PutsBytes peer start at left) = puts_piece t peer at (min 32768 left)
goes t (PutsWord peer start) = says_to t (talk t) None peer Valid
goes t phase = ends t None (outcome_of t phase)

-- ---- the ends on which such a step may send more than a Close

abbrev pub peer_needs : Turn → Part → List ℕ
peer_needs t Gets = option_to_list (next_source t)
peer_needs t Puts = option_to_list t.w.what.peer
peer_needs t Drops = []

-- none where the target is open and its version too old
abbrev pub target_needs : Turn → Option ℕ → List ℕ
target_needs t None = target t ∷ []
target_needs t (Some end) = if (end_with t (target t)).opened && nat_lt t.w.version 3 then [] else target t ∷ []

abbrev pub judge_needs : Turn → Bool → Option ℕ → Side → List ℕ
judge_needs t false (Some peer) side = peer ∷ []
judge_needs t false None side = locked_peers t
judge_needs t true next Local = if in_time (clock_of t) (first_end t) then [] else locked_peers t
judge_needs t true next Remote = target_needs t (first_end t)

abbrev pub next_needs : Turn → Part → List ℕ
next_needs t Drops = judge_needs t (enough_by t.read t.w) (next_by t.read t.w) (side_of t.w)
next_needs t part = peer_needs t part

abbrev pub needs : Turn → Phase → List ℕ
needs t Fresh = peer_needs t t.w.part
needs t Next = next_needs t t.w.part
needs t (PutsBytes peer start at left) = peer ∷ []
needs t (PutsWord peer start) = peer ∷ []
needs t phase = end_needs t (outcome_of t phase)

-- ---- the steps that take a frame

abbrev pub takes_answer : Turn → FrameView → ℕ → Part → Phase → Message → Effect
takes_answer t f peer Gets phase m = takes_get t f peer phase m
takes_answer t f peer Puts phase m = takes_put t f peer phase m
takes_answer t f peer Drops phase m = takes_drop t f peer phase m

-- a connection is opened in three steps: the third is the first request
abbrev pub takes : Turn → FrameView → ℕ → Phase → Message → Effect
takes t f peer (Opens p) (AuthSuccess id) = says_to t (talk t) (Some f) peer (Version 3)
takes t f peer (Greets p) (Version n) = if nat_le n 3 then asks t n (Some f) peer t.w.part else wrong_message t f peer
takes t f peer phase m = takes_answer t f peer t.w.part phase m

abbrev pub takes_text : Turn → FrameView → ℕ → Option Message → Effect
takes_text t f peer None = wrong_message t f peer
takes_text t f peer (Some m) = takes t f peer t.w.phase m

abbrev pub takes_frame : Turn → ℕ → FrameView → FrameText → Effect
takes_frame t peer f Opening = wrong_message t f peer
takes_frame t peer f Closing = hears t f
takes_frame t peer f (Bytes n) = takes_bytes t f peer n t.w.phase
takes_frame t peer f (Line text) = takes_text t f peer (message_of text)

-- ---- the step

abbrev pub has_room : Turn → ℕ → Bool
has_room t peer = t.look.room (job_end t.w peer)

abbrev pub goes_on : Turn → Option Effect
goes_on t = if list_all (has_room t) (needs t t.w.phase) then Some (goes t t.w.phase) else None

-- the job awaits a frame of its partner
abbrev pub is_awaiting : Phase → Bool
is_awaiting (PutsBytes peer start at left) = false
is_awaiting (PutsWord peer start) = false
is_awaiting phase = true

abbrev pub awaits : Turn → ℕ → Option FrameView → Option Effect
awaits t peer None = None
awaits t peer (Some f) = if has_room t peer then Some (takes_frame t peer f f.body) else None

-- a connection that was closed here is handled as Close
abbrev pub with_partner : Turn → ℕ → Bool → Option Effect
with_partner t peer false = Some (quietly (talk t) None)
with_partner t peer true =
    if is_awaiting t.w.phase then awaits t peer (waiting_frame (end_with t peer) t.look (job_end t.w peer)) else goes_on t

abbrev pub by_partner : Turn → Option ℕ → Option Effect
by_partner t None = goes_on t
by_partner t (Some peer) = with_partner t peer (end_with t peer).opened

-- the job in the slot
abbrev pub slot_step : SetUp → State → Look → Option Work → Option Effect
slot_step s st k None = None
slot_step s st k (Some w) = by_partner (turn_of s st k w) (partner w.what.peer w.phase)

-- the first job, in order of slot, that has a step
abbrev pub job_step : SetUp → State → Look → Option Effect
job_step s st k = first_some (λ slot. slot_step s st k (find (λ w. w.slot == slot) st.works)) slots
