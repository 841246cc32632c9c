-- The calls of the steps that open a connection, or are told what came from a peer.
use Rattle.std.proofs.Common.{◌≡◌, ℕ, Bool, true, false, List, [], ◌∷◌, Option, Some, None, Result, Ok, Err, refl, sym, ap, ◌∙◌, subst}
use Rattle.std.specs.Prelude.{◌==◌, IfOk, if◌then◌else◌, nat_le, nat_lt}
use Rattle.annex_base.specs.declared.kinds.Call.{Call}
use Rattle.annex_base.specs.declared.memory.NoMemory.{NoMemory}
use Rattle.drop_proof.specs.declared.rule.Side.{Side}
use Rattle.drop_proof.specs.declared.rule.Side.TheVariants.{Local, Remote}
use Rattle.run_data.specs.declared.entry.FrameText.{FrameText}
use Rattle.run_data.specs.declared.entry.FrameText.TheVariants.{Bytes, Closing, Line, Opening}
use Rattle.run_data.specs.declared.entry.FrameView.{FrameView}
use Rattle.object_store.specs.Stores.{Contents}
use Rattle.node_model.specs.DropStep.{asks_copy, asks_lock, asks_target, first_end, takes_drop, target}
use Rattle.node_model.specs.Jobs as Jobs
use Rattle.node_model.specs.Jobs.{Drops, Part, side_of}
use Rattle.node_model.specs.JobStep.{Turn, end_with, quietly, says_to, sends_to, talk, wrong_message}
use Rattle.node_model.specs.Look.{Effect, failed_in}
use Rattle.node_model.specs.Requests.{asks, goes_to}
use Rattle.node_model.specs.TransferStep.{takes_bytes}
use Rattle.node_model.specs.Turns.{takes, takes_answer, takes_frame, takes_text}
use Rattle.content_lock.specs.Rows.{Rows}
use Rattle.drop_phases.specs.declared.phase.Phase.{Phase}
use Rattle.drop_phases.specs.declared.phase.Phase.TheVariants as phases
use Rattle.drop_phases.specs.declared.phase.Token.{Token}
use Rattle.drop_phases.specs.declared.turn.Output.{Output}
use Rattle.drop_phases.specs.declared.turn.Taken.{Taken}
use Rattle.drop_phases.specs.declared.turn.Taken.TheVariants as takens
use Rattle.drop_phases.specs.Calling.{AreLeft, Failing, MakesFed, MakesPhase, MakesSo}
use Rattle.content_lock.specs.CallsMade.{MakesCalls}
use Rattle.drop_phases.specs.Doing.{Talks}
use Rattle.drop_phases.specs.Feeding.{FeedsFrame, FeedsFrameAt, FitsLocal, step_of}
use Rattle.drop_phases.specs.Leaving.{stands_on}
use Rattle.drop_phases.specs.Worker.{Worker}
use Rattle.drop_phases.specs.Working.{Rest, Sight, phase_as, present_in, taken_line, taken_of, turn_in}
use Rattle.drop_phases.proofs.Callings.{all_left, makes_as, makes_none, talked_well}
use Rattle.drop_phases.proofs.Takings.{line_takes, lined}
use Rattle.drop_phases.proofs.Unexpected.{bytes_else}
use Rattle.p2p_wire.specs.declared.message.Message.{Message}
use Rattle.p2p_wire.specs.declared.message.Message.TheVariants as messages
use Rattle.p2p_wire.specs.Messages.{message_of}

-- ---- a request

target_none : (t : Turn) (version : ℕ) (taken : Option FrameView) (end : Option ℕ) → (asks_target t version taken end).calls ≡ []
target_none t version taken None = refl
target_none t version taken (Some end) = go (nat_lt version 3)
  where
    go : (b : Bool) → (if b then quietly (talk t) taken else says_to t (talk t) taken (target t) messages.GetTimestamp).calls ≡ []
    go true = refl
    go false = refl

copy_none : (t : Turn) (version : ℕ) (taken : Option FrameView) (peer : ℕ) (side : Side) → (asks_copy t version taken peer side).calls ≡ []
copy_none t version taken peer Local = refl
copy_none t version taken peer Remote = go (target t == peer)
  where
    go : (b : Bool) → (if b then asks_target t version taken (first_end t) else asks_lock t taken peer).calls ≡ []
    go true = target_none t version taken (first_end t)
    go false = refl

request_none : (t : Turn) (version : ℕ) (taken : Option FrameView) (peer : ℕ) → t.w.part ≡ Drops → (asks t version taken peer t.w.part).calls ≡ []
request_none t version taken peer drops = ap (λ (part : Part). (asks t version taken peer part).calls) drops ∙ copy_none t version taken peer (side_of t.w)

-- on a connection that is opened first, unless it is open
pub opening_none : (t : Turn) (peer : ℕ) → t.w.part ≡ Drops → (goes_to t peer).calls ≡ []
opening_none t peer drops = go (end_with t peer).opened
  where
    go : (b : Bool) → (if b then asks t t.w.version None peer t.w.part else sends_to t (talk t) None peer (Opening ∷ [])).calls ≡ []
    go true = request_none t t.w.version None peer drops
    go false = refl

-- ---- the frames of which no call is made

-- the target's time, where it is awaited
abbrev pub IsTime : Phase → Message → Type 0
IsTime phases.AsksTime (messages.Timestamp n) = Unit {0}
IsTime phase m = ⊥

version_none : (t : Turn) (f : FrameView) (peer n : ℕ) → t.w.part ≡ Drops → (if nat_le n 3 then asks t n (Some f) peer t.w.part else wrong_message t f peer).calls ≡ []
version_none t f peer n drops = go (nat_le n 3)
  where
    go : (b : Bool) → (if b then asks t n (Some f) peer t.w.part else wrong_message t f peer).calls ≡ []
    go true = request_none t n (Some f) peer drops
    go false = refl

answer_none : (t : Turn) (f : FrameView) (peer : ℕ) (ph : Phase) (m : Message) → (IsTime ph m → ⊥) → (takes_drop t f peer (phase_as ph) m).calls ≡ []
answer_none t f peer phases.AsksTime (messages.Timestamp n) other = absurd (other tt)
answer_none t f peer (phases.AsksLock p since) messages.Success other = refl
answer_none t f peer (phases.AsksLock p since) messages.Failure other = refl
answer_none t f peer (phases.AsksLook p) messages.Success other = refl
answer_none t f peer (phases.AsksLook p) messages.Failure other = refl
answer_none t f peer phases.Orders messages.Success other = refl
answer_none t f peer phases.Orders messages.Failure other = refl
answer_none t f peer ph m other = refl

pub message_none : (t : Turn) (f : FrameView) (peer : ℕ) (ph : Phase) (m : Message) → t.w.part ≡ Drops → (IsTime ph m → ⊥) → (takes t f peer (phase_as ph) m).calls ≡ []
message_none t f peer (phases.Opens p) (messages.AuthSuccess id) drops other = refl
message_none t f peer (phases.Greets p) (messages.Version n) drops other = version_none t f peer n drops
message_none t f peer ph m drops other = ap (λ (part : Part). (takes_answer t f peer part (phase_as ph) m).calls) drops ∙ answer_none t f peer ph m other

-- of a frame whose message, if it is one, makes none
pub frame_none : (t : Turn) (f : FrameView) (peer : ℕ) (ph : Phase) (body : FrameText) → t.w.phase ≡ phase_as ph → ((m : Message) → taken_of body ≡ takens.Message m → (takes t f peer (phase_as ph) m).calls ≡ [])
    → (takes_frame t peer f body).calls ≡ []
frame_none t f peer ph Opening at other = refl
frame_none t f peer ph Closing at other = refl
frame_none t f peer ph (Bytes n) at other = ap (λ (m : Effect). m.calls) (ap (takes_bytes t f peer n) at ∙ bytes_else t f peer n ph)
frame_none t f peer ph (Line text) at other = go (message_of text) refl
  where
    go : (o : Option Message) → message_of text ≡ o → (takes_text t f peer (message_of text)).calls ≡ []
    go None is = ap (λ (o : Option Message). (takes_text t f peer o).calls) is
    go (Some m) is = ap (λ (o : Option Message). (takes_text t f peer o).calls) is ∙ (ap (λ (p : Jobs.Phase). (takes t f peer p m).calls) at ∙ other m (ap taken_line is))

-- ---- a step that is told of a frame

module _ (x : Sight) (rows : Rows) (w : Worker) (peer : ℕ) where
  pub quiet_makes : (taken : Taken) (before : Failing) (r : Result Output NoMemory) → IfOk r (λ out. failed_in out.kind ≡ None)
      → ((p : List ℕ → Bool) (fails : Option Call) (rest : Rest) (f : FrameView) (m : Message) → taken ≡ takens.Message m → (takes (turn_in x rows p fails rest w) f peer (phase_as w.phase) m).calls ≡ [])
      → MakesFed x rows w peer taken before before r
  quiet_makes taken before (Ok out) well none = (all_left (failed_in out.kind) before well, go)
    where
      go : (p : List ℕ → Bool) (f : Option FrameView) → FeedsFrame x w.slot peer f taken → (rest : Rest) → MakesCalls (step_of (Some peer) f (turn_in x rows p (failed_in out.kind) rest w)).calls (failed_in out.kind) before before
      go p None fed rest = makes_none [] (failed_in out.kind) before refl well
      go p (Some f) comes rest =
          let t = turn_in x rows p (failed_in out.kind) rest w in
          makes_none (takes_frame t peer f f.body).calls (failed_in out.kind) before (frame_none t f peer w.phase f.body refl (λ m is. none p (failed_in out.kind) rest f m (sym comes.is ∙ is))) well
  quiet_makes taken before (Err e) well none = refl

  pub spoken_makes : (m : Message) (before : Failing) (r : Result Output NoMemory) → IfOk r (λ out. failed_in out.kind ≡ None) → (IsTime w.phase m → ⊥) → MakesFed x rows w peer (takens.Message m) before before r
  spoken_makes m before r well other = quiet_makes (takens.Message m) before r well
      (λ p fails rest f n is. message_none (turn_in x rows p fails rest w) f peer w.phase n refl (λ time. other (subst (λ (k : Message). IsTime w.phase k) (let same : n ≡ m = cc in same) time)))

  pub unsaid_makes : (taken : Taken) (before : Failing) (r : Result Output NoMemory) → ((m : Message) → taken ≡ takens.Message m → ⊥) → IfOk r (λ out. failed_in out.kind ≡ None) → MakesFed x rows w peer taken before before r
  unsaid_makes taken before r other well = quiet_makes taken before r well (λ p fails rest f m is. absurd (other m is))

  -- the calls of its message
  pub message_makes : (m : Message) (before after : Failing) (r : Result Output NoMemory)
      → IfOk r (λ out. AreLeft (failed_in out.kind) before after × ((p : List ℕ → Bool) (rest : Rest) (f : FrameView) → MakesCalls (takes (turn_in x rows p (failed_in out.kind) rest w) f peer (phase_as w.phase) m).calls (failed_in out.kind) before after)) → (IfOk r (λ out. ⊥) → after ≡ before)
      → MakesFed x rows w peer (takens.Message m) before after r
  message_makes m before after (Ok out) made still = (made.0, go)
    where
      go : (p : List ℕ → Bool) (f : Option FrameView) → FeedsFrame x w.slot peer f (takens.Message m) → (rest : Rest) → MakesCalls (step_of (Some peer) f (turn_in x rows p (failed_in out.kind) rest w)).calls (failed_in out.kind) before after
      go p None fed rest = absurd (let both : takens.Message m ≡ takens.Closed = fed.0 in cc)
      go p (Some f) comes rest =
          let t = turn_in x rows p (failed_in out.kind) rest w in
          makes_as (takes_frame t peer f f.body).calls (takes t f peer (phase_as w.phase) m).calls (failed_in out.kind) (failed_in out.kind) before after (ap (λ (e : Effect). e.calls) (sym (line_takes t f peer m (lined f.body m comes.is)))) refl (made.1 p rest f)
  message_makes m before after (Err e) made still = still tt

-- ---- a step of a drop

-- it stands on the connection with this peer
pub fed_makes : (x : Sight) (known : Option Contents) (rows : Rows) (w : Worker) (peer : ℕ) (taken : Taken) (before after : Failing) (r : Result Output NoMemory) → stands_on w ≡ Some peer → MakesFed x rows w peer taken before after r
    → MakesSo x known rows w taken before after r
fed_makes x known rows w peer taken before after (Err e) at m = m
fed_makes x known rows w peer taken before after (Ok out) at m = (
  m.0,
  λ c told f.
      subst (λ (o : Option ℕ). FeedsFrameAt x w.slot o f taken → (rest : Rest) → MakesCalls (step_of o f (turn_in x rows (present_in c) (failed_in out.kind) rest w)).calls (failed_in out.kind) before after) (sym at) (λ fed rest. m.1 (present_in c) f fed rest),
)

-- or on none
pub phase_makes : (x : Sight) (known : Option Contents) (rows : Rows) (w : Worker) (taken : Taken) (before after : Failing) (r : Result Output NoMemory) → stands_on w ≡ None → MakesPhase x known rows w before after r
    → MakesSo x known rows w taken before after r
phase_makes x known rows w taken before after (Err e) at m = m
phase_makes x known rows w taken before after (Ok out) at m = (
  m.0,
  λ c told f.
      subst (λ (o : Option ℕ). FeedsFrameAt x w.slot o f taken → (rest : Rest) → MakesCalls (step_of o f (turn_in x rows (present_in c) (failed_in out.kind) rest w)).calls (failed_in out.kind) before after) (sym at) (λ fed rest. m.1 c told rest),
)

-- no local drop awaits a time
local_time : (ph : Phase) (token : Token) (m : Message) → FitsLocal ph token → IsTime ph m → ⊥
local_time phases.AsksTime token m fits time = fits
local_time ph token m fits time = absurd time

pub local_makes : (x : Sight) (known : Option Contents) (rows : Rows) (w w' : Worker) (peer : ℕ) (taken : Taken) (before : Failing) (r : Result Output NoMemory) → stands_on w ≡ Some peer → FitsLocal w.phase w.token → IfOk r (Talks w w')
    → MakesSo x known rows w taken before before r
local_makes x known rows w w' peer taken before r at fits talks =
    fed_makes x known rows w peer taken before before r at
    (quiet_makes x rows w peer taken before r (talked_well w w' r talks) (λ p fails rest f m is. message_none (turn_in x rows p fails rest w) f peer w.phase m refl (local_time w.phase w.token m fits)))

pub time_other : (m : Message) → ((n : ℕ) → m ≡ messages.Timestamp n → ⊥) → IsTime phases.AsksTime m → ⊥
time_other (messages.Timestamp n) other time = other n refl
time_other m other time = absurd time
