-- What a frame that a job takes makes of the parts.
use Rattle.std.proofs.Common.{◌≡◌, ℕ, Bool, true, false, List, [], ◌∷◌, ◌++◌, Option, Some, None, length, refl, sym, ap, ◌∙◌}
use Rattle.std.specs.Prelude.{◌&&◌, if◌then◌else◌, nat_le, nat_lt}
use Rattle.std.specs.Option.{option_map}
use Rattle.annex_base.proofs.Conditions.{if_either}
use Rattle.annex_base.specs.declared.kinds.Call.{Call}
use Rattle.annex_base.specs.declared.kinds.Call.TheVariants as calls
use Rattle.run_data.specs.declared.entry.EntryKind.{EntryKind}
use Rattle.run_data.specs.declared.entry.EntryKind.TheVariants.{Fault, Gain, Talk}
use Rattle.run_data.specs.declared.entry.FrameView.{FrameView}
use Rattle.run_data.specs.declared.entry.FrameText.{FrameText}
use Rattle.run_data.specs.declared.entry.FrameText.TheVariants.{Opening, Closing, Bytes, Line}
use Rattle.p2p_wire.specs.declared.message.Message.{Message}
use Rattle.p2p_wire.specs.declared.message.Message.TheVariants.{Valid}
use Rattle.p2p_wire.specs.Messages.{message_of}
use Rattle.object_store.specs.Stores.{Parts, with_at}
use Rattle.node_model.specs.Jobs.{AsksLock, AsksLook, Drops, GetsBytes, GetsData, Gets, GetsWord, Greets, Opens, Part, Phase, Puts, PutsAnswer, PutsOffer, Work}
use Rattle.node_model.specs.Look.{Effect, failing_call, unless}
use Rattle.node_model.specs.Calls.{to_commit}
use Rattle.node_model.specs.JobStep.{Turn, attempts, by_me, quietly, talk}
use Rattle.node_model.specs.DropStep.{takes_drop}
use Rattle.node_model.specs.TransferStep.{gains, takes_bytes, takes_get, takes_put}
use Rattle.node_model.specs.Turns.{takes, takes_answer, takes_frame, takes_text}
use Rattle.node_model.specs.Sessions.{message_said}
use Rattle.node_sessions.specs.Stored.{is_verdict}
use Rattle.p2p_server.specs.Talking.{parts_after_valid}
use Rattle.joined_nodes.specs.PartStored.{parts_after_got}
use Rattle.driver_model.specs.Driver.{Driver, drops_part}
use Rattle.driver_model.specs.Turning.{is_failure, is_valid, takes_into}
use Rattle.fleet_model.proofs.Working.{IsFit, is_judging}

-- ---- how parts stay

-- the driver's parts are as they were after this was taken and these were sent
abbrev pub LeavesParts : FrameText → List FrameView → Type 0
LeavesParts body sent = (r : ℕ) (key bytes : List ℕ) (d : Driver) → takes_into r key bytes body sent d ≡ d

-- these are the bytes of the frame, if it is a piece
abbrev pub HasSize : FrameText → List ℕ → Type 0
HasSize body bytes = (n : ℕ) → body ≡ Bytes n → length bytes ≡ n

-- the store's parts stay, by an entry of this kind of the job
abbrev pub StaysAt : Work → FrameText → EntryKind → Type 0
StaysAt w body kind = (bytes : List ℕ) (known : Option Parts) → HasSize body bytes → parts_after_got w.what.key w.phase body bytes kind known ≡ known

-- a talk of the job leaves the parts, appends the piece that it awaited, or drops the part that it refuses
pub data JobTalks (w : Work) (body : FrameText) (sent : List FrameView) (job : Option ℕ) : Type 0 where
  Keeps : StaysAt w body (Talk job) → LeavesParts body sent → JobTalks w body sent job
  Grows : (peer start size left n : ℕ) → w.phase ≡ GetsBytes peer start size left → body ≡ Bytes n → (nat_lt 0 n && nat_le n left) ≡ true → sent ≡ [] → JobTalks w body sent job
  Spends : (peer start size : ℕ) (text : List ℕ) → w.phase ≡ GetsWord peer start size → body ≡ Line text → message_of text ≡ Some Valid → is_failure (message_said sent) ≡ true → JobTalks w body sent job

-- by an entry of any other kind, but a gain, they stay
abbrev pub JobFits : Work → FrameText → List FrameView → EntryKind → Type 0
JobFits w body sent (Talk job) = JobTalks w body sent job
JobFits w body sent (Gain by size key) = Unit {0}
JobFits w body sent (Fault call by) = Unit {0}
JobFits w body sent kind = StaysAt w body kind

abbrev pub EffectFits : Work → FrameText → Effect → Type 0
EffectFits w body m = JobFits w body m.sent m.kind

kept_fits : (w : Work) (body : FrameText) (sent : List FrameView) (kind : EntryKind) → ((kind : EntryKind) → StaysAt w body kind) → LeavesParts body sent → JobFits w body sent kind
kept_fits w body sent (Talk job) stays leaves = Keeps (stays (Talk job)) leaves
kept_fits w body sent (Gain by size key) stays leaves = tt
kept_fits w body sent (Fault call by) stays leaves = tt
kept_fits w body sent kind stays leaves = stays kind

attempts_fits : (t : Turn) (body : FrameText) (cs : List Call) (f : FrameView) (m : Effect) → EffectFits t.w body m → EffectFits t.w body (attempts t cs (Some f) m)
attempts_fits t body cs f m fits = go (failing_call t.look.fails cs)
  where
    go : (c : Option Call) → EffectFits t.w body (unless c (λ call. quietly (Fault call (by_me t)) (Some f)) m)
    go None = fits
    go (Some call) = tt

-- ---- the frames that change a part

-- the phase of a get that awaits bytes
abbrev is_taking : Phase → Bool
is_taking (GetsBytes peer start size left) = true
is_taking phase = false

abbrev judges : Option Message → Phase → Bool
judges (Some Valid) phase = is_judging phase
judges m phase = false

-- a piece to a get that awaits bytes, and VALID to one that awaits the verdict
abbrev touches : FrameText → Phase → Bool
touches (Bytes n) phase = is_taking phase
touches (Line text) phase = judges (message_of text) phase
touches body phase = false

opening_apart : (key : List ℕ) (phase : Phase) (bytes : List ℕ) (kind : EntryKind) (known : Option Parts) → parts_after_got key phase Opening bytes kind known ≡ known
opening_apart key (GetsBytes peer start size left) bytes kind known = refl
opening_apart key (GetsWord peer start size) bytes kind known = refl
opening_apart key phase bytes kind known = refl

closing_apart : (key : List ℕ) (phase : Phase) (bytes : List ℕ) (kind : EntryKind) (known : Option Parts) → parts_after_got key phase Closing bytes kind known ≡ known
closing_apart key (GetsBytes peer start size left) bytes kind known = refl
closing_apart key (GetsWord peer start size) bytes kind known = refl
closing_apart key phase bytes kind known = refl

piece_apart : (key : List ℕ) (n : ℕ) (phase : Phase) → is_taking phase ≡ false → (bytes : List ℕ) (kind : EntryKind) (known : Option Parts) → parts_after_got key phase (Bytes n) bytes kind known ≡ known
piece_apart key n (GetsBytes peer start size left) e bytes kind known = absurd (cc)
piece_apart key n (GetsWord peer start size) e bytes kind known = refl
piece_apart key n phase e bytes kind known = refl

no_verdict : (o : Option Message) (phase : Phase) → is_judging phase ≡ true → judges o phase ≡ false → is_verdict o ≡ false
no_verdict (Some Valid) phase awaits e = let now : true ≡ false = sym awaits ∙ e in cc
no_verdict o phase awaits e = refl

line_apart : (key text : List ℕ) (phase : Phase) → judges (message_of text) phase ≡ false → (bytes : List ℕ) (kind : EntryKind) (known : Option Parts) → parts_after_got key phase (Line text) bytes kind known ≡ known
line_apart key text (GetsWord peer start size) e bytes kind known =
    ap (λ (b : Bool). if b then parts_after_valid key kind known else known) (no_verdict (message_of text) (GetsWord peer start size) refl e)
line_apart key text (GetsBytes peer start size left) e bytes kind known = refl
line_apart key text phase e bytes kind known = refl

got_apart : (key : List ℕ) (phase : Phase) (body : FrameText) → touches body phase ≡ false → (bytes : List ℕ) (kind : EntryKind) (known : Option Parts) → parts_after_got key phase body bytes kind known ≡ known
got_apart key phase Opening e bytes kind known = opening_apart key phase bytes kind known
got_apart key phase Closing e bytes kind known = closing_apart key phase bytes kind known
got_apart key phase (Bytes n) e bytes kind known = piece_apart key n phase e bytes kind known
got_apart key phase (Line text) e bytes kind known = line_apart key text phase e bytes kind known

stays_apart : (w : Work) (body : FrameText) → touches body w.phase ≡ false → (kind : EntryKind) → StaysAt w body kind
stays_apart w body e kind = λ bytes known sized. got_apart w.what.key w.phase body e bytes kind known

-- ---- a piece

unawaited : (w : Work) (peer start size left n : ℕ) (job : Option ℕ) → w.phase ≡ GetsBytes peer start size left → (nat_lt 0 n && nat_le n left) ≡ false → StaysAt w (Bytes n) (Talk job)
unawaited w peer start size left n job is e = λ bytes known sized.
    ap (λ (phase : Phase). parts_after_got w.what.key phase (Bytes n) bytes (Talk job) known) is
    ∙ (ap (λ (count : ℕ). if nat_lt 0 count && nat_le count left then option_map (λ (p : Parts). with_at p w.what.key (p w.what.key ++ bytes)) known else known) (sized n refl)
    ∙ ap (λ (b : Bool). if b then option_map (λ (p : Parts). with_at p w.what.key (p w.what.key ++ bytes)) known else known) e)

piece_fits : (t : Turn) (f : FrameView) (peer n : ℕ) (phase : Phase) → t.w.phase ≡ phase → EffectFits t.w (Bytes n) (takes_bytes t f peer n phase)
piece_fits t f peer n (GetsBytes p start size left) is =
    if_either (EffectFits t.w (Bytes n)) (nat_lt 0 n && nat_le n left) _ _
    (λ e. attempts_fits t (Bytes n) (calls.Append ∷ []) f (quietly (talk t) (Some f)) (Grows p start size left n is refl e refl))
    (λ e. Keeps (unawaited t.w p start size left n (Some t.w.number) is e) (λ r key bytes d. refl))
piece_fits t f peer n phase is = Keeps (stays_apart t.w (Bytes n) (ap is_taking is) (talk t)) (λ r key bytes d. refl)

-- ---- VALID

-- whoever has no use for VALID closes
abbrev SaysNoFailure : Effect → Type 0
SaysNoFailure m = is_failure (message_said m.sent) ≡ false

get_at_valid : (t : Turn) (f : FrameView) (peer : ℕ) (phase : Phase) → is_judging phase ≡ false → SaysNoFailure (takes_get t f peer phase Valid)
get_at_valid t f peer (GetsWord p start size) e = absurd (cc)
get_at_valid t f peer (GetsData p start) e = refl
get_at_valid t f peer phase e = refl

put_at_valid : (t : Turn) (f : FrameView) (peer : ℕ) (phase : Phase) → SaysNoFailure (takes_put t f peer phase Valid)
put_at_valid t f peer (PutsOffer p) = refl
put_at_valid t f peer (PutsAnswer p start) = refl
put_at_valid t f peer phase = refl

drop_at_valid : (t : Turn) (f : FrameView) (peer : ℕ) (phase : Phase) → SaysNoFailure (takes_drop t f peer phase Valid)
drop_at_valid t f peer (AsksLock p since) = refl
drop_at_valid t f peer (AsksLook p) = refl
drop_at_valid t f peer phase = refl

answer_at_valid : (t : Turn) (f : FrameView) (peer : ℕ) (part : Part) (phase : Phase) → is_judging phase ≡ false → SaysNoFailure (takes_answer t f peer part phase Valid)
answer_at_valid t f peer Gets phase e = get_at_valid t f peer phase e
answer_at_valid t f peer Puts phase e = put_at_valid t f peer phase
answer_at_valid t f peer Drops phase e = drop_at_valid t f peer phase

message_at_valid : (t : Turn) (f : FrameView) (peer : ℕ) (phase : Phase) → is_judging phase ≡ false → SaysNoFailure (takes t f peer phase Valid)
message_at_valid t f peer (Opens p) e = answer_at_valid t f peer t.w.part (Opens p) e
message_at_valid t f peer (Greets p) e = answer_at_valid t f peer t.w.part (Greets p) e
message_at_valid t f peer phase e = answer_at_valid t f peer t.w.part phase e

right_fits : (t : Turn) (f : FrameView) (peer p start size : ℕ) (text : List ℕ) (right : Bool) → message_of text ≡ Some Valid → t.w.phase ≡ GetsWord p start size → EffectFits t.w (Line text) (gains t f peer size right)
right_fits t f peer p start size text true told is = tt
right_fits t f peer p start size text false told is = Spends p start size text is refl told refl

word_fits : (t : Turn) (f : FrameView) (peer p start size : ℕ) (text : List ℕ) (part : Part) → message_of text ≡ Some Valid → t.w.phase ≡ GetsWord p start size → part ≡ Gets
    → EffectFits t.w (Line text) (takes_answer t f peer part (GetsWord p start size) Valid)
word_fits t f peer p start size text Gets told is gets =
    attempts_fits t (Line text) (to_commit t.look.right) f (gains t f peer size t.look.right) (right_fits t f peer p start size text t.look.right told is)
word_fits t f peer p start size text Puts told is gets = absurd (cc)
word_fits t f peer p start size text Drops told is gets = absurd (cc)

valid_fits : (t : Turn) (f : FrameView) (peer : ℕ) (text : List ℕ) (phase : Phase) → message_of text ≡ Some Valid → IsFit t.w → t.w.phase ≡ phase → EffectFits t.w (Line text) (takes t f peer phase Valid)
valid_fits t f peer text (GetsWord p start size) told fit is = word_fits t f peer p start size text t.w.part told is (fit (ap is_judging is))
valid_fits t f peer text phase told fit is =
    let m = takes t f peer phase Valid in
    kept_fits t.w (Line text) m.sent m.kind
    (stays_apart t.w (Line text) (ap (λ (o : Option Message). judges o t.w.phase) told ∙ ap is_judging is))
    (λ r key bytes d. ap (λ (o : Option Message). if is_valid o then (if is_failure (message_said m.sent) then drops_part r key d else d) else d) told
    ∙ ap (λ (b : Bool). if b then drops_part r key d else d) (message_at_valid t f peer phase refl))

-- ---- a line

text_fits : (t : Turn) (f : FrameView) (peer : ℕ) (text : List ℕ) (o : Option Message) → message_of text ≡ o → IsFit t.w → EffectFits t.w (Line text) (takes_text t f peer o)
text_fits t f peer text (Some Valid) told fit = valid_fits t f peer text t.w.phase told fit refl
text_fits t f peer text o told fit =
    let m = takes_text t f peer o in
    kept_fits t.w (Line text) m.sent m.kind
    (stays_apart t.w (Line text) (ap (λ (x : Option Message). judges x t.w.phase) told))
    (λ r key bytes d. ap (λ (x : Option Message). if is_valid x then (if is_failure (message_said m.sent) then drops_part r key d else d) else d) told)

-- ---- a frame

pub frame_fits : (t : Turn) (peer : ℕ) (f : FrameView) (body : FrameText) → IsFit t.w → EffectFits t.w body (takes_frame t peer f body)
frame_fits t peer f Opening fit = Keeps (stays_apart t.w Opening refl (talk t)) (λ r key bytes d. refl)
frame_fits t peer f Closing fit = Keeps (stays_apart t.w Closing refl (talk t)) (λ r key bytes d. refl)
frame_fits t peer f (Bytes n) fit = piece_fits t f peer n t.w.phase refl
frame_fits t peer f (Line text) fit = text_fits t f peer text (message_of text) refl fit
