-- Who sent the frame that an entry took (own).
use Rattle.std.specs.Prelude.{◌≡◌, ℕ, ◌+◌, Bool, true, false, ◌&&◌, if◌then◌else◌, ◌==◌, List, [], ◌∷◌, ◌++◌, filter, map, slice_get, Option, Some, None, option_map}
use Rattle.annex_base.specs.Bools.{same_bool}
use Rattle.run_data.specs.declared.entry.Entry.{Entry}
use Rattle.run_data.specs.declared.entry.FrameView.{FrameView}
use Rattle.run_model.specs.Past.{is_of}
use Rattle.node_model.specs.Rows.{option_is}
use Rattle.run_model.specs.Said.{Said, message_in, is_request}
use Rattle.node_model.specs.Slots.{job_of}

-- One way of a connection in one epoch: up, from the client to the server, or down. A connection belongs to a client, a
-- server and one of the client's slots; each of its openings has the next epoch.
pub record Way : Type 0 where
  pub client : ℕ
  pub server : ℕ
  pub slot : ℕ
  pub up : Bool
  pub epoch : ℕ

abbrev pub up_of : Way → Way
up_of w = record w { up = true }

abbrev pub sender_of : Way → ℕ
sender_of w = if w.up then w.client else w.server

abbrev pub taker_of : Way → ℕ
taker_of w = if w.up then w.server else w.client

-- the way of a frame that r takes
abbrev pub way_of : ℕ → FrameView → Way
way_of r f = record { client = if f.up then f.peer else r; server = if f.up then r else f.peer; slot = f.slot; up = f.up; epoch = f.epoch }

-- the frame, listed with this peer, is on the way
abbrev pub is_on : Way → ℕ → FrameView → Bool
is_on w peer g = (g.peer == peer) && ((g.slot == w.slot) && (same_bool g.up w.up && (g.epoch == w.epoch)))

-- the frames that an entry of the way's sender sends on it
abbrev pub on_way : Way → Entry → List FrameView
on_way w e = filter (is_on w (taker_of w)) e.sent

-- the entry takes a frame of the way
abbrev pub takes : Way → Option FrameView → Bool
takes w None = false
takes w (Some f) = is_on w (sender_of w) f

-- a frame with the entry that sent it and the past before that
pub record FlyingFrame : Type 0 where
  pub frame : FrameView
  pub entry : Entry
  pub before : List Entry

abbrev pub flying_frame : Entry → List Entry → FrameView → FlyingFrame
flying_frame e past g = record { frame = g; entry = e; before = past }

-- all frames that were sent on the way, the oldest first: a function of its sender's entries
abbrev pub frames_sent : List Entry → Way → List FlyingFrame
frames_sent [] w = []
frames_sent (e ∷ past) w = if is_of (sender_of w) e then frames_sent past w ++ map (flying_frame e past) (on_way w e) else frames_sent past w

-- how many of them were taken: a function of its taker's entries
abbrev pub taken_count : List Entry → Way → ℕ
taken_count [] w = 0
taken_count (e ∷ past) w = if is_of (taker_of w) e && takes w e.taken then taken_count past w + 1 else taken_count past w

-- the frame that may be taken next on the way: the first that was sent and not yet taken, with its number
pub record MayTake (past : List Entry) (w : Way) (f : FrameView) : Type 0 where
  pub it : FlyingFrame
  pub next : slice_get (frames_sent past w) (taken_count past w) ≡ Some it
  pub seq_is : f.seq ≡ taken_count past w + 1
  pub body_is : it.frame.body ≡ f.body

-- an entry with the past before it
pub record SendingEntry : Type 0 where
  pub entry : Entry
  pub before : List Entry

abbrev pub sending_entry : FlyingFrame → SendingEntry
sending_entry x = record { entry = x.entry; before = x.before }

-- who sent the frame that may be taken next on the way
abbrev pub next_sender : List Entry → Way → Option SendingEntry
next_sender past w = option_map sending_entry (slice_get (frames_sent past w) (taken_count past w))

-- the sender of the frame that the entry of r took
abbrev pub sender : List Entry → ℕ → Option FrameView → Option SendingEntry
sender past r None = None
sender past r (Some f) = next_sender past (way_of r f)

abbrev pub said_of : FlyingFrame → Said
said_of x = message_in x.frame.body

-- ---- requests and answers

-- the frame's message passes the test
abbrev pub says : (Said → Bool) → FrameView → Bool
says q f = q (message_in f.body)

-- of what was sent on a way, the frames whose message passes a test
abbrev pub sent_if : (Said → Bool) → List Entry → Way → List FlyingFrame
sent_if q past w = filter (λ x. says q x.frame) (frames_sent past w)

abbrev pub takes_if : (Said → Bool) → Way → Option FrameView → Bool
takes_if q w None = false
takes_if q w (Some f) = is_on w (sender_of w) f && says q f

-- how many of them were taken
abbrev pub taken_if : (Said → Bool) → List Entry → Way → ℕ
taken_if q [] w = 0
taken_if q (e ∷ past) w = if is_of (taker_of w) e && takes_if q w e.taken then taken_if q past w + 1 else taken_if q past w

abbrev pub requests : List Entry → Way → List FlyingFrame
requests past w = sent_if is_request past w

abbrev pub last_of : {X : Type 0} → List X → Option X
last_of [] = None
last_of (x ∷ []) = Some x
last_of (x ∷ y ∷ ys) = last_of (y ∷ ys)

-- the last request that was sent on the way
abbrev pub last_request : List Entry → Way → Option FlyingFrame
last_request past w = last_of (requests past w)

-- ---- jobs

-- the entry is one of job j of a
abbrev pub is_job : ℕ → ℕ → Entry → Bool
is_job a j e = is_of a e && option_is (job_of e.kind) j
