-- What came at an end (own).
use Rattle.std.specs.Prelude.{◌≡◌, ◌&&◌, ℕ, Bool, true, false, List, Option, Some, None, is_some, option_and_then}
use Rattle.link_ring.specs.declared.frame.Frame.{Frame}
use Rattle.link_ring.specs.Ends.{EndView, next_frame}
use Rattle.session_state.specs.declared.incoming.Incoming.{Incoming}
use Rattle.session_state.specs.Talking.{Brings}
use Rattle.node_model.specs.Ends.{EndName}
use Rattle.node_ends.specs.Ends.{end_at, frame_at, link_at, room_at, text_in, wait_at}
use Rattle.end_hearing.specs.declared.hearing.Arrival.{Arrival}
use Rattle.end_hearing.specs.Pieces.{bytes_heard, bytes_of}

-- a frame may be taken there: one waits, and there is room
abbrev pub has_frame : List EndView → EndName → Bool
has_frame links a = room_at links a && is_some (wait_at links a)

-- the first frame at hand there is told, with its bytes and the word beside it
pub record TellsFrame (links : List EndView) (a : EndName) (x : Arrival) : Type 0 where
  pub opened : (end_at links a).opened ≡ true
  pub room : room_at links a ≡ true
  pub frame : Frame
  pub first : option_and_then next_frame (link_at links a) ≡ Some frame
  pub waits : wait_at links a ≡ Some (frame_at a frame)
  pub incoming : Incoming
  pub told : x.incoming ≡ Some incoming
  pub brings : Brings (text_in frame.body) incoming
  pub bytes : bytes_heard incoming ≡ bytes_of frame.body
  pub word : x.word ≡ frame.word

-- the end is closed, and nothing is told
pub record TellsClosed (links : List EndView) (a : EndName) (x : Arrival) : Type 0 where
  pub closed : (end_at links a).opened ≡ false
  pub incoming : x.incoming ≡ None
  pub word : x.word ≡ None

abbrev pub Tells : List EndView → EndName → Arrival → Option ℕ → Type 0
Tells links a x None = TellsClosed links a x
Tells links a x (Some peer) = (peer ≡ a.peer) × TellsFrame links a x

-- what came there; at an open end without a frame that may be taken, nothing
abbrev pub Hears : List EndView → EndName → Option Arrival → Type 0
Hears links a None = ((end_at links a).opened ≡ true) × (has_frame links a ≡ false)
Hears links a (Some x) = Tells links a x x.takes
