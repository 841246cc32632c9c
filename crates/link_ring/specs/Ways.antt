-- What happens on one way of a connection (own).
use Rattle.std.specs.Prelude.{◌≡◌, ℕ, ◌==◌, if◌then◌else◌, List, [], ◌∷◌, ◌++◌, filter}
use Rattle.std.specs.Option.{option_to_list}
use Rattle.link_ring.specs.declared.frame.Frame.{Frame}
use Rattle.link_ring.specs.Ends.{EndView, fresh, accepts, after_send, next_frame, after_take, after_open, after_close, after_carry}

-- a call at an end
pub data Call : Type 0 where
  Sends : (frame : Frame) → Call
  Takes Opens Closes : Call

abbrev pub after_call : Call → EndView → EndView
after_call (Sends f) e = if accepts e f then after_send e f else e
after_call Takes e = after_take e
after_call Opens e = after_open e
after_call Closes e = after_close e

-- the frames that it sends, and those that it takes
abbrev pub sent_by : Call → EndView → List Frame
sent_by (Sends f) e = if accepts e f then f ∷ [] else []
sent_by Takes e = []
sent_by Opens e = []
sent_by Closes e = []

abbrev pub taken_by : Call → EndView → List Frame
taken_by (Sends f) e = []
taken_by Takes e = option_to_list (next_frame e)
taken_by Opens e = []
taken_by Closes e = []

-- a call at the end that sends on the way, one at the end that takes from it, or frames are carried between the two
pub data Event : Type 0 where
  AtSender AtTaker : (call : Call) → Event
  Carries : Event

-- a way: its two ends, and all frames that were sent on it and taken from it
pub record Way : Type 0 where
  pub sender : EndView
  pub taker : EndView
  pub sent : List Frame
  pub taken : List Frame

abbrev pub new_way : Way
new_way = record { sender = fresh; taker = fresh; sent = []; taken = [] }

abbrev pub after_event : Event → Way → Way
after_event (AtSender c) w = record w { sender = after_call c w.sender; sent = w.sent ++ sent_by c w.sender }
after_event (AtTaker c) w = record w { taker = after_call c w.taker; taken = w.taken ++ taken_by c w.taker }
after_event Carries w = record w { sender = after_carry w.sender w.taker; taker = after_carry w.taker w.sender }

abbrev pub after_events : List Event → Way → Way
after_events [] w = w
after_events (event ∷ events) w = after_events events (after_event event w)

-- the frames of an epoch
abbrev pub of_epoch : ℕ → List Frame → List Frame
of_epoch e fs = filter (λ f. f.epoch == e) fs

-- the second list begins with the first
abbrev pub IsFront : List Frame → List Frame → Type 0
IsFront xs ys = (rest : List Frame) × (ys ≡ xs ++ rest)
