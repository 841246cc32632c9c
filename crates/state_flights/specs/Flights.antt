-- The frames on their way between the repositories of a run as data (own).
use Rattle.std.specs.Prelude.{◌≡◌, ℕ, ◌+◌, ◌≤◌, Bool, false, if◌then◌else◌, List, filter, length, map, Option, Some, None}
use Rattle.indexmap.specs.IndexMap.{spare}
use Rattle.annex_base.specs.Lists.{Each}
use Rattle.annex_base.specs.declared.kinds.Word.{Word}
use Rattle.run_data.specs.declared.entry.Entry.{Entry}
use Rattle.run_data.specs.declared.entry.FrameText.{FrameText}
use Rattle.run_data.specs.declared.entry.FrameView.{FrameView}
use Rattle.run_model.specs.Frames.{Way, way_of}
use Rattle.step_judging.specs.Carried as carried
use Rattle.step_judging.specs.Carried.{WaitingFrame}
use Rattle.state_flights.specs.Tables.{flight_at, no_flight, room_at}
use Rattle.state_flights.specs.Ways.{opening_of, same_way, way_sent}
use Rattle.state_flights.specs.declared.flights.Flights.{Flights}

abbrev pub bodies_of : List FrameView → List FrameText
bodies_of frames = map (λ f. f.body) frames

-- the frames of a way that were sent and not yet taken, and how many were taken
abbrev pub flight_on : Flights → Way → carried.Flight
flight_on x w = if w.up then flight_at x.up.entries (opening_of w) else flight_at x.down.entries (opening_of w)

-- how many more frames there is room for on a way
abbrev pub room_on : Flights → Way → ℕ
room_on x w = if w.up then room_at x.up.entries (opening_of w) else room_at x.down.entries (opening_of w)

-- these are the bodies of the frames that the entry sends
abbrev pub AreBodiesOf : Entry → List FrameText → Type 0
AreBodiesOf e bodies = bodies ≡ bodies_of e.sent

-- there is room for so many openings in each direction
pub record HasOpenings (count : ℕ) (x : Flights) : Type 0 where
  pub up : count ≤ spare x.up
  pub down : count ≤ spare x.down

-- there is room for so many frames on the way of each that r sends
abbrev pub HasRoomFor : ℕ → List FrameView → ℕ → Flights → Type 0
HasRoomFor r frames count x = Each (λ f. count ≤ room_on x (way_sent r f)) frames

-- there is room for what the entry of r changes
pub record HasRoom (r : ℕ) (e : Entry) (x : Flights) : Type 0 where
  pub openings : HasOpenings (length e.sent + 1) x
  pub frames : HasRoomFor r e.sent (length e.sent) x

-- they are what they were, but for the room that they have
abbrev pub StaySame : Flights → Flights → Type 0
StaySame was now = (w : Way) → flight_on now w ≡ flight_on was w

-- no frame was sent, and none taken
abbrev pub AreNone : Flights → Type 0
AreNone x = (w : Way) → flight_on x w ≡ no_flight

-- ---- for private contracts

-- a frame that r takes, if it takes one, is of this way
abbrev pub took_on : ℕ → Option FrameView → Way → Bool
took_on r None w = false
took_on r (Some f) w = same_way (way_of r f) w

-- of frames that r sends those of this way, as they wait with a word beside them
abbrev pub waits_with : Option Word → FrameView → WaitingFrame
waits_with word f = record { body = f.body; word = word }

abbrev pub waits_on : ℕ → Option Word → List FrameView → Way → List WaitingFrame
waits_on r word frames w = map (waits_with word) (filter (λ f. same_way (way_sent r f) w) frames)

-- each way has at most so much less room than before
abbrev pub HaveLess : ℕ → Flights → Flights → Type 0
HaveLess less was now = (w : Way) → room_on was w ≤ room_on now w + less

-- the same stands in both tables
pub record HaveSame (was now : Flights) : Type 0 where
  pub up : now.up.entries ≡ was.up.entries
  pub down : now.down.entries ≡ was.down.entries
