-- The frames on their way in one direction, by opening, as data (own).
use Rattle.std.specs.Prelude.{◌≡◌, ℕ, ◌-◌, List, [], ◌∷◌, drop, map, Option, Some, None}
use Rattle.std.specs.Map.{lookup}
use Rattle.std.specs.VecDeque.{deque_capacity, deque_len}
use Rattle.step_judging.specs.Carried as carried
use Rattle.step_judging.specs.Carried.{WaitingFrame}
use Rattle.state_flights.specs.Ways.{same_opening}
use Rattle.state_flights.specs.declared.opening.Opening.{Opening}
use Rattle.state_flights.specs.declared.flight.Flight.{Flight}
use Rattle.state_flights.specs.declared.flight.Waiting.{Waiting}

-- a frame that waits
abbrev pub waiting_frame : Waiting → WaitingFrame
waiting_frame x = record { body = x.body; word = x.word }

-- those of a way, and how many were taken
abbrev pub flight_of : Flight → carried.Flight
flight_of x = record { waiting = map waiting_frame x.waiting.items; taken = x.taken }

abbrev pub no_flight : carried.Flight
no_flight = record { waiting = []; taken = 0 }

abbrev pub flight_found : Option Flight → carried.Flight
flight_found None = no_flight
flight_found (Some x) = flight_of x

-- those of an opening
abbrev pub flight_at : List (Opening × Flight) → Opening → carried.Flight
flight_at entries at = flight_found (lookup (same_opening at) entries)

-- how many more frames there is room for
abbrev pub room_of : Flight → ℕ
room_of x = deque_capacity x.waiting - deque_len x.waiting

abbrev pub room_found : Option Flight → ℕ
room_found None = 0
room_found (Some x) = room_of x

abbrev pub room_at : List (Opening × Flight) → Opening → ℕ
room_at entries at = room_found (lookup (same_opening at) entries)

-- ---- for private contracts

-- it is the first of them, if there is one
abbrev pub IsFront : Option Waiting → List Waiting → Type 0
IsFront None xs = xs ≡ []
IsFront (Some x) xs = xs ≡ x ∷ drop 1 xs
