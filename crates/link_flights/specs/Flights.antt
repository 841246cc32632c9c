-- The frames at the ends of connections are the flights of the sequential driver (own).
use Rattle.std.specs.Prelude.{◌≡◌, ℕ, Bool, ◌&&◌, ◌==◌, List, [], filter, length, map}
use Rattle.link_ring.specs.declared.frame.Frame.{Frame}
use Rattle.link_ring.specs.declared.frame.Body.{Body}
use Rattle.link_ring.specs.declared.frame.Body.TheVariants as bodies
use Rattle.link_ring.specs.Ends.{EndView}
use Rattle.node_model.specs.Ends.{EndName, takes_at}
use Rattle.node_ends.specs.Ends.{frame_at}
use Rattle.driver_model.specs.Driver.{Flight, is_sent_by}

-- the bytes of a piece; any other frame has none
abbrev pub bytes_in : Body → List ℕ
bytes_in bodies.Open = []
bytes_in (bodies.Line text) = []
bytes_in (bodies.Bytes bytes) = bytes
bytes_in bodies.Close = []

-- a frame at the end a of r, as a flight to r
abbrev pub flight_at : ℕ → EndName → Frame → Flight
flight_at r a x = record { to = r; frame = frame_at a x; bytes = bytes_in x.body }

-- the flight comes to the end a of r
abbrev pub comes_to : ℕ → EndName → Flight → Bool
comes_to r a x = (x.to == r) && takes_at a x.frame

-- the frames at hand at the end a of r are the flights that come to it, in their order
abbrev pub HasAtHand : List Flight → ℕ → EndName → EndView → Type 0
HasAtHand xs r a v = map (flight_at r a) v.at_hand ≡ filter (comes_to r a) xs

-- The end a of r is as these flights tell: they are at hand where they come to it, none is still to be carried, and its places
-- are those of the flights that it sent.
pub record IsEndIn (xs : List Flight) (r : ℕ) (a : EndName) (v : EndView) : Type 0 where
  pub at_hand : HasAtHand xs r a v
  pub on_way : v.on_way ≡ []
  pub used : v.used ≡ length (filter (is_sent_by r a) xs)
