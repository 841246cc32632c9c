-- Whose turn it is: the first session that has a step, in the words of its ends; for private contracts.
use Rattle.std.specs.Prelude.{◌≡◌, ℕ, ◌<◌, Bool, ◌&&◌, if◌then◌else◌, List, length, slice_get, Option, Some, None}
use Rattle.run_data.specs.declared.entry.FrameView.{FrameView}
use Rattle.link_ring.specs.Ends.{EndView}
use Rattle.node_ends.specs.Ends.{end_at, room_at, wait_at}
use Rattle.p2p_server.specs.declared.session.Session.{Session}
use Rattle.p2p_server.specs.Giving.{is_giving}
use Rattle.p2p_server.specs.Talking.{session_of}
use Rattle.node_sessions.specs.declared.turn.Turn.{Turn}
use Rattle.node_sessions.specs.declared.turn.Turn.TheVariants.{Takes, Gives}
use Rattle.node_sessions.specs.declared.turn.First.{First}
use Rattle.node_sessions.specs.Sessions.{Every, end_of}

-- a frame that waits comes before the next piece
abbrev pub turn_with : Option FrameView → Bool → Option Turn
turn_with (Some f) gives = Some Takes
turn_with None gives = if gives then Some Gives else None

-- what the session has to do, if anything
abbrev pub turn_at : List EndView → Session → Option Turn
turn_at links x =
    if room_at links (end_of x) then turn_with (wait_at links (end_of x)) ((end_at links (end_of x)).opened && is_giving (session_of x).doing) else None

-- the first that has something to do stands at this place
pub record IsFirstAt (links : List EndView) (xs : List Session) (first : First) : Type 0 where
  pub within : first.at < length xs
  pub before : (i : ℕ) (x : Session) → i < first.at → slice_get xs i ≡ Some x → turn_at links x ≡ None
  pub here : (x : Session) → slice_get xs first.at ≡ Some x → turn_at links x ≡ Some first.turn

abbrev pub IsFirst : List EndView → List Session → Option First → Type 0
IsFirst links xs None = Every (λ x. turn_at links x ≡ None) xs
IsFirst links xs (Some first) = IsFirstAt links xs first
