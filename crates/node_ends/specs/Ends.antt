-- The ends of a repository's connections, by name, and how they are those of its state (own).
use Rattle.std.specs.Prelude.{◌≡◌, ◌≢◌, ◌<◌, ◌+◌, ◌-◌, ◌*◌, ◌^◌, Bool, true, false, not, nat_le, nat_lt, ◌&&◌, if◌then◌else◌, List, length, flat_map, Option, Some, None, is_some, slice_get}
use Rattle.std.specs.Option.{option_map, option_and_then, option_to_list}
use Rattle.annex_base.specs.Lists.{Member}
use Rattle.link_ring.specs.declared.frame.Frame.{Frame}
use Rattle.link_ring.specs.declared.frame.Body.{Body}
use Rattle.link_ring.specs.declared.frame.Body.TheVariants as bodies
use Rattle.link_ring.specs.Frames.{is_closed}
use Rattle.link_ring.specs.Ends.{EndView, free, next_frame}
use Rattle.link_ring.specs.Places.{end_place}
use Rattle.run_data.specs.declared.entry.FrameView.{FrameView}
use Rattle.run_data.specs.declared.entry.FrameText.{FrameText}
use Rattle.run_data.specs.declared.entry.FrameText.TheVariants as texts
use Rattle.node_model.specs.AnyTime.{all_ends}
use Rattle.node_model.specs.Ends.{End, EndName, never, may_take}
use Rattle.node_model.specs.Look.{Look}
use Rattle.node_model.specs.SetUp.{SetUp}
use Rattle.node_model.specs.State.{State}
use Rattle.node_ends.specs.declared.name.EndId.{EndId}

-- ---- one end

abbrev pub name_of : EndId → EndName
name_of id = record { peer = id.peer; slot = id.slot; client = id.client }

-- the end of this name, among those of a repository
abbrev pub link_at : List EndView → EndName → Option EndView
link_at links a = if nat_lt a.slot 4 then slice_get links (end_place a.peer a.slot a.client) else None

-- how it stands
abbrev pub stands : EndView → End
stands v = record { epoch = v.epoch; opened = not (is_closed v.phase); sent = v.sent }

abbrev pub end_in : Option EndView → End
end_in None = never
end_in (Some v) = stands v

abbrev pub end_at : List EndView → EndName → End
end_at links a = end_in (link_at links a)

-- two free places, and numbers that are left for a frame, a Close and an opening
abbrev pub has_room : EndView → Bool
has_room v = nat_le 2 (free v) && (nat_lt (v.sent + 1) (2 ^ 62) && nat_lt v.epoch (2 ^ 32 - 1))

abbrev pub passes : {X : Type 0} → (X → Bool) → Option X → Bool
passes p None = false
passes p (Some x) = p x

abbrev pub room_at : List EndView → EndName → Bool
room_at links a = passes has_room (link_at links a)

-- ---- the frames at hand

-- a frame, as an entry of the repository that takes it lists it
abbrev pub text_in : Body → FrameText
text_in bodies.Open = texts.Opening
text_in (bodies.Line text) = texts.Line text
text_in (bodies.Bytes bytes) = texts.Bytes (length bytes)
text_in bodies.Close = texts.Closing

abbrev pub frame_at : EndName → Frame → FrameView
frame_at a f = record { peer = a.peer; slot = a.slot; up = not a.client; epoch = f.epoch; seq = f.seq; body = text_in f.body }

-- the first frame at hand at an end that isn't old
abbrev pub hand_at : List EndView → EndName → Option FrameView
hand_at links a = option_map (frame_at a) (option_and_then next_frame (link_at links a))

abbrev pub if_may : End → FrameView → Option FrameView
if_may c f = if may_take c f then Some f else None

-- the same, where the end may take it; any other waits for good
abbrev pub wait_at : List EndView → EndName → Option FrameView
wait_at links a = option_and_then (if_may (end_at links a)) (hand_at links a)

-- ---- all ends

-- an end of the repository: at another one of the run, in one of the four slots
pub record IsEndOf (s : SetUp) (a : EndName) : Type 0 where
  pub peer : a.peer < length s.repos
  pub other : a.peer ≢ s.number
  pub slot : a.slot < 4

-- what a look finds of the ends
pub record SeesEnds (links : List EndView) (s : SetUp) (k : Look) : Type 0 where
  pub at_hand : k.at_hand ≡ flat_map (λ a. option_to_list (hand_at links a)) (all_ends s)
  pub room : (a : EndName) → is_some (link_at links a) ≡ true → k.room a ≡ room_at links a

-- the state's ends are these
pub record AreEnds (links : List EndView) (s : SetUp) (st : State) : Type 0 where
  pub count : length links ≡ length s.repos * 8
  pub ends : (a : EndName) → Member a (all_ends s) → st.ends a ≡ end_at links a
