-- A change at one of the ends, and what waits at one; for private contracts.
use Rattle.std.specs.Prelude.{◌≡◌, ◌≢◌, Bool, true, false, not, ◌&&◌, ◌==◌, nat_lt, if◌then◌else◌, List, length, Option, Some, None}
use Rattle.std.specs.Option.{option_map, option_and_then}
use Rattle.link_ring.specs.declared.frame.Frame.{Frame}
use Rattle.link_ring.specs.declared.frame.Body.{Body}
use Rattle.link_ring.specs.declared.frame.Body.TheVariants as bodies
use Rattle.link_ring.specs.Frames.{is_closed}
use Rattle.link_ring.specs.Ends.{EndView, next_frame}
use Rattle.node_model.specs.Ends.{EndName}
use Rattle.node_ends.specs.Ends.{link_at}

-- the end of this name is changed so, and no other
pub record IsChanged (a : EndName) (change : EndView → EndView) (was now : List EndView) : Type 0 where
  pub count : length now ≡ length was
  pub here : link_at now a ≡ option_map change (link_at was a)
  pub others : (b : EndName) → b ≢ a → link_at now b ≡ link_at was b

abbrev pub is_open_body : Body → Bool
is_open_body bodies.Open = true
is_open_body (bodies.Line text) = false
is_open_body (bodies.Bytes bytes) = false
is_open_body bodies.Close = false

-- the end may take the frame
abbrev pub may_frame : EndView → Frame → Bool
may_frame v f = if is_open_body f.body then is_closed v.phase && nat_lt v.epoch f.epoch else not (is_closed v.phase) && (f.epoch == v.epoch)

abbrev pub if_frame : EndView → Frame → Option Frame
if_frame v f = if may_frame v f then Some f else None

-- the frame that waits
abbrev pub frame_waiting : EndView → Option Frame
frame_waiting v = option_and_then (if_frame v) (next_frame v)
