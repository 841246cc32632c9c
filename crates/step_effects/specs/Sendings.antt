-- The frames that an end sends, beside those that an entry tells (own).
use Rattle.std.specs.Prelude.{◌+◌, Bool, false, List, Option, Some, None}
use Rattle.run_data.specs.declared.entry.FrameText.TheVariants.{Closing}
use Rattle.run_data.specs.declared.entry.FrameView.{FrameView}
use Rattle.node_model.specs.Ends.{EndName}
use Rattle.step_judging.specs.Same.{same_frame, same_frames}
use Rattle.step_effects.specs.declared.sending.EndAt.{EndAt}

-- the end
abbrev pub name_of : EndAt → EndName
name_of x = record { peer = x.peer; slot = x.slot; client = x.client }

-- these are the frames that are left, if the ones before them were told
abbrev pub rest_told : List FrameView → Option (List FrameView) → Bool
rest_told frames None = false
rest_told frames (Some left) = same_frames frames left

-- ---- for private contracts

-- this frame is told, if one is
abbrev pub frame_told : FrameView → Option FrameView → Bool
frame_told f None = false
frame_told f (Some told) = same_frame f told

-- the close of the connection, as the second frame that the end sends
abbrev pub second_close : EndAt → FrameView
second_close x = record { peer = x.peer; slot = x.slot; up = x.client; epoch = x.was.epoch; seq = x.was.sent + 1 + 1; body = Closing }
