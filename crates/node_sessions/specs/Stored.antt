-- What a step of the sessions leaves of the store's contents and parts (own).
use Rattle.std.specs.Prelude.{ℕ, Bool, true, false, if◌then◌else◌, List, [], ◌++◌, Option, Some, None}
use Rattle.std.specs.Option.{option_and_then, option_map, option_map_or}
use Rattle.run_data.specs.declared.entry.EntryKind.{EntryKind}
use Rattle.run_data.specs.declared.entry.EntryKind.TheVariants.{Talk}
use Rattle.run_data.specs.declared.entry.FrameText.{FrameText}
use Rattle.run_data.specs.declared.entry.FrameText.TheVariants.{Bytes, Line}
use Rattle.run_data.specs.declared.entry.FrameView.{FrameView}
use Rattle.p2p_wire.specs.declared.message.Message.{Message}
use Rattle.p2p_wire.specs.declared.message.Message.TheVariants.{Valid}
use Rattle.p2p_wire.specs.Messages.{message_of}
use Rattle.object_store.specs.Stores.{Contents, Parts, with_at}
use Rattle.link_ring.specs.declared.frame.Frame.{Frame}
use Rattle.link_ring.specs.Ends.{EndView, next_frame}
use Rattle.node_model.specs.Ends.{EndName}
use Rattle.node_model.specs.Sessions.{Doing, Takes, Took}
use Rattle.node_ends.specs.Ends.{link_at}
use Rattle.end_hearing.specs.Pieces.{bytes_of}
use Rattle.p2p_server.specs.declared.session.Session.{Session}
use Rattle.p2p_server.specs.Answers.{contents_after}
use Rattle.p2p_server.specs.Talking.{parts_after_valid, session_of}
use Rattle.node_sessions.specs.declared.served.Served.{Served}
use Rattle.node_sessions.specs.Serving.{end_by, server_in, taken_by}
pub use Rattle.end_hearing.specs.Pieces.{bytes_of}

-- the contents after what was served
abbrev pub contents_left : Option Contents → Option Parts → Option Served → Option Contents
contents_left known parts None = known
contents_left known parts (Some v) = contents_after known parts v.kind

-- the bytes of the first frame at hand at an end
abbrev pub bytes_at : List EndView → EndName → List ℕ
bytes_at links a = option_map_or (λ (f : Frame). bytes_of f.body) (option_and_then next_frame (link_at links a)) []

-- VALID
abbrev pub is_verdict : Option Message → Bool
is_verdict (Some Valid) = true
is_verdict m = false

-- the parts after a session that does this answered a frame by an entry of this kind: one that it takes grows by a piece that
-- came, and is spent at the verdict, as the content or dropped, unless a call of the store failed
abbrev pub parts_after_frame : Doing → FrameText → List ℕ → EntryKind → Option Parts → Option Parts
parts_after_frame (Takes key size left) (Bytes n) bytes (Talk job) known = option_map (λ p. with_at p key (p key ++ bytes)) known
parts_after_frame (Took key size) (Line text) bytes kind known = if is_verdict (message_of text) then parts_after_valid key kind known else known
parts_after_frame doing body bytes kind known = known

abbrev pub parts_after_taken : Doing → Option FrameView → List ℕ → EntryKind → Option Parts → Option Parts
parts_after_taken doing None bytes kind known = known
parts_after_taken doing (Some f) bytes kind known = parts_after_frame doing f.body bytes kind known

-- the parts after what was served
abbrev pub parts_left : List Session → List EndView → Option Served → Option Parts → Option Parts
parts_left xs links None known = known
parts_left xs links (Some v) known = option_map_or (λ (x : Session). parts_after_taken (session_of x).doing (taken_by links v) (bytes_at links (end_by v)) v.kind known) (server_in xs v) known
