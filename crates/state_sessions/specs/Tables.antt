-- Sessions by connection, as data, and how frames change them (own).
use Rattle.std.specs.Prelude.{ℕ, Bool, false, ◌&&◌, ◌||◌, ◌==◌, if◌then◌else◌, List, Option, Some, None}
use Rattle.std.specs.List.{list_any}
use Rattle.std.specs.Map.{lookup}
use Rattle.run_data.specs.declared.entry.FrameText.{FrameText}
use Rattle.run_data.specs.declared.entry.FrameText.TheVariants.{Opening, Closing, Bytes, Line}
use Rattle.run_data.specs.declared.entry.FrameView.{FrameView}
use Rattle.node_model.specs.Ends.{sends_at, server_end}
use Rattle.node_model.specs.Sessions as sessions
use Rattle.node_model.specs.Sessions.{new_session, sent_one, took_bytes}
use Rattle.state_ends.specs.declared.side.Connection.{Connection}
use Rattle.state_ends.specs.Sides.{same_connection}
use Rattle.state_sessions.specs.Doings.{as_session}
use Rattle.state_sessions.specs.Hearing.{heard_so}
use Rattle.state_sessions.specs.declared.doing.Session.{Session}
use Rattle.state_sessions.specs.declared.heard.Heard.{Heard}

abbrev pub or_new : Option Session → sessions.Session
or_new None = new_session
or_new (Some x) = as_session x

-- the session of the connection with a peer in a slot
abbrev pub session_in : List (Connection × Session) → ℕ → ℕ → sessions.Session
session_in entries peer slot = or_new (lookup (same_connection (record { peer = peer; slot = slot })) entries)

-- after it took a frame with this body, whose message was heard so
abbrev pub taken_so : sessions.Session → FrameText → Option Heard → sessions.Session
taken_so was Opening heard = was
taken_so was Closing heard = new_session
taken_so was (Bytes n) heard = record was { doing = took_bytes n was.doing }
taken_so was (Line text) heard = heard_so heard was

-- it is the connection with this peer in this slot
abbrev pub is_at : Option Connection → ℕ → ℕ → Bool
is_at None peer slot = false
is_at (Some c) peer slot = (c.peer == peer) && (c.slot == slot)

-- the session after the frame is sent, after these; one that took a frame, or sent one before, does nothing by it
abbrev pub after_sent : Option Connection → List FrameView → FrameView → ℕ → ℕ → sessions.Session → sessions.Session
after_sent took before f peer slot was =
    if is_at took peer slot || list_any (sends_at (server_end peer slot)) before then was
    else (if sends_at (server_end peer slot) f then sent_one was f.body else was)

-- ---- a frame that is taken

-- the connection whose session takes the frame, if one does
abbrev pub taken_up : Bool → FrameView → Option Connection
taken_up up f = if up then Some (record { peer = f.peer; slot = f.slot }) else None

abbrev pub taken_in : Option FrameView → Option Connection
taken_in None = None
taken_in (Some f) = taken_up f.up f

abbrev pub took_at : Option FrameView → Option Heard → ℕ → ℕ → sessions.Session → sessions.Session
took_at None heard peer slot was = was
took_at (Some f) heard peer slot was = if is_at (taken_up f.up f) peer slot then taken_so was f.body heard else was
