-- What the session that takes a frame of an entry hears (own).
use Rattle.std.specs.Prelude.{◌≡◌, ℕ, true, List, Option, Some}
use Rattle.run_data.specs.declared.entry.Entry.{Entry}
use Rattle.run_data.specs.declared.entry.FrameView.{FrameView}
use Rattle.node_model.specs.Ends.{sent_at, server_end}
use Rattle.node_model.specs.Sessions as sessions
use Rattle.node_model.specs.Sessions.{line_in, message_said, took_message}
use Rattle.state_sessions.specs.Hearing.{Agrees, heard_so}
use Rattle.state_sessions.specs.declared.heard.Heard.{Heard}

-- where the entry took a frame at a server's end, its message makes this of the session, by contents of these sizes
abbrev pub IsHeardIn : (List ℕ → Option ℕ) → Entry → Option Heard → Type 0
IsHeardIn content e heard =
    (f : FrameView) → e.taken ≡ Some f → f.up ≡ true → (size : List ℕ → Option ℕ) (was : sessions.Session) → Agrees size content
    → heard_so heard was ≡ took_message size e.kind was (message_said (sent_at (server_end f.peer f.slot) e.sent)) (line_in f.body)
