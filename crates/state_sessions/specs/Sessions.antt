-- The sessions of one repository as data, and the sessions of a state that they are (own).
use Rattle.std.specs.Prelude.{◌≡◌, ℕ, ◌<◌, ◌≤◌}
use Rattle.indexmap.specs.IndexMap.{spare}
use Rattle.node_model.specs.Ends.{server_end}
use Rattle.node_model.specs.Sessions as sessions
use Rattle.node_model.specs.State.{State}
use Rattle.state_sessions.specs.Doings.{number_in}
use Rattle.state_sessions.specs.Tables.{session_in}
use Rattle.state_sessions.specs.declared.sessions.Sessions.{Sessions}

-- the session of the connection with a peer in a slot
abbrev pub session_of : Sessions → ℕ → ℕ → sessions.Session
session_of s peer slot = session_in s.table.entries peer slot

-- at each server's end the state has this session. What it has at clients' ends no step reads
pub record AreSessionsOf (x : Sessions) (st : State) : Type 0 where
  pub sessions : (peer slot : ℕ) → st.sessions (server_end peer slot) ≡ session_of x peer slot

-- no session has come to this place of a content
abbrev pub AreBelow : ℕ → Sessions → Type 0
AreBelow limit x = (peer slot : ℕ) → number_in (session_of x peer slot).doing < limit

-- there is room for so many more
abbrev pub HasRoom : ℕ → Sessions → Type 0
HasRoom count x = count ≤ spare x.table

-- they are what they were, but for the room that they have
abbrev pub StaySame : Sessions → Sessions → Type 0
StaySame was now = now.table.entries ≡ was.table.entries
