-- What a session is, and what is said of it by its state (own).
use Rattle.std.specs.Prelude.{ℕ, Bool, Option}
use Rattle.run_data.specs.declared.entry.EntryKind.{EntryKind}
use Rattle.object_store.specs.Stores.{Parts}
use Rattle.node_model.specs.Sessions as sessions
use Rattle.content_lock.specs.Rows.{Rows}
use Rattle.content_lock.specs.Tokens.{ShareView}
use Rattle.p2p_server.specs.declared.session.Session.{Session}
use Rattle.session_state.specs.declared.incoming.Incoming.{Incoming}
use Rattle.session_state.specs.declared.place.Place.{Place}
use Rattle.session_state.specs.Talking as states
pub use Rattle.session_state.specs.Talking.{doing_of, share_in, label_in, guarded_in, heard_line, Brings, SaysSo, FillsSo, HasFill, AreAfterStep, Tells, SeesSize, IsSumOf, IsTakenOf, IsFed, SeesTaken, SeesPart, parts_after_valid, parts_after}

-- the session of the definitions that it is
abbrev pub session_of : Session → sessions.Session
session_of s = states.session_of s.state

abbrev pub place_of : Session → Place
place_of s = s.state.place

-- the share that it guards
abbrev pub share_of : Session → Option ShareView
share_of s = states.share_in s.state.doing

abbrev pub HasFillOf : Rows → Session → Type 0
HasFillOf rows s = states.HasFill rows s.state.doing

abbrev pub IsFedOf : Parts → Session → Type 0
IsFedOf p s = states.IsFed p s.state.doing

abbrev pub SeesPartOf : Option Parts → Session → Incoming → ℕ → Bool → Type 0
SeesPartOf known s i part right = states.SeesPart known s.state.doing i part right

abbrev pub parts_after_of : Session → Incoming → EntryKind → Option Parts → Option Parts
parts_after_of s i kind known = states.parts_after s.state.doing i kind known

abbrev pub IsJudgedOf : Session → EntryKind → Type 0
IsJudgedOf s kind = states.IsJudgedIn kind s.state.doing
