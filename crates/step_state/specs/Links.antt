-- The connections of a repository as data, and those of a state that they are (own).
use Rattle.std.specs.Prelude.{ℕ}
use Rattle.node_model.specs.State.{State}
use Rattle.state_ends.specs.Ends as of_ends
use Rattle.state_ends.specs.Ends.{AreEndsOf}
use Rattle.state_sessions.specs.Sessions as of_sessions
use Rattle.state_sessions.specs.Sessions.{AreSessionsOf}
use Rattle.step_state.specs.declared.links.Links.{Links}

-- the ends are those of the state, and so are the sessions
pub record AreLinksOf (x : Links) (st : State) : Type 0 where
  pub ends : AreEndsOf x.ends st
  pub sessions : AreSessionsOf x.sessions st

-- the numbers of the ends are below this one, and the places to which sessions have come in contents
pub record AreBelow (limit : ℕ) (x : Links) : Type 0 where
  pub ends : of_ends.AreBelow limit x.ends
  pub sessions : of_sessions.AreBelow limit x.sessions

-- there is room for so many more
pub record HasRoom (count : ℕ) (x : Links) : Type 0 where
  pub ends : of_ends.HasRoom count x.ends
  pub sessions : of_sessions.HasRoom count x.sessions

-- they are what they were, but for the room that they have
pub record StaySame (was now : Links) : Type 0 where
  pub ends : of_ends.StaySame was.ends now.ends
  pub sessions : of_sessions.StaySame was.sessions now.sessions
