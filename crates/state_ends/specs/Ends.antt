-- The ends of one repository's connections as data, and the ends of a state that they are (own).
use Rattle.std.specs.Prelude.{◌≡◌, ℕ, ◌≤◌}
use Rattle.indexmap.specs.IndexMap.{spare}
use Rattle.node_model.specs.Ends.{End, EndName}
use Rattle.node_model.specs.State.{State}
use Rattle.state_ends.specs.Bounds.{IsBelow}
use Rattle.state_ends.specs.Sides.{end_on}
use Rattle.state_ends.specs.declared.ends.Ends.{Ends}

-- how the end of this name stands
abbrev pub end_of : Ends → EndName → End
end_of x a = end_on x.clients.entries x.servers.entries a

-- each end of the state stands so
pub record AreEndsOf (x : Ends) (st : State) : Type 0 where
  pub ends : (a : EndName) → st.ends a ≡ end_of x a

-- the numbers of each end are below this one
abbrev pub AreBelow : ℕ → Ends → Type 0
AreBelow limit x = (a : EndName) → IsBelow limit (end_of x a)

-- there is room for so many more
pub record HasRoom (count : ℕ) (x : Ends) : Type 0 where
  pub clients : count ≤ spare x.clients
  pub servers : count ≤ spare x.servers

-- they stand as they stood, but for the room that they have
pub record StaySame (was now : Ends) : Type 0 where
  pub clients : now.clients.entries ≡ was.clients.entries
  pub servers : now.servers.entries ≡ was.servers.entries
