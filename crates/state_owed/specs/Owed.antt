-- The lines that one repository owes its branch as data, and the owed lines of a state that they are (own).
use Rattle.std.specs.Prelude.{◌≡◌, ℕ, ◌<◌, List}
use Rattle.std.specs.VecDeque.{deque_capacity, deque_len}
use Rattle.annex_base.specs.Lists.{Each}
use Rattle.node_model.specs.OwedLines.{OwedLine}
use Rattle.node_model.specs.State.{State}
use Rattle.state_owed.specs.Lines.{IsWithin}
use Rattle.state_owed.specs.declared.owed.Owed.{Owed}

-- the lines that are owed, the first to be written first
abbrev pub lines_of : Owed → List OwedLine
lines_of x = x.lines.items

-- these are the owed lines of the state
pub record AreOwedOf (x : Owed) (st : State) : Type 0 where
  pub owed : st.owed ≡ lines_of x

-- each is of the copy of one of so many repositories
abbrev pub AreWithin : ℕ → Owed → Type 0
AreWithin count x = Each (IsWithin count) (lines_of x)

-- there is room for a line
abbrev pub HasRoom : Owed → Type 0
HasRoom x = deque_len x.lines < deque_capacity x.lines

-- they are what they were, but for the room that they have
abbrev pub StaySame : Owed → Owed → Type 0
StaySame was now = lines_of now ≡ lines_of was
