-- What an entry's job finds, says and hears (own).
use Rattle.std.specs.Prelude.{◌≡◌, ℕ, List, is_some}
use Rattle.run_data.specs.declared.entry.Entry.{Entry}
use Rattle.node_model.specs.Ends.{EndName, end_after}
use Rattle.node_model.specs.Jobs.{RowsAndEnds, taken_message}
use Rattle.node_model.specs.Sessions.{message_said}
use Rattle.state_ends.specs.Ends.{end_of}
use Rattle.state_ends.specs.declared.ends.Ends.{Ends}
use Rattle.state_rows.specs.Rows.{bar_of, size_of}
use Rattle.state_rows.specs.declared.rows.Rows.{Rows}
use Rattle.state_jobs.specs.declared.talks.Talk.{Talk}

-- these are the messages of the entry
pub record IsTalkOf (e : Entry) (t : Talk) : Type 0 where
  pub heard : t.heard ≡ taken_message e.taken
  pub told : t.told ≡ message_said e.sent

-- the contents and bars are those of the rows
pub record AreRows (x : RowsAndEnds) (rows : Rows) : Type 0 where
  pub present : (key : List ℕ) → x.present key ≡ is_some (size_of rows key)
  pub bar : (key : List ℕ) → x.bar key ≡ bar_of rows key

-- after the entry the ends are these
abbrev pub AreEndedBy : RowsAndEnds → Entry → Ends → Type 0
AreEndedBy x e ends = (a : EndName) → end_of ends a ≡ end_after a (x.ends a) e
