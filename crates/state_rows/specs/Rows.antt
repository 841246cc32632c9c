-- The rows of one repository as data, and the rows of a state that they are (own).
use Rattle.std.specs.Prelude.{◌≡◌, ℕ, ◌<◌, List, Option, is_some, reverse, vec_len, vec_capacity}
use Rattle.indexmap.specs.IndexMap.{spare}
use Rattle.run_data.specs.declared.entry.EntryKind.{EntryKind}
use Rattle.run_data.specs.declared.row.Hold.{Hold}
use Rattle.node_model.specs.State.{State}
use Rattle.state_rows.specs.Changes.{barred_key, gained_key, new_hold, number_at}
use Rattle.state_rows.specs.declared.rows.Rows.{Rows}
use Rattle.state_rows.specs.declared.rows.RowChange.{RowChange}

-- the size of the key's content, if it is there
abbrev pub size_of : Rows → List ℕ → Option ℕ
size_of rows key = number_at rows.sizes.entries key

-- the job whose bar stands on the key
abbrev pub bar_of : Rows → List ℕ → Option ℕ
bar_of rows key = number_at rows.bars.entries key

-- the holds, the newest first
abbrev pub holds_of : Rows → List Hold
holds_of rows = reverse rows.holds.items

-- of each key the state has the content, its size and the bar that these rows have, and it has their holds
pub record AreRowsOf (rows : Rows) (st : State) : Type 0 where
  pub present : (key : List ℕ) → st.present key ≡ is_some (size_of rows key)
  pub content : (key : List ℕ) → st.content key ≡ size_of rows key
  pub bar : (key : List ℕ) → st.bar key ≡ bar_of rows key
  pub holds : st.holds ≡ holds_of rows

-- they are what they were, but for the room that they have
pub record StaySame (was now : Rows) : Type 0 where
  pub sizes : now.sizes.entries ≡ was.sizes.entries
  pub bars : now.bars.entries ≡ was.bars.entries
  pub holds : now.holds.items ≡ was.holds.items

-- there is room for a content, a bar and a hold
pub record HasRoom (rows : Rows) : Type 0 where
  pub sizes : 0 < spare rows.sizes
  pub bars : 0 < spare rows.bars
  pub holds : vec_len rows.holds < vec_capacity rows.holds

-- it is what an entry of this kind adds
pub record IsChangeOf (kind : EntryKind) (change : RowChange) : Type 0 where
  pub gained : change.gained ≡ gained_key kind
  pub barred : change.barred ≡ barred_key kind
  pub hold : change.hold ≡ new_hold kind
