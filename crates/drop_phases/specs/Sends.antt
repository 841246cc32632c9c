-- What a step sends, as contracts see it (own).
use Rattle.std.specs.Prelude.{◌≡◌, ◌≤◌, ◌*◌, ℕ, List, []}
use Rattle.run_data.specs.declared.entry.FrameView.{FrameView}
use Rattle.drop_phases.specs.declared.turn.Parcel.{Parcel}

-- what is sent, in order
pub record SendsView : Type 0 where
  pub items : List Parcel

-- an empty list with room for two frames of each parcel: a message, and the close behind it
pub record HasRoom (listed : List FrameView) (parcels room : ℕ) : Type 0 where
  pub empty : listed ≡ []
  pub enough : 2 * parcels ≤ room
