-- What a step sends, and its entry (own).
use Rattle.std.specs.Prelude.{◌≡◌, ◌<◌, ◌≤◌, ℕ, true, List, [], ◌∷◌, drop, flat_map, length, take, Option}
use Rattle.std.specs.Option.{ForSome}
use Rattle.annex_base.specs.Lists.{Each}
use Rattle.run_data.specs.declared.entry.FrameText.{FrameText}
use Rattle.run_data.specs.declared.entry.FrameText.TheVariants.{Opening, Closing, Bytes, Line}
use Rattle.run_data.specs.declared.entry.FrameView.{FrameView}
use Rattle.p2p_wire.specs.Messages.{text_of}
use Rattle.object_store.specs.Stores.{Contents, bytes_of}
use Rattle.node_model.specs.Ends.{EndName, End, frames}
use Rattle.node_model.specs.Jobs.{Phase, PutsBytes, Work}
use Rattle.transfer_turns.specs.declared.parcels.Parcel.{Parcel}
use Rattle.transfer_turns.specs.declared.parcels.ParcelBody.{ParcelBody}
use Rattle.transfer_turns.specs.declared.parcels.ParcelBody.TheVariants as bodies

-- what is sent, in order
pub record SendsView : Type 0 where
  pub items : List Parcel

-- an empty list with room for a frame of each parcel
pub record HasRoom (listed : List FrameView) (parcels room : ℕ) : Type 0 where
  pub empty : listed ≡ []
  pub enough : parcels ≤ room

abbrev pub text_in : ParcelBody → FrameText
text_in bodies.Open = Opening
text_in bodies.Close = Closing
text_in (bodies.Message m) = Line (text_of m)
text_in (bodies.Piece bytes) = Bytes (length bytes.items)

-- the client's end of the connection with a peer, in a slot
abbrev pub end_in : ℕ → ℕ → EndName
end_in slot peer = record { peer = peer; slot = slot; client = true }

-- the frames of parcels, at the ends of this slot
abbrev pub frames_of : (EndName → End) → ℕ → List Parcel → List FrameView
frames_of ends slot ps = flat_map (λ p. frames (end_in slot p.peer) (ends (end_in slot p.peer)) (text_in p.body ∷ [])) ps

-- ---- the pieces of contents

-- no piece of a content
abbrev pub IsNoPiece : ParcelBody → Type 0
IsNoPiece (bodies.Piece bytes) = ⊥
IsNoPiece body = Unit {0}

abbrev pub AreNoPieces : List Parcel → Type 0
AreNoPieces ps = Each (λ p. IsNoPiece p.body) ps

-- these are bytes, at most 32,768, of the content of the key that a copy which stands so is sending, from the place on to which it
-- has come
abbrev pub IsPieceAt : Option Contents → List ℕ → Phase → List ℕ → Type 0
IsPieceAt known key (PutsBytes peer start at left) bytes = ForSome known (λ c. bytes ≡ take (length bytes) (drop at (bytes_of c key))) × (0 < length bytes) × (length bytes ≤ 32768)
IsPieceAt known key phase bytes = ⊥

-- where this is a piece, it is of the content that this work is sending
abbrev pub IsPieceOf : Option Contents → Work → ParcelBody → Type 0
IsPieceOf known v (bodies.Piece bytes) = IsPieceAt known v.what.key v.phase bytes.items
IsPieceOf known v body = Unit {0}

abbrev pub ArePiecesOf : Option Contents → Work → List Parcel → Type 0
ArePiecesOf known v ps = Each (λ p. IsPieceOf known v p.body) ps
