-- Parcels of which none is a piece.
use Rattle.std.proofs.Common.{List, Option}
use Rattle.annex_base.proofs.Lists.{Each-weaker}
use Rattle.object_store.specs.Stores.{Contents}
use Rattle.node_model.specs.Jobs.{Work}
use Rattle.transfer_turns.specs.declared.parcels.Parcel.{Parcel}
use Rattle.transfer_turns.specs.declared.parcels.ParcelBody.{ParcelBody}
use Rattle.transfer_turns.specs.declared.parcels.ParcelBody.TheVariants as bodies
use Rattle.transfer_turns.specs.Parcels.{AreNoPieces, ArePiecesOf, IsNoPiece, IsPieceOf}

none_of : (known : Option Contents) (v : Work) (body : ParcelBody) → IsNoPiece body → IsPieceOf known v body
none_of known v (bodies.Piece bytes) none = absurd none
none_of known v body none = tt

pub pieces_none : (known : Option Contents) (v : Work) (ps : List Parcel) → AreNoPieces ps → ArePiecesOf known v ps
pieces_none known v ps none = Each-weaker (λ p. IsNoPiece p.body) (λ p. IsPieceOf known v p.body) (λ p plain. none_of known v p.body plain) ps none
