-- The pieces of a content that a session says (own).
use Rattle.std.specs.Prelude.{◌≡◌, ℕ, List, length, take, drop, Option, Some}
use Rattle.std.specs.Option.{ForSome}
use Rattle.object_store.specs.Stores.{Contents, bytes_of}
use Rattle.node_model.specs.Sessions.{Doing, Gives}
use Rattle.node_ends.specs.declared.sending.Sending.{Sending}
use Rattle.node_ends.specs.declared.sending.Sending.TheVariants as sendings
use Rattle.p2p_server.specs.declared.More.{More}
use Rattle.p2p_server.specs.declared.More.TheVariants as more
use Rattle.p2p_server.specs.declared.session.Session.{Session}
use Rattle.p2p_server.specs.Talking.{session_of}
use Rattle.node_sessions.specs.declared.served.Served.{Served}
use Rattle.node_sessions.specs.Serving.{server_in}

-- these are bytes of the content that the session is sending, from the place on to which it has come
abbrev pub IsPieceOf : Contents → Doing → List ℕ → Type 0
IsPieceOf contents (Gives key at left good) bytes = bytes ≡ take (length bytes) (drop at (bytes_of contents key))
IsPieceOf contents doing bytes = ⊥

-- where a piece is said, it is of that content
abbrev pub SaysPiece : Contents → Doing → Option Sending → Type 0
SaysPiece contents doing (Some (sendings.Bytes bytes)) = IsPieceOf contents doing bytes
SaysPiece contents doing said = Unit {0}

-- where a piece is served, it is of the content that its session is sending
abbrev pub PieceBy : Option Contents → List Session → Option Served → Type 0
PieceBy known xs o = ForSome known (λ c. ForSome o (λ v. ForSome (server_in xs v) (λ x. SaysPiece c (session_of x).doing v.reply)))

-- ---- for private contracts

-- this is a line, an Open or a Close
abbrev pub IsNoPiece : Sending → Type 0
IsNoPiece (sendings.Bytes bytes) = ⊥
IsNoPiece said = Unit {0}

-- a piece that is given is said, and where none is given, none is said
abbrev pub SaysGiven : More → Option Sending → Type 0
SaysGiven (more.Piece bytes) said = said ≡ Some (sendings.Bytes bytes.items)
SaysGiven m said = ForSome said IsNoPiece
