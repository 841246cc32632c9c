-- The pieces that are said.
use Rattle.std.proofs.Common.{◌≡◌, true, List, Option, Some, None, refl, sym, ap, subst, ◌∙◌, true≢false}
use Rattle.std.specs.Option.{ForSome}
use Rattle.object_store.specs.Stores.{Contents}
use Rattle.node_model.specs.Sessions.{Doing}
use Rattle.node_model.specs.Sessions as sessions
use Rattle.node_ends.specs.declared.sending.Sending.{Sending}
use Rattle.node_ends.specs.declared.sending.Sending.TheVariants as sendings
use Rattle.p2p_server.specs.declared.More.{More}
use Rattle.p2p_server.specs.declared.More.TheVariants as more
use Rattle.p2p_server.specs.declared.session.Session.{Session}
use Rattle.p2p_server.specs.Giving.{is_giving, IsPieceOf as IsMorePieceOf}
use Rattle.p2p_server.specs.Talking.{session_of}
use Rattle.node_sessions.specs.declared.served.Served.{Served}
use Rattle.node_sessions.specs.Pieces.{IsNoPiece, PieceBy, SaysGiven, SaysPiece}
use Rattle.node_sessions.specs.Serving.{server_in}

-- what is no piece is of any content
pub no_piece : (c : Contents) (doing : Doing) (said : Option Sending) → ForSome said IsNoPiece → SaysPiece c doing said
no_piece c doing None none = tt
no_piece c doing (Some sendings.Open) none = tt
no_piece c doing (Some sendings.Close) none = tt
no_piece c doing (Some (sendings.Line line listed)) none = tt
no_piece c doing (Some (sendings.Bytes bytes)) none = absurd (none (sendings.Bytes bytes) refl)

-- a piece that was given is of the content that the session is sending
pub given_piece : (c : Contents) (doing : Doing) (m : More) (said : Option Sending) → is_giving doing ≡ true → IsMorePieceOf c doing m → SaysGiven m said → SaysPiece c doing said
given_piece c (sessions.Gives key at left good) (more.Piece bytes) said gives piece is = subst (SaysPiece c (sessions.Gives key at left good)) (sym is) piece
given_piece c sessions.Waits (more.Piece bytes) said gives piece is = absurd (true≢false (sym gives))
given_piece c (sessions.Guards hold key) (more.Piece bytes) said gives piece is = absurd (true≢false (sym gives))
given_piece c sessions.Gave (more.Piece bytes) said gives piece is = absurd (true≢false (sym gives))
given_piece c (sessions.Wants key size) (more.Piece bytes) said gives piece is = absurd (true≢false (sym gives))
given_piece c (sessions.Takes key size left) (more.Piece bytes) said gives piece is = absurd (true≢false (sym gives))
given_piece c (sessions.Took key size) (more.Piece bytes) said gives piece is = absurd (true≢false (sym gives))
given_piece c doing (more.Last m) said gives piece is = no_piece c doing said is
given_piece c doing more.Nothing said gives piece is = no_piece c doing said is
given_piece c doing more.Gone said gives piece is = no_piece c doing said is
given_piece c doing (more.Fault call) said gives piece is = no_piece c doing said is

piece_one : (known : Option Contents) (xs : List Session) (was : Session) (v w : Served) (c : Contents) (x : Session) → server_in xs v ≡ Some was → ForSome known (λ c. SaysPiece c (session_of was).doing v.reply) → known ≡ Some c
    → Some v ≡ Some w → server_in xs w ≡ Some x → SaysPiece c (session_of x).doing w.reply
piece_one known xs was v w c x is piece told e found =
    let same : v ≡ w = cc in
    let there : server_in xs v ≡ Some x = ap (server_in xs) same ∙ found in
    let one : was ≡ x = cc in
    subst (λ (u : Served). SaysPiece c (session_of x).doing u.reply) same (subst (λ (y : Session). SaysPiece c (session_of y).doing v.reply) one (piece c told))

-- and it is of the one that serves
pub piece_by : (known : Option Contents) (xs : List Session) (was : Session) (v : Served) → server_in xs v ≡ Some was → ForSome known (λ c. SaysPiece c (session_of was).doing v.reply) → PieceBy known xs (Some v)
piece_by known xs was v is piece = λ c told w e x found. piece_one known xs was v w c x is piece told e found
