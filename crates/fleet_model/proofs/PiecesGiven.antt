-- The bytes of a piece that a node's session or its copy sends are those that the driver says.
use Rattle.std.proofs.Common.{◌≡◌, ℕ, Bool, true, false, List, [], Option, Some, None, length, refl, sym, ap, ◌∙◌}
use Rattle.std.specs.Prelude.{◌==◌, ◌&&◌, drop, find, if◌then◌else◌, take}
use Rattle.std.specs.Option.{option_map, unwrap_or}
use Rattle.std.proofs.lemmas.Bool.{and_parts, eqb-true}
use Rattle.annex_base.specs.Bools.{same_bool}
use Rattle.annex_base.proofs.Conditions.{same_bool_is}
use Rattle.object_store.specs.Stores.{Contents, bytes_of}
use Rattle.run_data.specs.declared.entry.FrameText.TheVariants as texts
use Rattle.run_data.specs.declared.entry.FrameView.{FrameView}
use Rattle.node_model.specs.Ends.{EndName, sends_at}
use Rattle.node_model.specs.Jobs.{Phase, PutsBytes, Work}
use Rattle.node_model.specs.Sessions.{Doing, Gives}
use Rattle.node_model.specs.State.{State}
use Rattle.node_sessions.specs.Pieces.{IsPieceOf}
use Rattle.joined_nodes.specs.Posting.{IsPieceAt, IsPieceOfWork}
use Rattle.driver_model.specs.Driver.{Driver, content_at, end_from, piece_given_by, piece_of, piece_put_by, piece_put_by_work}
use Rattle.driver_model.specs.Stores.{StoredBytes, bytes_in, is_stored}
use Rattle.fleet_model.specs.Stores.{content_in}

-- the contents are what the driver says of r
abbrev pub HasContentsOf : Driver → ℕ → Contents → Type 0
HasContentsOf d r c = (key : List ℕ) → c key ≡ content_in d r key

content_bytes : (d : Driver) (r : ℕ) (c : Contents) (key : List ℕ) → HasContentsOf d r c → bytes_of c key ≡ content_at d r key
content_bytes d r c key has = ap (λ (o : Option (List ℕ)). unwrap_or o []) (has key) ∙ go (find (is_stored r key) d.contents)
  where
    go : (o : Option StoredBytes) → unwrap_or (option_map (λ (x : StoredBytes). x.bytes) o) [] ≡ bytes_in o
    go None = refl
    go (Some x) = refl

given_is : (d : Driver) (r : ℕ) (c : Contents) (doing : Doing) (bytes : List ℕ) → HasContentsOf d r c → IsPieceOf c doing bytes → bytes ≡ piece_given_by d r (length bytes) doing
given_is d r c (Gives key at left good) bytes has piece = piece ∙ ap (λ (xs : List ℕ). take (length bytes) (drop at xs)) (content_bytes d r c key has)
given_is d r c doing bytes has piece = absurd piece

put_at : (d : Driver) (r : ℕ) (c : Contents) (key : List ℕ) (phase : Phase) (bytes : List ℕ) → HasContentsOf d r c → IsPieceAt c key phase bytes → bytes ≡ piece_put_by d r (length bytes) key phase
put_at d r c key (PutsBytes peer start at left) bytes has piece = piece ∙ ap (λ (xs : List ℕ). take (length bytes) (drop at xs)) (content_bytes d r c key has)
put_at d r c key phase bytes has piece = absurd piece

put_is : (d : Driver) (r : ℕ) (c : Contents) (o : Option Work) (bytes : List ℕ) → HasContentsOf d r c → IsPieceOfWork c o bytes → bytes ≡ piece_put_by_work d r (length bytes) o
put_is d r c None bytes has piece = absurd piece
put_is d r c (Some w) bytes has piece = put_at d r c w.what.key w.phase bytes has piece

-- ---- the end that a frame leaves

leaves : (a : EndName) (f : FrameView) → sends_at a f ≡ true → (f.up ≡ a.client) × (end_from f ≡ a)
leaves a f sends =
    let parts = and_parts ((f.peer == a.peer) && (f.slot == a.slot)) (same_bool f.up a.client) sends in
    let named = and_parts (f.peer == a.peer) (f.slot == a.slot) parts.0 in
    let peer : f.peer ≡ a.peer = eqb-true f.peer a.peer named.0 in
    let slot : f.slot ≡ a.slot = eqb-true f.slot a.slot named.1 in
    let way : f.up ≡ a.client = same_bool_is f.up a.client parts.1 in
    (way, λ i. record { peer = peer i; slot = slot i; client = way i })

-- a piece that a server sends at this end has the bytes that its session is giving
pub piece_is_given : (d : Driver) (st : State) (r : ℕ) (c : Contents) (a : EndName) (f : FrameView) (bytes : List ℕ) → HasContentsOf d r c → sends_at a f ≡ true → a.client ≡ false
    → f.body ≡ texts.Bytes (length bytes) → IsPieceOf c (st.sessions a).doing bytes → bytes ≡ piece_of d st r f f.body
piece_is_given d st r c a f bytes has sends server body piece =
    given_is d r c (st.sessions a).doing bytes has piece
    ∙ (ap (λ (x : EndName). piece_given_by d r (length bytes) (st.sessions x).doing) (sym left.1)
    ∙ (sym (by_way f.up (left.0 ∙ server)) ∙ ap (piece_of d st r f) (sym body)))
  where
    left : (f.up ≡ a.client) × (end_from f ≡ a)
    left = leaves a f sends

    by_way : (up : Bool) → up ≡ false
        → (if up then piece_put_by_work d r (length bytes) (find (λ w. w.slot == f.slot) st.works) else piece_given_by d r (length bytes) (st.sessions (end_from f)).doing) ≡ piece_given_by d r (length bytes) (st.sessions (end_from f)).doing
    by_way true down = absurd (cc)
    by_way false down = refl

-- one that a client sends at this end, those that the copy in its slot is sending
pub piece_is_put : (d : Driver) (st : State) (r : ℕ) (c : Contents) (a : EndName) (f : FrameView) (bytes : List ℕ) → HasContentsOf d r c → sends_at a f ≡ true → a.client ≡ true
    → f.body ≡ texts.Bytes (length bytes) → IsPieceOfWork c (find (λ w. w.slot == a.slot) st.works) bytes → bytes ≡ piece_of d st r f f.body
piece_is_put d st r c a f bytes has sends client body piece =
    put_is d r c (find (λ w. w.slot == a.slot) st.works) bytes has piece
    ∙ (ap (λ (x : EndName). piece_put_by_work d r (length bytes) (find (λ w. w.slot == x.slot) st.works)) (sym left.1)
    ∙ (sym (by_way f.up (left.0 ∙ client)) ∙ ap (piece_of d st r f) (sym body)))
  where
    left : (f.up ≡ a.client) × (end_from f ≡ a)
    left = leaves a f sends

    by_way : (up : Bool) → up ≡ true
        → (if up then piece_put_by_work d r (length bytes) (find (λ w. w.slot == f.slot) st.works) else piece_given_by d r (length bytes) (st.sessions (end_from f)).doing) ≡ piece_put_by_work d r (length bytes) (find (λ w. w.slot == f.slot) st.works)
    by_way true up = refl
    by_way false up = absurd (cc)
