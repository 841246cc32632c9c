-- What follows from what one among the sessions served.
use Rattle.std.proofs.Common.{◌≡◌, ℕ, Bool, true, List, Option, Some, sym, ap, subst, ◌∙◌, map}
use Rattle.std.specs.Prelude.{is_some, slice_get}
use Rattle.std.specs.Option.{ForSome, option_map_or}
use Rattle.annex_base.specs.Lists.{Member}
use Rattle.object_store.specs.Stores.{Contents, Parts}
use Rattle.object_store.specs.declared.keeper.HoldRecord.{HoldRecord}
use Rattle.content_lock.specs.Rows.{Rows, bar_at}
use Rattle.link_ring.specs.Ends.{EndView}
use Rattle.node_model.specs.Ends.{EndName, server_end}
use Rattle.node_model.specs.Look.{Look}
use Rattle.node_model.specs.SetUp.{SetUp}
use Rattle.node_model.specs.State.{State}
use Rattle.node_ends.specs.Ends.{link_at}
use Rattle.p2p_server.specs.declared.Place.{Place}
use Rattle.p2p_server.specs.declared.session.Session.{Session}
use Rattle.p2p_server.specs.Bounds.{IsKind}
use Rattle.p2p_server.specs.Talking.{IsJudgedOf, place_of, session_of}
use Rattle.node_sessions.specs.declared.served.Served.{Served}
use Rattle.node_sessions.specs.Moments.{ServesAmong}
use Rattle.node_sessions.specs.Pieces.{PieceBy}
use Rattle.node_sessions.specs.Serving.{JudgedBy, Sees, StepsSo, server_in, end_by, taken_by}
use Rattle.node_sessions.specs.Sessions.{AreFilled, AreAllFed, HaveEnds, LeavesPartsOf, OwnAll, end_of, connection_of}
use Rattle.node_sessions.specs.Stored.{bytes_at, contents_left, parts_after_taken, parts_left}
use Rattle.node_sessions.proofs.Listing.{Every-set, map_set}
use Rattle.node_sessions.proofs.Pieces.{piece_by}
use Rattle.node_sessions.proofs.Standing.{FedStays, StepsAt, fed_set, filled_set, own_set, parts_stand, server_is}
use Rattle.node_sessions.proofs.Stepping.{some_steps}
use Rattle.node_sessions.proofs.Turning.{FramesWait, IdleBelow, at_member}

pub among_steps : FramesWait → (links : List EndView) (clock number at : ℕ) (xs xs' : List Session) (rows rows' : Rows) (contents contents' : Option Contents) (parts parts' : Option Parts) (records records' : Option (List HoldRecord)) (faults faults' : ℕ) (v : Served)
    → ServesAmong links clock number at xs xs' rows rows' contents contents' parts parts' records records' faults faults' v → HaveEnds links xs → IdleBelow links xs at → OwnAll rows xs
    → (s : SetUp) (st : State) (k : Look) → Sees links rows contents parts clock number xs (Some v) s st k → StepsSo links (Some v) xs' rows' contents' s st k
among_steps law links clock number at xs xs' rows rows' contents contents' parts parts' records records' faults faults' v a there before own s st k sees =
    subst (λ (l : List Session). StepsSo links (Some v) l rows' contents' s st k) (sym a.left)
    (some_steps law links clock number rows rows' contents contents' parts parts' records records' faults faults' xs at a.was a.now v s st k there a.here before own.apart a.serves sees)

pub among_own : (links : List EndView) (clock number at : ℕ) (xs xs' : List Session) (rows rows' : Rows) (contents contents' : Option Contents) (parts parts' : Option Parts) (records records' : Option (List HoldRecord)) (faults faults' : ℕ) (v : Served)
    → ServesAmong links clock number at xs xs' rows rows' contents contents' parts parts' records records' faults faults' v → OwnAll rows xs → OwnAll rows' xs'
among_own links clock number at xs xs' rows rows' contents contents' parts parts' records records' faults faults' v a own =
    let step : StepsAt a.was a.now rows rows' = record { place = a.serves.place; owns = a.serves.owns; fills = a.serves.fills; others = a.serves.others; filled = a.serves.filled } in
    subst (OwnAll rows') (sym a.left) (own_set xs at a.was a.now rows rows' a.here own step)

pub among_places : (links : List EndView) (clock number at : ℕ) (xs xs' : List Session) (rows rows' : Rows) (contents contents' : Option Contents) (parts parts' : Option Parts) (records records' : Option (List HoldRecord)) (faults faults' : ℕ) (v : Served)
    → ServesAmong links clock number at xs xs' rows rows' contents contents' parts parts' records records' faults faults' v → map place_of xs' ≡ map place_of xs
among_places links clock number at xs xs' rows rows' contents contents' parts parts' records records' faults faults' v a =
    ap (λ (l : List Session). map place_of l) a.left ∙ map_set place_of xs at a.was a.now a.here a.serves.place

pub among_there : (links : List EndView) (clock number at : ℕ) (xs xs' : List Session) (rows rows' : Rows) (contents contents' : Option Contents) (parts parts' : Option Parts) (records records' : Option (List HoldRecord)) (faults faults' : ℕ) (v : Served)
    → ServesAmong links clock number at xs xs' rows rows' contents contents' parts parts' records records' faults faults' v → (ends : List EndView) → HaveEnds ends xs → HaveEnds ends xs'
among_there links clock number at xs xs' rows rows' contents contents' parts parts' records records' faults faults' v a ends there =
    subst (HaveEnds ends) (sym a.left)
    (Every-set (λ (x : Session). is_some (link_at ends (end_of x)) ≡ true) xs at a.now
    (subst (λ (p : Place). is_some (link_at ends (server_end p.peer p.slot)) ≡ true) (sym a.serves.place) (there at a.was a.here)) (λ k y ne aty. there k y aty))

pub among_filled : (links : List EndView) (clock number at : ℕ) (xs xs' : List Session) (rows rows' : Rows) (contents contents' : Option Contents) (parts parts' : Option Parts) (records records' : Option (List HoldRecord)) (faults faults' : ℕ) (v : Served)
    → ServesAmong links clock number at xs xs' rows rows' contents contents' parts parts' records records' faults faults' v → OwnAll rows xs → (others : List ℕ → Bool) → AreFilled rows xs others → AreFilled rows' xs' others
among_filled links clock number at xs xs' rows rows' contents contents' parts parts' records records' faults faults' v a own others f =
    subst (λ (l : List Session). AreFilled rows' l others) (sym a.left) (filled_set xs at a.was a.now rows rows' others a.here own.apart a.serves.filled f)

pub among_parts : (links : List EndView) (clock number at : ℕ) (xs xs' : List Session) (rows rows' : Rows) (contents contents' : Option Contents) (parts parts' : Option Parts) (records records' : Option (List HoldRecord)) (faults faults' : ℕ) (v : Served)
    → ServesAmong links clock number at xs xs' rows rows' contents contents' parts parts' records records' faults faults' v → LeavesPartsOf xs parts parts'
among_parts links clock number at xs xs' rows rows' contents contents' parts parts' records records' faults faults' v a = parts_stand xs at a.was parts parts' a.here a.serves.parts

pub among_contents : (links : List EndView) (clock number at : ℕ) (xs xs' : List Session) (rows rows' : Rows) (contents contents' : Option Contents) (parts parts' : Option Parts) (records records' : Option (List HoldRecord)) (faults faults' : ℕ) (v : Served)
    → ServesAmong links clock number at xs xs' rows rows' contents contents' parts parts' records records' faults faults' v → contents' ≡ contents_left contents parts (Some v)
among_contents links clock number at xs xs' rows rows' contents contents' parts parts' records records' faults faults' v a = a.serves.contents

pub among_left_parts : (links : List EndView) (clock number at : ℕ) (xs xs' : List Session) (rows rows' : Rows) (contents contents' : Option Contents) (parts parts' : Option Parts) (records records' : Option (List HoldRecord)) (faults faults' : ℕ) (v : Served)
    → ServesAmong links clock number at xs xs' rows rows' contents contents' parts parts' records records' faults faults' v → OwnAll rows xs → parts' ≡ parts_left xs links (Some v) parts
among_left_parts links clock number at xs xs' rows rows' contents contents' parts parts' records records' faults faults' v a own =
    a.serves.left_parts
    ∙ sym (ap (λ (o : Option Session). option_map_or (λ (x : Session). parts_after_taken (session_of x).doing (taken_by links v) (bytes_at links (end_by v)) v.kind parts) o parts) (server_is xs at a.was v a.here own.apart a.serves.at))

pub among_fed : FedStays → (links : List EndView) (clock number at : ℕ) (xs xs' : List Session) (rows rows' : Rows) (contents contents' : Option Contents) (parts parts' : Option Parts) (records records' : Option (List HoldRecord)) (faults faults' : ℕ) (v : Served)
    → ServesAmong links clock number at xs xs' rows rows' contents contents' parts parts' records records' faults faults' v → OwnAll rows xs → ForSome parts (λ p. AreAllFed p xs → ForSome parts' (λ p'. AreAllFed p' xs'))
among_fed law links clock number at xs xs' rows rows' contents contents' parts parts' records records' faults faults' v a own =
    subst (λ (l : List Session). ForSome parts (λ p. AreAllFed p xs → ForSome parts' (λ p'. AreAllFed p' l))) (sym a.left)
    (fed_set law xs at a.was a.now parts parts' a.here own.apart a.serves.parts a.serves.fed)

pub among_bars : (links : List EndView) (clock number at : ℕ) (xs xs' : List Session) (rows rows' : Rows) (contents contents' : Option Contents) (parts parts' : Option Parts) (records records' : Option (List HoldRecord)) (faults faults' : ℕ) (v : Served)
    → ServesAmong links clock number at xs xs' rows rows' contents contents' parts parts' records records' faults faults' v → (key : List ℕ) → bar_at rows' key ≡ bar_at rows key
among_bars links clock number at xs xs' rows rows' contents contents' parts parts' records records' faults faults' v a = a.serves.bars

kind_one : (number : ℕ) (v w : Served) → IsKind number v.kind → Some v ≡ Some w → IsKind number w.kind
kind_one number v w is e =
    let same : v ≡ w = cc in subst (λ (x : Served). IsKind number x.kind) same is

pub among_kind : (links : List EndView) (clock number at : ℕ) (xs xs' : List Session) (rows rows' : Rows) (contents contents' : Option Contents) (parts parts' : Option Parts) (records records' : Option (List HoldRecord)) (faults faults' : ℕ) (v : Served)
    → ServesAmong links clock number at xs xs' rows rows' contents contents' parts parts' records records' faults faults' v → ForSome (Some v) (λ w. IsKind number w.kind)
among_kind links clock number at xs xs' rows rows' contents contents' parts parts' records records' faults faults' v a = λ w e. kind_one number v w a.serves.kind e

judged_one : (xs : List Session) (was : Session) (v w : Served) (x : Session) → server_in xs v ≡ Some was → IsJudgedOf was v.kind → Some v ≡ Some w → server_in xs w ≡ Some x → IsJudgedOf x w.kind
judged_one xs was v w x is judged e found =
    let same : v ≡ w = cc in
    let there : server_in xs v ≡ Some x = ap (server_in xs) same ∙ found in
    let one : was ≡ x = cc in
    subst (λ (u : Served). IsJudgedOf x u.kind) same (subst (λ (y : Session). IsJudgedOf y v.kind) one judged)

pub among_judged : (links : List EndView) (clock number at : ℕ) (xs xs' : List Session) (rows rows' : Rows) (contents contents' : Option Contents) (parts parts' : Option Parts) (records records' : Option (List HoldRecord)) (faults faults' : ℕ) (v : Served)
    → ServesAmong links clock number at xs xs' rows rows' contents contents' parts parts' records records' faults faults' v → OwnAll rows xs → JudgedBy xs (Some v)
among_judged links clock number at xs xs' rows rows' contents contents' parts parts' records records' faults faults' v a own =
    λ w e x found. judged_one xs a.was v w x (server_is xs at a.was v a.here own.apart a.serves.at) a.serves.judged e found

pub among_piece : (links : List EndView) (clock number at : ℕ) (xs xs' : List Session) (rows rows' : Rows) (contents contents' : Option Contents) (parts parts' : Option Parts) (records records' : Option (List HoldRecord)) (faults faults' : ℕ) (v : Served)
    → ServesAmong links clock number at xs xs' rows rows' contents contents' parts parts' records records' faults faults' v → OwnAll rows xs → PieceBy contents xs (Some v)
among_piece links clock number at xs xs' rows rows' contents contents' parts parts' records records' faults faults' v a own = piece_by contents xs a.was v (server_is xs at a.was v a.here own.apart a.serves.at) a.serves.piece

member_one : (xs : List Session) (at : ℕ) (was : Session) (v w : Served) → slice_get xs at ≡ Some was → end_by v ≡ end_of was → Some v ≡ Some w → Member (w.peer, w.slot) (map connection_of xs)
member_one xs at was v w here end e =
    let same : v ≡ w = cc in
    let mine : (v.peer, v.slot) ≡ connection_of was = ap (λ (b : EndName). (b.peer, b.slot)) end in
    subst (λ (u : Served). Member (u.peer, u.slot) (map connection_of xs)) same (subst (λ (c : ℕ × ℕ). Member c (map connection_of xs)) (sym mine) (at_member connection_of xs at was here))

pub among_member : (links : List EndView) (clock number at : ℕ) (xs xs' : List Session) (rows rows' : Rows) (contents contents' : Option Contents) (parts parts' : Option Parts) (records records' : Option (List HoldRecord)) (faults faults' : ℕ) (v : Served)
    → ServesAmong links clock number at xs xs' rows rows' contents contents' parts parts' records records' faults faults' v → ForSome (Some v) (λ w. Member (w.peer, w.slot) (map connection_of xs))
among_member links clock number at xs xs' rows rows' contents contents' parts parts' records records' faults faults' v a = λ w e. member_one xs at a.was v w a.here a.serves.at e

-- the same, of ends and sessions that are these
pub among_same : (links links' : List EndView) (clock number at : ℕ) (xs xs'' xs' : List Session) (rows rows' : Rows) (contents contents' : Option Contents) (parts parts' : Option Parts) (records records' : Option (List HoldRecord)) (faults faults' : ℕ) (v : Served)
    → links' ≡ links → xs'' ≡ xs → ServesAmong links' clock number at xs'' xs' rows rows' contents contents' parts parts' records records' faults faults' v
    → ServesAmong links clock number at xs xs' rows rows' contents contents' parts parts' records records' faults faults' v
among_same links links' clock number at xs xs'' xs' rows rows' contents contents' parts parts' records records' faults faults' v e f a =
    subst (λ (l : List EndView). ServesAmong l clock number at xs xs' rows rows' contents contents' parts parts' records records' faults faults' v) e
    (subst (λ (l : List Session). ServesAmong links' clock number at l xs' rows rows' contents contents' parts parts' records records' faults faults' v) f a)
