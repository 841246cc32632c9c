-- All sessions are closed, one after the other.
use Rattle.std.proofs.Common.{◌≡◌, inl, inr, ℕ, zero, suc, ◌<◌, ◌≤◌, ◌+◌, false, List, [], ◌∷◌, Option, Some, None, length, map, refl, sym, ap, subst, ◌∙◌, arith, true≢false}
use Rattle.std.specs.Prelude.{slice_get}
use Rattle.std.proofs.Math.ListN.{set}
use Rattle.std.proofs.lemmas.Option.{slice_get_within}
use Rattle.annex_base.specs.Lists.{Member}
use Rattle.run_data.specs.declared.entry.By.{By}
use Rattle.content_lock.specs.Rows.{Rows}
use Rattle.content_lock.specs.Tokens.{Owns, ShareView}
use Rattle.node_model.specs.AnyTime.{all_ends}
use Rattle.node_model.specs.Ends.{EndName}
use Rattle.node_model.specs.Rows.{restart, same_owner}
use Rattle.node_model.specs.Sessions as sessions
use Rattle.node_model.specs.Sessions.{new_session}
use Rattle.node_model.specs.SetUp.{SetUp, served_connections}
use Rattle.p2p_server.specs.Answers.{owner_at}
use Rattle.p2p_server.specs.declared.Place.{Place}
use Rattle.p2p_server.specs.declared.session.Session.{Session}
use Rattle.p2p_server.specs.Talking.{place_of}
use Rattle.node_sessions.specs.Built.{AreClosed, ClosesAmong, IsBare}
use Rattle.node_sessions.specs.Sessions.{AreSessions, IsOther, IsSessionOf, OwnAll, connection_of, end_of, fills_in, owner_of, session_fills}
use Rattle.node_sessions.proofs.Building.{map_over}
use Rattle.node_sessions.proofs.Leaving.{closes_fed, closes_filled, closes_own, closes_places, closes_there, restart_kept}
use Rattle.node_sessions.proofs.Listing.{Every-set, any_none, set_cases}
use Rattle.node_sessions.proofs.Turning.{end_among}

set_length : {X : Type 0} (xs : List X) (i : ℕ) (x : X) → length (set xs i x) ≡ length xs
set_length [] i x = refl
set_length (y ∷ ys) zero x = refl
set_length (y ∷ ys) (suc i) x = ap suc (set_length ys i x)

pub closed_none : (xs : List Session) (rows : Rows) → OwnAll rows xs → AreClosed 0 xs xs rows rows
closed_none xs rows own = record {
  bare = λ i x low at. absurd (omega (arith, low));
  count = refl;
  places = refl;
  own = own;
  there = λ links there. there;
  fed = λ q fed. fed;
  apart = λ by other. other;
  others = λ by share other owns. owns;
  filled = λ others filled. filled;
  numbers = λ n all. all;
  agrees = λ known agrees. agrees;
  bars = λ key. refl;
  crash = λ clock. refl;
}

pub closed_next : (n : ℕ) (was mid now : List Session) (rows rows' rows'' : Rows) → AreClosed n was mid rows rows' → ClosesAmong n mid now rows' rows'' → AreClosed (n + 1) was now rows rows''
closed_next n was mid now rows rows' rows'' h a = record {
  bare = bare;
  count = ap length a.left ∙ (set_length mid n a.now ∙ h.count);
  places = closes_places n mid now rows' rows'' a ∙ h.places;
  own = closes_own n mid now rows' rows'' a h.own;
  there = λ links there. closes_there n mid now rows' rows'' a links (h.there links there);
  fed = λ q fed. closes_fed n mid now rows' rows'' a q (h.fed q fed);
  apart = apart;
  others = λ by share other owns. a.closed.others by share (h.apart by other n a.was a.here) (h.others by share other owns);
  filled = λ others filled. closes_filled n mid now rows' rows'' a h.own others (h.filled others filled);
  numbers = λ m all. a.closed.numbers m (h.numbers m all);
  agrees = λ known agrees. a.closed.agrees known (h.agrees known agrees);
  bars = λ key. a.closed.after.bars key ∙ h.bars key;
  crash = λ clock. ap (map (restart clock)) a.closed.after.holds ∙ (restart_kept clock (owner_of a.was) rows'.holds ∙ h.crash clock);
}
  where
    bare : (i : ℕ) (x : Session) → i < n + 1 → slice_get now i ≡ Some x → IsBare x
    bare i x low at = elim (set_cases mid n i a.now x (ap (λ (l : List Session). slice_get l i) (sym a.left) ∙ at)) [
      | inl here ↦ subst IsBare (sym here.1) (record { session = a.closed.session; share = a.closed.share })
      | inr other ↦ h.bare i x (omega (arith, low, other.0)) other.1
    ]

    apart : (by : By) → IsOther by was → IsOther by now
    apart by other =
        subst (IsOther by) (sym a.left)
        (Every-set (λ (x : Session). same_owner (owner_of x) by ≡ false) mid n a.now
        (ap (λ (p : Place). same_owner (owner_at p) by) a.closed.place ∙ h.apart by other n a.was a.here) (λ k y ne at. h.apart by other k y at))

pub closed_as_many : (n : ℕ) (was now : List Session) (rows rows' : Rows) → AreClosed n was now rows rows' → length was ≤ n → AreClosed (length now) was now rows rows'
closed_as_many n was now rows rows' h many = record {
  bare = λ i x low at. h.bare i x (omega (arith, low, many, h.count)) at;
  count = h.count;
  places = h.places;
  own = h.own;
  there = h.there;
  fed = h.fed;
  apart = h.apart;
  others = h.others;
  filled = h.filled;
  numbers = h.numbers;
  agrees = h.agrees;
  bars = h.bars;
  crash = h.crash;
}

-- ---- what they are then

like_placed : (xs' xs : List Session) (i : ℕ) (x : Session) → map place_of xs' ≡ map place_of xs → slice_get xs' i ≡ Some x → (y : Session) × (slice_get xs i ≡ Some y) × (place_of y ≡ place_of x)
like_placed [] xs i x same at = absurd cc
like_placed (z ∷ zs) [] i x same at = absurd cc
like_placed (z ∷ zs) (y ∷ ys) zero x same at =
    let here : z ≡ x = cc in
    let place : place_of z ≡ place_of y = cc in
    (y, refl, sym place ∙ ap place_of here)
like_placed (z ∷ zs) (y ∷ ys) (suc i) x same at =
    let rest : map place_of zs ≡ map place_of ys = cc in
    like_placed zs ys i x rest at

module _ (was now : List Session) (rows rows' : Rows) (h : AreClosed (length now) was now rows rows') where
  each : (i : ℕ) (x : Session) → slice_get now i ≡ Some x → IsBare x
  each i x at = h.bare i x (slice_get_within now i x at) at

  fills_none : (i : ℕ) (x : Session) → slice_get now i ≡ Some x → (key : List ℕ) → session_fills key x ≡ false
  fills_none i x at key = ap (λ (t : sessions.Session). sessions.is_filling key t.doing) (each i x at).session

  pub bare_own : (table : Rows) → ((by : By) → Owns by None table.holds) → OwnAll table now
  bare_own table none = record {
    shares = λ i x at. subst (λ (o : Option ShareView). Owns (owner_of x) o table.holds) (sym (each i x at).share) (none (owner_of x));
    fills = λ i x at key is. absurd (true≢false (sym is ∙ fills_none i x at key));
    apart = h.own.apart;
  }

  pub bare_fills : (key : List ℕ) → fills_in now key ≡ false
  bare_fills key = any_none (session_fills key) now (λ i x at. fills_none i x at key)

  pub bare_sessions : (s : SetUp) (were are : EndName → sessions.Session) → AreSessions s were was → ((a : EndName) → a.client ≡ false → Member a (all_ends s) → are a ≡ new_session) → AreSessions s are now
  bare_sessions s were are before new = record {
    connections = connections;
    each = session;
  }
    where
      connections : map connection_of now ≡ served_connections s
      connections = map_over place_of (λ q. (q.peer, q.slot)) now ∙ (ap (map (λ q. (q.peer, q.slot))) h.places ∙ (sym (map_over place_of (λ q. (q.peer, q.slot)) was) ∙ before.connections))

      session : (i : ℕ) (x : Session) → slice_get now i ≡ Some x → IsSessionOf s are x
      session i x at =
          let y = like_placed now was i x h.places at in
          let old : IsSessionOf s were y.0 = before.each i y.0 y.1 in record {
            id = old.id ∙ ap (λ (p : Place). p.id) y.2;
            version = old.version ∙ ap (λ (p : Place). p.version) y.2;
            locks = old.locks ∙ ap (λ (p : Place). p.locks) y.2;
            session = new (end_of x) refl (end_among s now i x connections at) ∙ sym (each i x at).session;
          }
