-- Sessions that are made one after the other.
use Rattle.std.proofs.Common.{◌≡◌, ◌≢◌, ◌⊎◌, inl, inr, ℕ, zero, suc, ◌+◌, ◌*◌, ◌<◌, Bool, true, false, List, [], ◌∷◌, ◌++◌, Option, Some, All, map, refl, sym, ap, subst, ◌∙◌, arith, true≢false}
use Rattle.std.specs.Prelude.{slice_get, ◌&&◌, ◌==◌, if◌then◌else◌, flat_map, is_some, length}
use Rattle.std.specs.List.{range_with_len}
use Rattle.std.proofs.lemmas.Grind.{flat_map-append}
use Rattle.std.proofs.lemmas.List.Elements.{All-head, All-tail, filter-append}
use Rattle.std.proofs.lemmas.Bool.{eqb-true}
use Rattle.annex_base.specs.Lists.{Each}
use Rattle.annex_base.proofs.Lists.{Each-append, Each-push, Each-weaker}
use Rattle.annex_base.proofs.Numbers.{range_suc}
use Rattle.run_data.specs.declared.entry.By.{By}
use Rattle.run_data.specs.declared.row.Hold.{Hold}
use Rattle.object_store.specs.Stores.{Parts}
use Rattle.content_lock.specs.Rows.{Rows}
use Rattle.content_lock.specs.Tokens.{Owns, ShareView}
use Rattle.link_ring.specs.Ends.{EndView}
use Rattle.node_model.specs.Ends.{EndName}
use Rattle.node_model.specs.Evidence.{but}
use Rattle.node_model.specs.Rows.{keep_of, same_owner}
use Rattle.node_model.specs.Sessions as sessions
use Rattle.node_model.specs.Sessions.{new_session}
use Rattle.node_model.specs.SetUp.{SetUp, served_connections, slots}
use Rattle.node_ends.specs.Ends.{link_at}
use Rattle.p2p_server.specs.declared.Place.{Place}
use Rattle.p2p_server.specs.declared.session.Session.{Session}
use Rattle.p2p_server.specs.Talking.{place_of}
use Rattle.node_sessions.specs.Built.{AreBuilt, IsNew, place_in, places_in, rank}
use Rattle.node_sessions.specs.Sessions.{AreSessions, Every, EveryTwo, AreAllFed, HaveEnds, IsSetUp, OwnAll, connection_of, end_of, fills_in, owner_of, session_fills}
use Rattle.node_sessions.proofs.Filling.{both_no}
use Rattle.node_sessions.proofs.Listing.{any_none}

-- ---- one more at the end of a list

pub Every-from_Each : {X : Type 0} (P : X → Type 0) (xs : List X) → Each P xs → Every P xs
Every-from_Each P [] h = λ i x at. absurd cc
Every-from_Each {X} P (y ∷ ys) h = λ i x at. go i x at (Every-from_Each P ys h.1)
  where
    go : (i : ℕ) (x : X) → slice_get (y ∷ ys) i ≡ Some x → Every P ys → P x
    go zero x at rest =
        let e : y ≡ x = cc in subst P e h.0
    go (suc i) x at rest = rest i x at

push_cases : {X : Type 0} (xs : List X) (k : ℕ) (x y : X) → slice_get (xs ++ x ∷ []) k ≡ Some y → (slice_get xs k ≡ Some y) ⊎ ((k ≡ length xs) × (y ≡ x))
push_cases [] zero x y at = inr (refl, cc)
push_cases [] (suc k) x y at = absurd cc
push_cases (z ∷ zs) zero x y at = inl at
push_cases (z ∷ zs) (suc k) x y at = elim (push_cases zs k x y at) [ inl h ↦ inl h | inr h ↦ inr (ap suc h.0, h.1) ]

pub EveryTwo-push : {X : Type 0} (R : X → X → Type 0) (xs : List X) (x : X) → EveryTwo R xs → ((k : ℕ) (y : X) → slice_get xs k ≡ Some y → R y x × R x y) → EveryTwo R (xs ++ x ∷ [])
EveryTwo-push {X} R xs x all new = λ j k y z ne aty atz. go j k y z ne (push_cases xs j x y aty) (push_cases xs k x z atz)
  where
    go : (j k : ℕ) (y z : X) → j ≢ k → (slice_get xs j ≡ Some y) ⊎ ((j ≡ length xs) × (y ≡ x)) → (slice_get xs k ≡ Some z) ⊎ ((k ≡ length xs) × (z ≡ x)) → R y z
    go j k y z ne (inl a) (inl b) = all j k y z ne a b
    go j k y z ne (inl a) (inr b) = subst (λ (w : X). R y w) (sym b.1) (new j y a).0
    go j k y z ne (inr a) (inl b) = subst (λ (w : X). R w z) (sym a.1) (new k z b).1
    go j k y z ne (inr a) (inr b) = absurd (ne (a.0 ∙ sym b.0))

-- ---- ranks

pairs_differ : (p s q t : ℕ) → s < 4 → t < 4 → p * 4 + s ≢ q * 4 + t → ((p == q) && (s == t)) ≡ false
pairs_differ p s q t sl tl ne =
    both_no (p == q) (s == t) (λ e f. ne (ap (λ (x : ℕ). x * 4 + s) (eqb-true p q e) ∙ ap (λ (x : ℕ). q * 4 + x) (eqb-true s t f)))

pub built_push : (id : List ℕ) (version : ℕ) (locks : Bool) (n : ℕ) (xs : List Session) (x : Session) → AreBuilt id version locks n xs → rank x ≡ n → IsNew id version locks x → AreBuilt id version locks (n + 1) (xs ++ x ∷ [])
built_push id version locks n xs x b is new =
    let low : Every (λ y. rank y < n) xs = Every-from_Each (λ (y : Session). rank y < n) xs b.below in
    let each : Every (IsNew id version locks) xs = Every-from_Each (IsNew id version locks) xs b.new in record {
      below = Each-append (λ (y : Session). rank y < n + 1) xs (x ∷ []) (Each-weaker (λ (y : Session). rank y < n) (λ (y : Session). rank y < n + 1) (λ y l. omega (arith, l)) xs b.below) (omega (arith, is), tt);
      new = Each-push (IsNew id version locks) xs x b.new new;
      apart = EveryTwo-push (λ (y z : Session). same_owner (owner_of y) (owner_of z) ≡ false) xs x b.apart
          (λ k y at. (
            pairs_differ (place_of y).peer (place_of y).slot (place_of x).peer (place_of x).slot (each k y at).slot new.slot (λ e. apart_at (rank y) n (low k y at) (e ∙ is)),
            pairs_differ (place_of x).peer (place_of x).slot (place_of y).peer (place_of y).slot new.slot (each k y at).slot (λ e. apart_at (rank y) n (low k y at) (sym e ∙ is)),
          ));
    }
  where
    apart_at : (a m : ℕ) → a < m → a ≡ m → ⊥
    apart_at a m l e = omega (arith, l, e)

-- ---- places

pub places_more : (p : Place) (number n : ℕ) (before after : List Place) → before ≡ places_in p (but number (range_with_len 0 n)) → after ≡ before ++ places_in p (but number (n ∷ [])) → after ≡ places_in p (but number (range_with_len 0 (n + 1)))
places_more p number n before after was is =
    is ∙ ap (λ (l : List Place). l ++ places_in p (but number (n ∷ []))) was
    ∙ sym (ap (λ (l : List ℕ). places_in p (but number l)) range ∙ ap (places_in p) (filter-append _ (range_with_len 0 n) (n ∷ [])) ∙ flat_map-append (λ (peer : ℕ). map (place_in p peer) slots) (but number (range_with_len 0 n)) (but number (n ∷ [])))
  where
    range : range_with_len 0 (n + 1) ≡ range_with_len 0 n ++ n ∷ []
    range =
        let one : n + 1 ≡ suc n = omega arith in
        let none : 0 + n ≡ n = omega arith in ap (range_with_len 0) one ∙ range_suc 0 n ∙ ap (λ (k : ℕ). range_with_len 0 n ++ k ∷ []) none

abbrev pairs_in : List ℕ → List (ℕ × ℕ)
pairs_in peers = flat_map (λ peer. map (λ slot. (peer, slot)) slots) peers

pub map_over : {X Y Z : Type 0} (f : X → Y) (g : Y → Z) (xs : List X) → map (λ x. g (f x)) xs ≡ map g (map f xs)
map_over f g [] = refl
map_over {X} {Y} {Z} f g (x ∷ xs) = ap (λ (zs : List Z). g (f x) ∷ zs) (map_over f g xs)

places_pairs : (p : Place) (peers : List ℕ) → map (λ q. (q.peer, q.slot)) (places_in p peers) ≡ pairs_in peers
places_pairs p [] = refl
places_pairs p (n ∷ ns) = ap (λ (cs : List (ℕ × ℕ)). (n, 0) ∷ (n, 1) ∷ (n, 2) ∷ (n, 3) ∷ cs) (places_pairs p ns)

pub new_connections : (s : SetUp) (p : Place) (id : List ℕ) (version : ℕ) (locks : Bool) (number count : ℕ) (xs : List Session) → IsSetUp s id version locks number count → map place_of xs ≡ places_in p (but number (range_with_len 0 count)) → map connection_of xs ≡ served_connections s
new_connections s p id version locks number count xs h places =
    map_over place_of (λ q. (q.peer, q.slot)) xs ∙ ap (map (λ q. (q.peer, q.slot))) places ∙ places_pairs p (but number (range_with_len 0 count))
    ∙ sym (ap (λ (n : ℕ). pairs_in (but n (range_with_len 0 (length s.repos)))) h.number_is ∙ ap (λ (n : ℕ). pairs_in (but number (range_with_len 0 n))) h.count_is)

-- ---- what new sessions are

pub new_sessions : (s : SetUp) (p : Place) (id : List ℕ) (version : ℕ) (locks : Bool) (number count n : ℕ) (xs : List Session) → IsSetUp s id version locks number count → map place_of xs ≡ places_in p (but number (range_with_len 0 count))
    → AreBuilt id version locks n xs → AreSessions s (λ a. new_session) xs
new_sessions s p id version locks number count n xs h places b = record {
  connections = new_connections s p id version locks number count xs h places;
  each = λ i x at.
      let new : IsNew id version locks x = Every-from_Each (IsNew id version locks) xs b.new i x at in
      record { id = h.id_is ∙ sym new.id_is; version = h.version_is ∙ sym new.version_is; locks = h.locks_are ∙ sym new.locks_are; session = sym new.session };
}

new_fills_none : (id : List ℕ) (version : ℕ) (locks : Bool) (x : Session) → IsNew id version locks x → (key : List ℕ) → session_fills key x ≡ false
new_fills_none id version locks x new key = ap (λ (t : sessions.Session). sessions.is_filling key t.doing) new.session

kept_stay : (by : By) (hs : List Hold) → All (λ h. h.kept ≡ true) hs → map (keep_of by) hs ≡ hs
kept_stay by [] kept = refl
kept_stay by (h ∷ hs) kept =
    let first : keep_of by h ≡ h = one (same_owner h.owner by) (All-head (λ (x : Hold). x.kept ≡ true) h hs kept) in
    ap (λ (x : Hold). x ∷ map (keep_of by) hs) first ∙ ap (λ (l : List Hold). h ∷ l) (kept_stay by hs (All-tail (λ (x : Hold). x.kept ≡ true) h hs kept))
  where
    one : (b : Bool) → h.kept ≡ true → (if b then record h { kept = true } else h) ≡ h
    one true e = ap (λ (k : Bool). record h { kept = k }) (sym e)
    one false e = refl

pub new_own : (id : List ℕ) (version : ℕ) (locks : Bool) (n : ℕ) (xs : List Session) → AreBuilt id version locks n xs → (rows : Rows) → All (λ h. h.kept ≡ true) rows.holds → OwnAll rows xs
new_own id version locks n xs b rows kept =
    let each : Every (IsNew id version locks) xs = Every-from_Each (IsNew id version locks) xs b.new in record {
      shares = λ i x at. subst (λ (o : Option ShareView). Owns (owner_of x) o rows.holds) (sym (each i x at).share) (record { owner = refl; given = refl; kept = kept_stay (owner_of x) rows.holds kept });
      fills = λ i x at key is. absurd (true≢false (sym is ∙ new_fills_none id version locks x (each i x at) key));
      apart = λ i j x y ne atx aty. record {
        owners = b.apart i j x y ne atx aty;
        fills = λ key. both_no (session_fills key x) (session_fills key y) (λ is other. true≢false (sym is ∙ new_fills_none id version locks x (each i x atx) key));
      };
    }

pub new_fills : (id : List ℕ) (version : ℕ) (locks : Bool) (n : ℕ) (xs : List Session) → AreBuilt id version locks n xs → (key : List ℕ) → fills_in xs key ≡ false
new_fills id version locks n xs b key = any_none (session_fills key) xs (λ i x at. new_fills_none id version locks x (Every-from_Each (IsNew id version locks) xs b.new i x at) key)

pub new_fed : (id : List ℕ) (version : ℕ) (locks : Bool) (n : ℕ) (xs : List Session) → AreBuilt id version locks n xs → (p : Parts) → AreAllFed p xs
new_fed id version locks n xs b p = λ i x at. (Every-from_Each (IsNew id version locks) xs b.new i x at).fed p

-- the law of `ends_are_there`
abbrev pub EndsAreThere : Type 0
EndsAreThere = (links : List EndView) (count : ℕ) (a : EndName) → length links ≡ count * 8 → a.peer < count → a.slot < 4 → is_some (link_at links a) ≡ true

pub new_there : EndsAreThere → (id : List ℕ) (version : ℕ) (locks : Bool) (count : ℕ) (xs : List Session) → AreBuilt id version locks (count * 4) xs → (links : List EndView) → length links ≡ count * 8 → HaveEnds links xs
new_there law id version locks count xs b links len = λ i x at.
    let low : rank x < count * 4 = Every-from_Each (λ (y : Session). rank y < count * 4) xs b.below i x at in
    law links count (end_of x) len (below_count (place_of x).peer (place_of x).slot count low) (Every-from_Each (IsNew id version locks) xs b.new i x at).slot
  where
    below_count : (peer slot n : ℕ) → peer * 4 + slot < n * 4 → peer < n
    below_count peer slot n l = omega (arith, l)
