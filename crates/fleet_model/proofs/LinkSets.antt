-- One end of a repository is set, and both ends of one connection are.
use Rattle.std.proofs.Common.{◌≡◌, ◌≢◌, ◌⊎◌, inl, inr, ℕ, zero, suc, ◌+◌, ◌*◌, ◌<◌, Bool, true, false, not, List, [], ◌∷◌, Option, Some, None, length, slice_set, refl, sym, ap, ◌∙◌, subst, arith}
use Rattle.std.specs.Prelude.{◌==◌, if◌then◌else◌, nat_lt, slice_get}
use Rattle.std.proofs.lemmas.Bool.{eqb-false, eqb-true}
use Rattle.std.proofs.lemmas.Bool.Decides.{nat_tests}
use Rattle.std.proofs.lemmas.Option.{none-some}
use Rattle.annex_base.proofs.Conditions.{eqb_other, eqb_refl, not_not}
use Rattle.link_ring.specs.Ends.{EndView, after_carry}
use Rattle.link_ring.specs.Places.{end_place}
use Rattle.node_model.specs.Ends.{EndName}
use Rattle.node_ends.specs.Ends.{link_at}
use Rattle.node_ends.specs.Joined.{end_with, link_carried}
use Rattle.link_flights.specs.Fleets.{AreAllCarried}

-- ---- one of a list

set_there : (xs : List EndView) (i : ℕ) (v w : EndView) → slice_get xs i ≡ Some w → slice_get (slice_set xs i v) i ≡ Some v
set_there [] i v w at = absurd (none-some w at)
set_there (x ∷ xs) zero v w at = refl
set_there (x ∷ xs) (suc i) v w at = set_there xs i v w at

set_apart : (xs : List EndView) (i j : ℕ) (v : EndView) → j ≢ i → slice_get (slice_set xs i v) j ≡ slice_get xs j
set_apart [] i j v apart = refl
set_apart (x ∷ xs) zero zero v apart = absurd (apart refl)
set_apart (x ∷ xs) zero (suc j) v apart = refl
set_apart (x ∷ xs) (suc i) zero v apart = refl
set_apart (x ∷ xs) (suc i) (suc j) v apart = set_apart xs i j v (λ e. apart (ap suc e))

set_long : (xs : List EndView) (i : ℕ) (v : EndView) → length (slice_set xs i v) ≡ length xs
set_long [] i v = refl
set_long (x ∷ xs) zero v = refl
set_long (x ∷ xs) (suc i) v = ap suc (set_long xs i v)

-- ---- names and places

-- both names are one, or they aren't
pub same_or_not : (a b : EndName) → (b ≡ a) ⊎ (b ≢ a)
same_or_not a b = by_peer (b.peer == a.peer) refl
  where
    by_client : (p q : Bool) → b.client ≡ p → a.client ≡ q → b.peer ≡ a.peer → b.slot ≡ a.slot → (b ≡ a) ⊎ (b ≢ a)
    by_client true true e f peer slot = inl (λ i. record { peer = peer i; slot = slot i; client = (e ∙ sym f) i })
    by_client false false e f peer slot = inl (λ i. record { peer = peer i; slot = slot i; client = (e ∙ sym f) i })
    by_client true false e f peer slot = inr (λ (same : b ≡ a). clash (sym e ∙ (ap (λ (x : EndName). x.client) same ∙ f)))
      where
        clash : true ≡ false → ⊥
        clash e = cc
    by_client false true e f peer slot = inr (λ (same : b ≡ a). clash (sym e ∙ (ap (λ (x : EndName). x.client) same ∙ f)))
      where
        clash : false ≡ true → ⊥
        clash e = cc

    by_slot : (t : Bool) → (b.slot == a.slot) ≡ t → b.peer ≡ a.peer → (b ≡ a) ⊎ (b ≢ a)
    by_slot true e peer = by_client b.client a.client refl refl peer (eqb-true b.slot a.slot e)
    by_slot false e peer = inr (λ (same : b ≡ a). eqb-false b.slot a.slot e (ap (λ (x : EndName). x.slot) same))

    by_peer : (t : Bool) → (b.peer == a.peer) ≡ t → (b ≡ a) ⊎ (b ≢ a)
    by_peer true e = by_slot (b.slot == a.slot) refl (eqb-true b.peer a.peer e)
    by_peer false e = inr (λ (same : b ≡ a). eqb-false b.peer a.peer e (ap (λ (x : EndName). x.peer) same))

place_is : (p s k q t l : ℕ) → s < 4 → t < 4 → k < 2 → l < 2 → q * 8 + t * 2 + l ≡ p * 8 + s * 2 + k → (q ≡ p) × (t ≡ s) × (l ≡ k)
place_is p s k q t l low low' bit bit' e = (omega (arith, e, low, low', bit, bit'), omega (arith, e, low, low', bit, bit'), omega (arith, e, low, low', bit, bit'))

abbrev bit : Bool → ℕ
bit c = if c then 0 else 1

small_bit : (c : Bool) → bit c < 2
small_bit true = omega arith
small_bit false = omega arith

same_bit : (c d : Bool) → bit d ≡ bit c → d ≡ c
same_bit true true e = refl
same_bit false false e = refl
same_bit true false e = absurd (omega (arith, e))
same_bit false true e = absurd (omega (arith, e))

-- each end has a place of its own
place_of_own : (a b : EndName) → a.slot < 4 → b.slot < 4 → b ≢ a → end_place b.peer b.slot b.client ≢ end_place a.peer a.slot a.client
place_of_own a b low low' apart e =
    let is = place_is a.peer a.slot (bit a.client) b.peer b.slot (bit b.client) low low' (small_bit a.client) (small_bit b.client) e in
    let client : b.client ≡ a.client = same_bit a.client b.client is.2 in
    let peer : b.peer ≡ a.peer = is.0 in
    let slot : b.slot ≡ a.slot = is.1 in
    let same : b ≡ a = λ i. record { peer = peer i; slot = slot i; client = client i } in
    apart same

-- ---- the end of a name is set

abbrev pub set_end : List EndView → EndName → EndView → List EndView
set_end links a v = slice_set links (end_place a.peer a.slot a.client) v

slot_is : (s : ℕ) → s < 4 → nat_lt s 4 ≡ true
slot_is s low = grind (arith, nat_tests)

pub end_set : (links : List EndView) (a : EndName) (v w : EndView) → a.slot < 4 → link_at links a ≡ Some w → link_at (set_end links a v) a ≡ Some v
end_set links a v w low at =
    ap (λ (b : Bool). if b then slice_get (set_end links a v) (end_place a.peer a.slot a.client) else None) (slot_is a.slot low)
    ∙ set_there links (end_place a.peer a.slot a.client) v w (ap (λ (b : Bool). if b then slice_get links (end_place a.peer a.slot a.client) else None) (sym (slot_is a.slot low)) ∙ at)

pub others_unset : (links : List EndView) (a b : EndName) (v : EndView) → a.slot < 4 → b ≢ a → link_at (set_end links a v) b ≡ link_at links b
others_unset links a b v low apart = go (nat_lt b.slot 4) refl
  where
    four : (s : ℕ) → nat_lt s 4 ≡ true → s < 4
    four s e = grind (arith, nat_tests)

    go : (t : Bool) → nat_lt b.slot 4 ≡ t → link_at (set_end links a v) b ≡ link_at links b
    go true e = ap (λ (o : Option EndView). if nat_lt b.slot 4 then o else None) (set_apart links (end_place a.peer a.slot a.client) (end_place b.peer b.slot b.client) v (place_of_own a b low (four b.slot e) apart))
    go false e = ap (λ (t : Bool). if t then slice_get (set_end links a v) (end_place b.peer b.slot b.client) else None) e
        ∙ sym (ap (λ (t : Bool). if t then slice_get links (end_place b.peer b.slot b.client) else None) e)

pub set_end_long : (links : List EndView) (a : EndName) (v : EndView) → length (set_end links a v) ≡ length links
set_end_long links a v = set_long links (end_place a.peer a.slot a.client) v

-- ---- both ends of the connection that r has by the end a

-- the end of the other
abbrev pub across : ℕ → EndName → EndName
across r a = end_with r a.slot (not a.client)

abbrev pub with_pair : (ℕ → List EndView) → ℕ → EndName → EndView → EndView → ℕ → List EndView
with_pair ends r a y z q = if q == r then set_end (ends r) a y else (if q == a.peer then set_end (ends q) (across r a) z else ends q)

module _ (ends : ℕ → List EndView) (r : ℕ) (a : EndName) (y z v w : EndView) (low : a.slot < 4) (apart : a.peer ≢ r) (here : link_at (ends r) a ≡ Some v) (there : link_at (ends a.peer) (across r a) ≡ Some w) where
  abbrev now : ℕ → List EndView
  now = with_pair ends r a y z

  now_own : now r ≡ set_end (ends r) a y
  now_own = ap (λ (b : Bool). if b then set_end (ends r) a y else (if r == a.peer then set_end (ends r) (across r a) z else ends r)) (eqb_refl r)

  now_their : now a.peer ≡ set_end (ends a.peer) (across r a) z
  now_their =
      ap (λ (b : Bool). if b then set_end (ends r) a y else (if a.peer == a.peer then set_end (ends a.peer) (across r a) z else ends a.peer)) (eqb_other a.peer r (λ e. apart (sym e)))
      ∙ ap (λ (b : Bool). if b then set_end (ends a.peer) (across r a) z else ends a.peer) (eqb_refl a.peer)

  pub pair_long : length (now r) ≡ length (ends r)
  pair_long = ap length now_own ∙ set_end_long (ends r) a y

  own_set : link_at (now r) a ≡ Some y
  own_set = ap (λ (links : List EndView). link_at links a) now_own ∙ end_set (ends r) a y v low here

  their_set : link_at (now a.peer) (across r a) ≡ Some z
  their_set = ap (λ (links : List EndView). link_at links (across r a)) now_their ∙ end_set (ends a.peer) (across r a) z w low there

  own_others : (b : EndName) → b ≢ a → link_at (now r) b ≡ link_at (ends r) b
  own_others b other = ap (λ (links : List EndView). link_at links b) now_own ∙ others_unset (ends r) a b y low other

  their_others : (q : ℕ) (b : EndName) → q ≢ r → (q ≡ a.peer → b ≢ across r a) → link_at (now q) b ≡ link_at (ends q) b
  their_others q b other unlike = go (q == a.peer) refl
    where
      passes : now q ≡ (if q == a.peer then set_end (ends q) (across r a) z else ends q)
      passes = ap (λ (t : Bool). if t then set_end (ends r) a y else (if q == a.peer then set_end (ends q) (across r a) z else ends q)) (eqb_other q r (λ e. other (sym e)))

      go : (t : Bool) → (q == a.peer) ≡ t → link_at (now q) b ≡ link_at (ends q) b
      go true e = ap (λ (links : List EndView). link_at links b) (passes ∙ ap (λ (t : Bool). if t then set_end (ends q) (across r a) z else ends q) e)
          ∙ others_unset (ends q) (across r a) b z low (unlike (eqb-true q a.peer e))
      go false e = ap (λ (links : List EndView). link_at links b) (passes ∙ ap (λ (t : Bool). if t then set_end (ends q) (across r a) z else ends q) e)

  -- ---- frames are carried

  -- Frames were carried between these ends of r, and those that others have, and left those before; then they were carried so with an end
  -- of r that is another, once both ends of that connection are set.
  module _ (count : ℕ) (base : ℕ → List EndView) (was mine : List EndView) (m b : EndView) (carried : AreAllCarried count r was base ends) (rest : (x : EndName) → x ≢ a → link_at mine x ≡ link_at was x) (mine_is : link_at mine a ≡ Some m) (base_is : link_at (base a.peer) (across r a) ≡ Some b) (own_is : y ≡ after_carry m b) (their_is : z ≡ after_carry b m) where
    own_now : (q slot : ℕ) (client : Bool) → q < count → q ≢ r → slot < 4 → (end_with q slot client ≡ a) ⊎ (end_with q slot client ≢ a)
        → link_at (now r) (end_with q slot client) ≡ link_carried (link_at mine (end_with q slot client)) (link_at (base q) (end_with r slot (not client)))
    own_now q slot client within other few (inl same) =
        subst (λ (x : EndName). link_at (now r) x ≡ link_carried (link_at mine x) (link_at (base x.peer) (end_with r x.slot (not x.client)))) (sym same)
        (own_set ∙ (ap (λ (x : EndView). Some x) own_is ∙ (λ i. link_carried (sym mine_is i) (sym base_is i))))
    own_now q slot client within other few (inr unlike) =
        own_others (end_with q slot client) unlike ∙ (carried.own q slot client within other few
        ∙ ap (λ (o : Option EndView). link_carried o (link_at (base q) (end_with r slot (not client)))) (sym (rest (end_with q slot client) unlike)))

    -- the same name, seen from the other
    turned : (q slot : ℕ) (client : Bool) → end_with r slot (not (not client)) ≡ end_with r slot client
    turned q slot client = ap (end_with r slot) (not_not client)

    their_now : (q slot : ℕ) (client : Bool) → q < count → q ≢ r → slot < 4 → (end_with q slot (not client) ≡ a) ⊎ (end_with q slot (not client) ≢ a)
        → link_at (now q) (end_with r slot client) ≡ link_carried (link_at (base q) (end_with r slot client)) (link_at mine (end_with q slot (not client)))
    their_now q slot client within other few (inl same) =
        subst (λ (x : EndName). link_at (now q) x ≡ link_carried (link_at (base q) x) (link_at mine (end_with q slot (not client)))) (turned q slot client)
        (subst (λ (x : EndName). link_at (now x.peer) (end_with r x.slot (not x.client)) ≡ link_carried (link_at (base x.peer) (end_with r x.slot (not x.client))) (link_at mine x)) (sym same)
        (their_set ∙ (ap (λ (x : EndView). Some x) their_is ∙ (λ i. link_carried (sym base_is i) (sym mine_is i)))))
    their_now q slot client within other few (inr unlike) =
        their_others q (end_with r slot client) other (λ peer same. unlike (back peer same)) ∙ (carried.theirs q slot client within other few
        ∙ ap (λ (o : Option EndView). link_carried (link_at (base q) (end_with r slot client)) o) (sym (rest (end_with q slot (not client)) unlike)))
      where
        back : q ≡ a.peer → end_with r slot client ≡ across r a → end_with q slot (not client) ≡ a
        back peer same = λ i. record { peer = peer i; slot = (same i).slot; client = (ap (λ (x : EndName). not x.client) same ∙ not_not a.client) i }

    pub pair_carried : AreAllCarried count r mine base now
    pair_carried = record {
      own = λ q slot client within other few. own_now q slot client within other few (same_or_not a (end_with q slot client));
      theirs = λ q slot client within other few. their_now q slot client within other few (same_or_not a (end_with q slot (not client)));
      others = λ q x within other far. their_others q x other (λ peer same. far (ap (λ (n : EndName). n.peer) same)) ∙ carried.others q x within other far;
    }
