-- Which ends a repository has, what waits at them, and which room they have.
use Rattle.std.proofs.Common.{◌≡◌, ℕ, suc, ◌+◌, ◌*◌, ◌<◌, ◌≤◌, ◌^◌, Bool, true, false, List, [], ◌∷◌, Option, Some, None, length, map, refl, sym, ap, ◌∙◌, subst, arith}
use Rattle.std.specs.Prelude.{◌&&◌, cond, filter, find, if◌then◌else◌, nat_le, nat_lt, not, slice_get}
use Rattle.std.specs.Option.{option_and_then, option_map}
use Rattle.std.proofs.lemmas.Bool.Decides.{nat_tests}
use Rattle.std.proofs.lemmas.Option.{slice_get_within}
use Rattle.annex_base.specs.Lists.{Each}
use Rattle.annex_base.proofs.Conditions.{eqb_refl}
use Rattle.annex_base.specs.Bools.{same_bool}
use Rattle.link_ring.specs.Ends.{EndView, after_drop, fresh, next_frame}
use Rattle.link_ring.specs.Places.{end_place}
use Rattle.run_data.specs.declared.entry.FrameView.{FrameView}
use Rattle.node_model.specs.Ends.{EndName, taken_at, takes_at}
use Rattle.node_ends.specs.Ends.{link_at, room_at, wait_at}
use Rattle.driver_model.specs.Driver.{Driver, Flight, DriverInput, end_to, has_room, is_sent_by, old_at, part_at, state_at}
use Rattle.driver_model.specs.Finding.{driver_at_turn}
use Rattle.driver_model.specs.Scripts.{HasBoundedPast}
use Rattle.driver_model.specs.Sound.{IsSound}
use Rattle.driver_model.specs.Stores.{StoredBytes, bytes_in, is_stored}
use Rattle.driver_model.specs.Turning.{part_size}
use Rattle.fleet_model.proofs.BytesTaken.{link_dropped}

-- ---- ends that are there

-- a name whose end is there
pub record IsName (count : ℕ) (a : EndName) : Type 0 where
  pub peer : a.peer < count
  pub slot : a.slot < 4

pub end_there : (links : List EndView) (count : ℕ) (a : EndName) (v : EndView) → length links ≡ count * 8 → link_at links a ≡ Some v → IsName count a
end_there links count a v many at = go (nat_lt a.slot 4) refl at
  where
    client : ℕ
    client = if a.client then 0 else 1

    low : (p s c n : ℕ) → p * 8 + s * 2 + c < n * 8 → p < n
    low p s c n less = grind arith

    four : (s : ℕ) → nat_lt s 4 ≡ true → s < 4
    four s e = grind (arith, nat_tests)

    go : (b : Bool) → nat_lt a.slot 4 ≡ b → (if b then slice_get links (end_place a.peer a.slot a.client) else None) ≡ Some v → IsName count a
    go true e at = record { peer = low a.peer a.slot client count (subst (λ (n : ℕ). end_place a.peer a.slot a.client < n) many (slice_get_within links (end_place a.peer a.slot a.client) v at)); slot = four a.slot e }
    go false e at = absurd (cc)

-- ---- what waits there

pub takes_own : (f : FrameView) → taken_at (end_to f) (Some f) ≡ Some f
takes_own f = ap (λ (b : Bool). if b then Some f else None) all
  where
    way : (up : Bool) → same_bool (if up then false else true) (if up then false else true) ≡ true
    way true = refl
    way false = refl

    all : takes_at (end_to f) f ≡ true
    all = λ i. eqb_refl f.peer i && eqb_refl f.slot i && way f.up i

-- where a frame waits, once old frames were dropped, there is an end
pub wait_there : (links : List EndView) (a : EndName) (f : FrameView) → wait_at (map after_drop links) a ≡ Some f → (v : EndView) × (link_at links a ≡ Some v)
wait_there links a f waits = go (link_at links a) refl
  where
    dropped : (o : Option EndView) → link_at links a ≡ o → link_at (map after_drop links) a ≡ option_map after_drop o
    dropped o e = link_dropped links a ∙ ap (option_map after_drop) e

    nothing : link_at (map after_drop links) a ≡ None → wait_at (map after_drop links) a ≡ None
    nothing e = ap (λ (o : Option EndView). option_and_then (Rattle.node_ends.specs.Ends.if_may (Rattle.node_ends.specs.Ends.end_in o)) (option_map (Rattle.node_ends.specs.Ends.frame_at a) (option_and_then next_frame o))) e

    go : (o : Option EndView) → link_at links a ≡ o → (v : EndView) × (link_at links a ≡ Some v)
    go None e = absurd (clash (nothing (dropped None e)))
      where
        clash : wait_at (map after_drop links) a ≡ None → ⊥
        clash none = cc
    go (Some v) e = (v, e)

-- ---- room at ends of its own

fewer : (p q : Flight → Bool) (xs : List Flight) → length (filter p (filter q xs)) ≤ length (filter p xs)
fewer p q [] = none
  where
    none : 0 ≤ 0
    none = grind arith
fewer p q (x ∷ xs) = go (q x) (p x) refl refl (fewer p q xs)
  where
    more : (n m : ℕ) → n ≤ m → suc n ≤ suc m
    more n m less = grind arith

    later : (n m : ℕ) → n ≤ m → n ≤ suc m
    later n m less = grind arith

    go : (b c : Bool) → q x ≡ b → p x ≡ c → length (filter p (filter q xs)) ≤ length (filter p xs) → length (filter p (cond b (x ∷ filter q xs) (filter q xs))) ≤ length (cond c (x ∷ filter p xs) (filter p xs))
    go true true e f less = rw f (more (length (filter p (filter q xs))) (length (filter p xs)) less)
    go true false e f less = rw f less
    go false true e f less = later (length (filter p (filter q xs))) (length (filter p xs)) less
    go false false e f less = less

-- a repository sends nothing to itself, so there is room in the driver and at its node's end
pub own_room : (g : DriverInput) (d : Driver) (r : ℕ) (links : List EndView) (a : EndName) (v : EndView) → has_room r d.flights a ≡ true → link_at links a ≡ Some v → v ≡ fresh
    → has_room r (driver_at_turn g r d).flights a ≡ room_at links a
own_room g d r links a v room at unused =
    enough (length (filter (is_sent_by r a) (driver_at_turn g r d).flights)) (length (filter (is_sent_by r a) d.flights)) (fewer (is_sent_by r a) (λ x. not (old_at (state_at g d r) r x)) d.flights) room
    ∙ sym (ap (Rattle.node_ends.specs.Ends.passes Rattle.node_ends.specs.Ends.has_room) (at ∙ ap (λ (w : EndView). Some w) unused))
  where
    enough : (n m : ℕ) → n ≤ m → nat_le (m + 2) 8 ≡ true → nat_le (n + 2) 8 ≡ true
    enough n m less e = grind (arith, nat_tests)

-- ---- the size of a part

bound : (xs : List StoredBytes) (r : ℕ) (key : List ℕ) (n : ℕ) → Each (λ x. length x.bytes ≤ n) xs → length (bytes_in (find (is_stored r key) xs)) ≤ n
bound [] r key n few = grind arith
bound (x ∷ xs) r key n few = go (is_stored r key x) (bound xs r key n few.1)
  where
    go : (b : Bool) → length (bytes_in (find (is_stored r key) xs)) ≤ n → length (bytes_in (cond b (Some x) (find (is_stored r key) xs))) ≤ n
    go true rest = few.0
    go false rest = rest

pub part_fits : (g : DriverInput) (d : Driver) (r : ℕ) (key : Option (List ℕ)) → IsSound g d → HasBoundedPast d → part_size d r key < 2 ^ 62
part_fits g d r None sound fits = grind arith
part_fits g d r (Some key) sound fits = below (length (part_at d r key)) d.largest (bound d.parts r key d.largest sound.parts) fits.1
  where
    below : (n m : ℕ) → n ≤ m → m < 2 ^ 62 → n < 2 ^ 62
    below n m less small = grind arith
