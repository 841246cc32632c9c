-- An end of a peer that is no repository isn't open.
use Rattle.std.proofs.Common.{◌≡◌, ℕ, zero, suc, ◌*◌, ◌≤◌, ◌<◌, Bool, true, false, if◌then◌else◌, List, [], ◌∷◌, length, Option, None, refl, sym, ap, ◌∙◌, arith}
use Rattle.std.specs.Prelude.{slice_get, nat_lt}
use Rattle.std.proofs.lemmas.Bool.Decides.{nat_tests}
use Rattle.link_ring.specs.Ends.{EndView}
use Rattle.link_ring.specs.Places.{end_place}
use Rattle.node_ends.specs.Ends.{end_at, end_in, link_at}

past_all : (xs : List EndView) (i : ℕ) → length xs ≤ i → slice_get xs i ≡ None
past_all [] i past = refl
past_all (x ∷ xs) zero past = absurd (omega (arith, past))
past_all (x ∷ xs) (suc i) past = past_all xs i (omega (arith, past))

-- such an end isn't there
pub none_beyond : (links : List EndView) (count slot peer : ℕ) → length links ≡ count * 8 → count ≤ peer → link_at links (record { peer = peer; slot = slot; client = true }) ≡ None
none_beyond links count slot peer long far =
    go (nat_lt slot 4) (past_all links (end_place peer slot true) (rw long (omega (arith, far))))
  where
    go : (b : Bool) → slice_get links (end_place peer slot true) ≡ None → (if b then slice_get links (end_place peer slot true) else None) ≡ None
    go true none = none
    go false none = refl

pub shut_beyond : (links : List EndView) (count slot peer : ℕ) → length links ≡ count * 8 → count ≤ peer → (end_at links (record { peer = peer; slot = slot; client = true })).opened ≡ false
shut_beyond links count slot peer long far = ap (λ (o : Option EndView). (end_in o).opened) (none_beyond links count slot peer long far)

-- so an end that is open is that of a repository
pub open_among : (links : List EndView) (count slot peer : ℕ) → length links ≡ count * 8 → (end_at links (record { peer = peer; slot = slot; client = true })).opened ≡ true → peer < count
open_among links count slot peer long opened = go (nat_lt peer count) refl
  where
    go : (b : Bool) → nat_lt peer count ≡ b → peer < count
    go true low = grind (arith, nat_tests, low)
    go false high = absurd (let none : true ≡ false = sym opened ∙ shut_beyond links count slot peer long (grind (arith, nat_tests, high)) in cc)
