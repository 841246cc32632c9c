-- One of the ends is set.
use Rattle.std.proofs.Common.{◌≡◌, ◌<◌, arith, inl, inr, ℕ, zero, suc, true, List, [], ◌∷◌, Option, Some, None, slice_set, refl, sym, ap, subst, ◌∙◌}
use Rattle.std.specs.Prelude.{nat_lt, slice_get, replicate}
use Rattle.std.proofs.lemmas.Bool.{and_from, and_parts, cases_Bool}
use Rattle.std.proofs.lemmas.Bool.Decides.{nat_tests}
use Rattle.std.proofs.lemmas.Option.{same_Some, none-some}
use Rattle.link_ring.specs.Ends.{EndView, StaysPaired, fresh}
use Rattle.link_ring.specs.Places.{end_place}
use Rattle.node_model.specs.Ends.{EndName}
use Rattle.node_ends.specs.Ends.{link_at}
use Rattle.node_ends.specs.Invariant.{may_close, each_may_close}
use Rattle.node_ends.specs.Joined.{StaysSo, StayPaired}

-- ---- each may close

pub close_set : (xs : List EndView) (i : ℕ) (w : EndView) → each_may_close xs ≡ true → may_close w ≡ true → each_may_close (slice_set xs i w) ≡ true
close_set [] i w all one = refl
close_set (x ∷ xs) zero w all one = and_from (may_close w) (each_may_close xs) one (and_parts (may_close x) (each_may_close xs) all).1
close_set (x ∷ xs) (suc i) w all one =
    let parts = and_parts (may_close x) (each_may_close xs) all in
    and_from (may_close x) (each_may_close (slice_set xs i w)) parts.0 (close_set xs i w parts.1 one)

pub close_at : (xs : List EndView) (i : ℕ) (v : EndView) → each_may_close xs ≡ true → slice_get xs i ≡ Some v → may_close v ≡ true
close_at [] i v all at = absurd (none-some v at)
close_at (x ∷ xs) zero v all at = subst (λ (y : EndView). may_close y ≡ true) (same_Some x v at) (and_parts (may_close x) (each_may_close xs) all).0
close_at (x ∷ xs) (suc i) v all at = close_at xs i v (and_parts (may_close x) (each_may_close xs) all).1 at

pub close_fresh : (n : ℕ) → each_may_close (replicate n fresh) ≡ true
close_fresh zero = refl
close_fresh (suc n) = close_fresh n

-- ---- the end of a name

pub link_is : (xs : List EndView) (x : EndName) (i : ℕ) (v : EndView) → x.slot < 4 → i ≡ end_place x.peer x.slot x.client → slice_get xs i ≡ Some v → link_at xs x ≡ Some v
link_is xs x i v low place at =
    let within : nat_lt x.slot 4 ≡ true = grind (arith, nat_tests) in
    rw within (ap (λ (n : ℕ). slice_get xs n) (sym place) ∙ at)

-- ---- what is paired stays so

stays_same : (o : Option EndView) → StaysSo o o
stays_same None = tt
stays_same (Some v) = λ other pair. pair

pub stays_set : (xs : List EndView) (i : ℕ) (v w : EndView) → slice_get xs i ≡ Some v → StaysPaired v w → (j : ℕ) → StaysSo (slice_get xs j) (slice_get (slice_set xs i w) j)
stays_set [] i v w at keeps j = absurd (none-some v at)
stays_set (x ∷ xs) zero v w at keeps zero = subst (λ (y : EndView). StaysPaired y w) (sym (same_Some x v at)) keeps
stays_set (x ∷ xs) zero v w at keeps (suc j) = stays_same (slice_get xs j)
stays_set (x ∷ xs) (suc i) v w at keeps zero = λ other pair. pair
stays_set (x ∷ xs) (suc i) v w at keeps (suc j) = stays_set xs i v w at keeps j

pub stay_set : (xs : List EndView) (i : ℕ) (v w : EndView) → slice_get xs i ≡ Some v → StaysPaired v w → StayPaired xs (slice_set xs i w)
stay_set xs i v w at keeps a = elim (cases_Bool (nat_lt a.slot 4)) [
  | inl is ↦ rw is (stays_set xs i v w at keeps (end_place a.peer a.slot a.client))
  | inr other ↦ rw other tt
]
