-- Lists by their places: what holds of each element and of each two, where one changes.
use Rattle.std.proofs.Common.{◌≡◌, ◌≢◌, ◌⊎◌, inl, inr, ℕ, zero, suc, ◌<◌, Bool, true, false, List, [], ◌∷◌, Option, Some, None, map, refl, sym, ap, subst, ◌∙◌, arith, true≢false}
use Rattle.std.specs.Prelude.{is_some, slice_get, ◌||◌, length}
use Rattle.std.specs.List.{find, list_any}
use Rattle.std.proofs.Math.ListN.{set}
use Rattle.std.proofs.lemmas.Map.Keys.{any_passes_from_place}
use Rattle.std.specs.Option.{option_or}
use Rattle.annex_base.specs.OptionSteps.{first_some}
use Rattle.node_sessions.specs.Sessions.{Every, EveryTwo}

pub set_here : {X : Type 0} (xs : List X) (i : ℕ) (x : X) → i < length xs → slice_get (set xs i x) i ≡ Some x
set_here [] i x within = absurd (omega (arith, within))
set_here (y ∷ ys) zero x within = refl
set_here (y ∷ ys) (suc i) x within = set_here ys i x (omega arith)

-- an element of a list where one was put is that one, or stands elsewhere
pub set_cases : {X : Type 0} (xs : List X) (i k : ℕ) (x y : X) → slice_get (set xs i x) k ≡ Some y → ((k ≡ i) × (y ≡ x)) ⊎ ((k ≢ i) × (slice_get xs k ≡ Some y))
set_cases [] i k x y at = absurd cc
set_cases (z ∷ zs) zero zero x y at = inl (refl, cc)
set_cases (z ∷ zs) zero (suc k) x y at = inr ((λ e. omega arith), at)
set_cases (z ∷ zs) (suc i) zero x y at = inr ((λ e. omega arith), at)
set_cases (z ∷ zs) (suc i) (suc k) x y at = elim (set_cases zs i k x y at) [ inl h ↦ inl (ap suc h.0, h.1) | inr h ↦ inr ((λ e. h.0 (omega arith)), h.1) ]

pub Every-set : {X : Type 0} (P : X → Type 0) (xs : List X) (i : ℕ) (x : X) → P x → ((k : ℕ) (y : X) → k ≢ i → slice_get xs k ≡ Some y → P y) → Every P (set xs i x)
Every-set P xs i x here else = λ k y at. elim (set_cases xs i k x y at) [ inl h ↦ subst P (sym h.1) here | inr h ↦ else k y h.0 h.1 ]

pub EveryTwo-set : {X : Type 0} (R : X → X → Type 0) (xs : List X) (i : ℕ) (x : X) → EveryTwo R xs → ((k : ℕ) (y : X) → k ≢ i → slice_get xs k ≡ Some y → R x y × R y x) → EveryTwo R (set xs i x)
EveryTwo-set {X} R xs i x all here = λ j k y z ne aty atz. go j k y z ne (set_cases xs i j x y aty) (set_cases xs i k x z atz)
  where
    go : (j k : ℕ) (y z : X) → j ≢ k → ((j ≡ i) × (y ≡ x)) ⊎ ((j ≢ i) × (slice_get xs j ≡ Some y)) → ((k ≡ i) × (z ≡ x)) ⊎ ((k ≢ i) × (slice_get xs k ≡ Some z)) → R y z
    go j k y z ne (inl a) (inl b) = absurd (ne (a.0 ∙ sym b.0))
    go j k y z ne (inl a) (inr b) = subst (λ (w : X). R w z) (sym a.1) (here k z b.0 b.1).0
    go j k y z ne (inr a) (inl b) = subst (λ (w : X). R y w) (sym b.1) (here j y a.0 a.1).1
    go j k y z ne (inr a) (inr b) = all j k y z ne a.1 b.1

-- where the change keeps what is read of each, it keeps the list of it
pub map_set : {X Y : Type 0} (f : X → Y) (xs : List X) (i : ℕ) (was now : X) → slice_get xs i ≡ Some was → f now ≡ f was → map f (set xs i now) ≡ map f xs
map_set f [] i was now at same = refl
map_set {X} {Y} f (y ∷ ys) zero was now at same =
    let e : was ≡ y = cc in ap (λ (w : Y). w ∷ map f ys) (same ∙ ap f e)
map_set {X} {Y} f (y ∷ ys) (suc i) was now at same = ap (λ (ws : List Y). f y ∷ ws) (map_set f ys i was now at same)

-- ---- tests

pub none_any : {X : Type 0} (p : X → Bool) (xs : List X) → list_any p xs ≡ false → Every (λ x. p x ≡ false) xs
none_any p xs none = λ i x at. go i x at (p x) refl
  where
    go : (i : ℕ) (x : _) → slice_get xs i ≡ Some x → (b : Bool) → p x ≡ b → b ≡ false
    go i x at true is = sym (any_passes_from_place p xs i x at is) ∙ none
    go i x at false is = refl

pub any_none : {X : Type 0} (p : X → Bool) (xs : List X) → Every (λ x. p x ≡ false) xs → list_any p xs ≡ false
any_none p [] none = refl
any_none p (x ∷ xs) none = rw (none zero x refl) (any_none p xs (λ i y at. none (suc i) y at))

-- the test tells no more of the one than it did
pub any_set_same : {X : Type 0} (p : X → Bool) (xs : List X) (i : ℕ) (was now : X) → slice_get xs i ≡ Some was → p now ≡ p was → list_any p (set xs i now) ≡ list_any p xs
any_set_same p [] i was now at same = refl
any_set_same p (y ∷ ys) zero was now at same =
    let e : was ≡ y = cc in ap (λ (b : Bool). b || list_any p ys) (same ∙ ap p e)
any_set_same p (y ∷ ys) (suc i) was now at same = ap (λ (b : Bool). p y || b) (any_set_same p ys i was now at same)

-- the one that alone passes is the first that does
pub find_one : {X : Type 0} (p : X → Bool) (xs : List X) (i : ℕ) (x : X) → slice_get xs i ≡ Some x → p x ≡ true → ((k : ℕ) (y : X) → k ≢ i → slice_get xs k ≡ Some y → p y ≡ false) → find p xs ≡ Some x
find_one p [] i x at is else = absurd cc
find_one {X} p (y ∷ ys) zero x at is else =
    let e : y ≡ x = cc in rw (ap p e ∙ is) (ap Some e)
find_one {X} p (y ∷ ys) (suc i) x at is else =
    rw (else zero y (λ e. omega arith) refl) (find_one p ys i x at is (λ k w ne atk. else (suc k) w (λ e. ne (omega arith)) atk))

-- ---- the first that gives something

pub first_none : {X Y Z : Type 0} (f : Y → Option Z) (g : X → Y) (xs : List X) → Every (λ x. f (g x) ≡ None) xs → first_some f (map g xs) ≡ None
first_none f g [] none = refl
first_none f g (x ∷ xs) none = rw (none zero x refl) (first_none f g xs (λ i y at. none (suc i) y at))

-- where one gives something, the first does
pub first_is : {X Y Z : Type 0} (f : Y → Option Z) (g : X → Y) (xs : List X) (i : ℕ) (x : X) → slice_get xs i ≡ Some x → is_some (f (g x)) ≡ true → is_some (first_some f (map g xs)) ≡ true
first_is f g [] i x at here = absurd cc
first_is {X} {Y} {Z} f g (y ∷ ys) zero x at here =
    let e : y ≡ x = cc in go (f (g y)) (ap (λ (w : X). is_some (f (g w))) e ∙ here)
  where
    go : (o : Option Z) → is_some o ≡ true → is_some (option_or o (first_some f (map g ys))) ≡ true
    go None h = absurd (true≢false (sym h))
    go (Some z) h = refl
first_is {X} {Y} {Z} f g (y ∷ ys) (suc i) x at here = go (f (g y)) (first_is f g ys i x at here)
  where
    go : (o : Option Z) → is_some (first_some f (map g ys)) ≡ true → is_some (option_or o (first_some f (map g ys))) ≡ true
    go None h = h
    go (Some z) h = refl

pub first_at : {X Y Z : Type 0} (f : Y → Option Z) (g : X → Y) (xs : List X) (i : ℕ) (x : X) (z : Z) → slice_get xs i ≡ Some x → ((k : ℕ) (y : X) → k < i → slice_get xs k ≡ Some y → f (g y) ≡ None)
    → f (g x) ≡ Some z → first_some f (map g xs) ≡ Some z
first_at f g [] i x z at before here = absurd cc
first_at {X} {Y} {Z} f g (y ∷ ys) zero x z at before here =
    let e : y ≡ x = cc in rw (ap (λ (w : X). f (g w)) e ∙ here) refl
first_at {X} {Y} {Z} f g (y ∷ ys) (suc i) x z at before here =
    rw (before zero y (omega arith) refl) (first_at f g ys i x z at (λ k w less atk. before (suc k) w (omega arith) atk) here)

-- where one gives something and none before it does, it is the first
pub first_here : {X Y Z : Type 0} (f : Y → Option Z) (g : X → Y) (xs : List X) (i : ℕ) (x : X) → slice_get xs i ≡ Some x → ((k : ℕ) (y : X) → k < i → slice_get xs k ≡ Some y → f (g y) ≡ None)
    → is_some (f (g x)) ≡ true → first_some f (map g xs) ≡ f (g x)
first_here {X} {Y} {Z} f g xs i x at before some = go (f (g x)) refl some
  where
    go : (o : Option Z) → f (g x) ≡ o → is_some o ≡ true → first_some f (map g xs) ≡ o
    go None is none = absurd (true≢false (sym none))
    go (Some z) is there = first_at f g xs i x z at before is
