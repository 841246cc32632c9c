-- The connections of which a repository is the server, one by one.
use Rattle.std.proofs.Common.{◌≡◌, ℕ, zero, suc, ◌+◌, ◌≤◌, ◌<◌, Bool, true, false, not, ◌&&◌, ◌==◌, cond, List, [], ◌∷◌, map, reverse, length, refl, sym, ap, ◌∙◌, arith}
use Rattle.std.specs.Prelude.{◌||◌, filter, flat_map, nat_lt}
use Rattle.std.specs.List.{list_any, range_with_len}
use Rattle.std.proofs.lemmas.Bool.{eqb-false, eqb-true, ltb-false, ltb-true, ne_eqb}
use Rattle.std.proofs.lemmas.Bool.Decides.{nat_tests}
use Rattle.std.proofs.lemmas.List.{reverse-append}
use Rattle.std.proofs.lemmas.List.Folds.{list_any-append}
use Rattle.annex_base.proofs.Conditions.{eqb_refl}
use Rattle.node_model.specs.SetUp.{SetUp, others, served_connections, slots}
use Rattle.step_judging.specs.Told.{is_served}

-- ---- tests of some element

pub any_map : {X Y : Type 0} (p : Y → Bool) (f : X → Y) (xs : List X) → list_any p (map f xs) ≡ list_any (λ x. p (f x)) xs
any_map p f [] = refl
any_map p f (x ∷ xs) = ap (λ b. p (f x) || b) (any_map p f xs)

or_turned : (b c : Bool) → (c || (b || false)) ≡ (b || c)
or_turned true true = refl
or_turned true false = refl
or_turned false true = refl
or_turned false false = refl

pub any_reverse : {X : Type 0} (p : X → Bool) (xs : List X) → list_any p (reverse xs) ≡ list_any p xs
any_reverse p [] = refl
any_reverse p (x ∷ xs) =
    ap (list_any p) (reverse-append (x ∷ []) xs) ∙ list_any-append p (reverse xs) (x ∷ []) ∙ ap (λ b. b || (p x || false)) (any_reverse p xs) ∙ or_turned (p x) (list_any p xs)

any_flat : {X Y : Type 0} (p : Y → Bool) (f : X → List Y) (xs : List X) → list_any p (flat_map f xs) ≡ list_any (λ x. list_any p (f x)) xs
any_flat p f [] = refl
any_flat p f (x ∷ xs) = list_any-append p (f x) (flat_map f xs) ∙ ap (λ b. list_any p (f x) || b) (any_flat p f xs)

any_filter : (p q : ℕ → Bool) (xs : List ℕ) → list_any p (filter q xs) ≡ list_any (λ x. q x && p x) xs
any_filter p q [] = refl
any_filter p q (x ∷ xs) = go (q x) (any_filter p q xs)
  where
    go : (b : Bool) → list_any p (filter q xs) ≡ list_any (λ y. q y && p y) xs → list_any p (cond b (x ∷ filter q xs) (filter q xs)) ≡ ((b && p x) || list_any (λ y. q y && p y) xs)
    go true e = ap (λ c. p x || c) e
    go false e = e

pub none_within : (p : ℕ → Bool) (a n : ℕ) → ((x : ℕ) → x < a + n → p x ≡ false) → list_any p (range_with_len a n) ≡ false
none_within p a zero none = refl
none_within p a (suc n) none = go (p a) (none a (omega arith)) (none_within p (a + 1) n (λ x low. none x (omega arith)))
  where
    go : (b : Bool) → b ≡ false → list_any p (range_with_len (a + 1) n) ≡ false → (b || list_any p (range_with_len (a + 1) n)) ≡ false
    go true e f = e
    go false e f = f

pub some_within : (p : ℕ → Bool) (a n x : ℕ) → a ≤ x → x < a + n → p x ≡ true → list_any p (range_with_len a n) ≡ true
some_within p a zero x from low passes = absurd (omega arith)
some_within p a (suc n) x from low passes = go (x == a) refl (λ other. some_within p (a + 1) n x (omega (arith, other)) (omega arith) passes)
  where
    or_true : (b c : Bool) → c ≡ true → (b || c) ≡ true
    or_true true c e = refl
    or_true false c e = e

    go : (b : Bool) → (x == a) ≡ b → (¬ (x ≡ a) → list_any p (range_with_len (a + 1) n) ≡ true) → (p a || list_any p (range_with_len (a + 1) n)) ≡ true
    go true e later = let here : p a ≡ true = ap p (sym (eqb-true x a e)) ∙ passes in ap (λ (b : Bool). b || list_any p (range_with_len (a + 1) n)) here
    go false e later = or_true (p a) (list_any p (range_with_len (a + 1) n)) (later (eqb-false x a e))

-- ---- the connections

-- a session with some other repository
pub any_served : (s : SetUp) (p : ℕ → ℕ → Bool)
    → list_any (λ (c : ℕ × ℕ). p c.0 c.1) (served_connections s) ≡ list_any (λ peer. not (peer == s.number) && list_any (λ slot. p peer slot) slots) (range_with_len 0 (length s.repos))
any_served s p =
    any_flat (λ (c : ℕ × ℕ). p c.0 c.1) (λ peer. map (λ slot. (peer, slot)) slots) (others s)
    ∙ any_filter (λ peer. list_any (λ slot. p peer slot) slots) (λ peer. not (peer == s.number)) (range_with_len 0 (length s.repos))

four : (q : ℕ) → ((0 == q) || ((1 == q) || ((2 == q) || ((3 == q) || false)))) ≡ nat_lt q 4
four q = grind (arith, nat_tests)

and_false : (b : Bool) → (b && false) ≡ false
and_false true = refl
and_false false = refl

and_grouped : (a b c : Bool) → (a && (b && c)) ≡ ((a && b) && c)
and_grouped true b c = refl
and_grouped false b c = refl

-- the one number that may pass is among the first so many, and passes
one_within : (h : ℕ → Bool) (p count : ℕ) → ((x : ℕ) → (x ≡ p → ⊥) → h x ≡ false) → list_any h (range_with_len 0 count) ≡ (nat_lt p count && h p)
one_within h p count other = go (nat_lt p count) (h p) refl refl
  where
    none : (x : ℕ) → h p ≡ false → (b : Bool) → (x == p) ≡ b → h x ≡ false
    none x never true e = ap h (eqb-true x p e) ∙ never
    none x never false e = other x (eqb-false x p e)

    go : (b c : Bool) → nat_lt p count ≡ b → h p ≡ c → list_any h (range_with_len 0 count) ≡ (b && c)
    go true true low passes = let less : p < count = ltb-true p count low in some_within h 0 count p (omega arith) (omega arith) passes
    go true false low never = none_within h 0 count (λ x less. none x never (x == p) refl)
    go false c high e = let great : count ≤ p = ltb-false p count high in none_within h 0 count (λ x less. other x (λ same. absurd (omega arith)))

at : ℕ → ℕ → ℕ → ℕ → Bool
at n p q peer = not (peer == n) && list_any (λ slot. (peer == p) && (slot == q)) slots

at_self : (n p q : ℕ) → at n p q p ≡ (not (p == n) && nat_lt q 4)
unfolding at
at_self n p q =
    ap (λ (b : Bool). not (p == n) && ((b && (0 == q)) || ((b && (1 == q)) || ((b && (2 == q)) || ((b && (3 == q)) || false))))) (eqb_refl p)
    ∙ ap (λ (b : Bool). not (p == n) && b) (four q)

at_other : (n p q x : ℕ) → (x ≡ p → ⊥) → at n p q x ≡ false
unfolding at
at_other n p q x other =
    ap (λ (b : Bool). not (x == n) && ((b && (0 == q)) || ((b && (1 == q)) || ((b && (2 == q)) || ((b && (3 == q)) || false))))) (ne_eqb x p other)
    ∙ and_false (not (x == n))

pub served_so : (s : SetUp) (p q : ℕ) → is_served s (p, q) ≡ (nat_lt p (length s.repos) && not (p == s.number) && nat_lt q 4)
unfolding at
served_so s p q =
    any_served s (λ peer slot. (peer == p) && (slot == q))
    ∙ one_within (at s.number p q) p (length s.repos) (at_other s.number p q)
    ∙ ap (λ (b : Bool). nat_lt p (length s.repos) && b) (at_self s.number p q)
    ∙ and_grouped (nat_lt p (length s.repos)) (not (p == s.number)) (nat_lt q 4)
