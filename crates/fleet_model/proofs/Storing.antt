-- The bytes that the driver says a repository has, after bytes came or went.
use Rattle.std.proofs.Common.{◌≡◌, ◌≢◌, ℕ, Bool, true, false, List, [], ◌∷◌, Option, Some, None, refl, sym, ap, ◌∙◌, subst, arith}
use Rattle.std.specs.Prelude.{◌==◌, ◌&&◌, bytes_eq, find, if◌then◌else◌}
use Rattle.std.specs.Option.{option_map}
use Rattle.std.proofs.lemmas.Bool.Decides.{nat_tests}
use Rattle.annex_base.proofs.Conditions.{bytes_eq-true, eqb_refl}
use Rattle.driver_model.specs.Stores.{StoredBytes, bytes_in, is_stored, stored_bytes, with_bytes, without}

-- ---- which one is found

-- a stored one of this key is none of another
other_key : (r : ℕ) (key k : List ℕ) (x : StoredBytes) → bytes_eq key k ≡ false → is_stored r key x ≡ true → is_stored r k x ≡ false
other_key r key k x apart is = go (x.repo == r) refl (bytes_eq x.key key) refl
  where
    go : (a : Bool) → (x.repo == r) ≡ a → (b : Bool) → bytes_eq x.key key ≡ b → ((x.repo == r) && bytes_eq x.key k) ≡ false
    go false e b f = rw e refl
    go true e true f = rw e (subst (λ (y : List ℕ). bytes_eq y k ≡ false) (sym (bytes_eq-true x.key key f)) apart)
    go true e false f = absurd (no e f is)
      where
        no : (x.repo == r) ≡ true → bytes_eq x.key key ≡ false → ((x.repo == r) && bytes_eq x.key key) ≡ true → ⊥
        no e f is = cc

same_key : (r : ℕ) (key k : List ℕ) (x : StoredBytes) → bytes_eq key k ≡ true → is_stored r k x ≡ is_stored r key x
same_key r key k x same = ap (λ (y : List ℕ). is_stored r y x) (sym (bytes_eq-true key k same))

found_without : (xs : List StoredBytes) (r : ℕ) (key k : List ℕ) (b : Bool) → bytes_eq key k ≡ b → find (is_stored r k) (without xs r key) ≡ (if b then None else find (is_stored r k) xs)
found_without [] r key k true e = refl
found_without [] r key k false e = refl
found_without (x ∷ xs) r key k b e = go b e (is_stored r key x) refl (found_without xs r key k)
  where
    go : (b : Bool) → bytes_eq key k ≡ b → (c : Bool) → is_stored r key x ≡ c → ((b : Bool) → bytes_eq key k ≡ b → find (is_stored r k) (without xs r key) ≡ (if b then None else find (is_stored r k) xs))
        → find (is_stored r k) (without (x ∷ xs) r key) ≡ (if b then None else find (is_stored r k) (x ∷ xs))
    go true e true f rest = rw f (rest true e)
    go false e true f rest = rw f (rw (other_key r key k x e f) (rest false e))
    go true e false f rest = rw f (rw (same_key r key k x e ∙ f) (rest true e))
    go false e false f rest = rw f (either (is_stored r k x) refl)
      where
        either : (d : Bool) → is_stored r k x ≡ d → find (is_stored r k) (x ∷ without xs r key) ≡ find (is_stored r k) (x ∷ xs)
        either true i = rw i refl
        either false i = rw i (rest false e)

-- those of another repository
other_repo : (r q : ℕ) (key k : List ℕ) (x : StoredBytes) → q ≢ r → is_stored r key x ≡ true → is_stored q k x ≡ false
other_repo r q key k x apart is = go (x.repo == r) refl
  where
    differ : (x.repo == r) ≡ true → (x.repo == q) ≡ false
    differ e = grind (arith, nat_tests)

    go : (a : Bool) → (x.repo == r) ≡ a → ((x.repo == q) && bytes_eq x.key k) ≡ false
    go true e = rw (differ e) refl
    go false e = absurd (no e is)
      where
        no : (x.repo == r) ≡ false → ((x.repo == r) && bytes_eq x.key key) ≡ true → ⊥
        no e is = cc

others_found : (xs : List StoredBytes) (r q : ℕ) (key k : List ℕ) → q ≢ r → find (is_stored q k) (without xs r key) ≡ find (is_stored q k) xs
others_found [] r q key k apart = refl
others_found (x ∷ xs) r q key k apart = go (is_stored r key x) refl (others_found xs r q key k apart)
  where
    go : (c : Bool) → is_stored r key x ≡ c → find (is_stored q k) (without xs r key) ≡ find (is_stored q k) xs → find (is_stored q k) (without (x ∷ xs) r key) ≡ find (is_stored q k) (x ∷ xs)
    go true f rest = rw f (rw (other_repo r q key k x apart f) rest)
    go false f rest = rw f (either (is_stored q k x) refl)
      where
        either : (d : Bool) → is_stored q k x ≡ d → find (is_stored q k) (x ∷ without xs r key) ≡ find (is_stored q k) (x ∷ xs)
        either true i = rw i refl
        either false i = rw i rest

-- ---- with bytes

found_with : (xs : List StoredBytes) (r : ℕ) (key bytes k : List ℕ) (b : Bool) → bytes_eq key k ≡ b
    → find (is_stored r k) (with_bytes xs r key bytes) ≡ (if b then Some (record { repo = r; key = key; bytes = bytes }) else find (is_stored r k) xs)
found_with xs r key bytes k true e = rw (eqb_refl r) (rw e refl)
found_with xs r key bytes k false e = rw (eqb_refl r) (rw e (found_without xs r key k false e))

others_with : (xs : List StoredBytes) (r q : ℕ) (key bytes k : List ℕ) → q ≢ r → find (is_stored q k) (with_bytes xs r key bytes) ≡ find (is_stored q k) xs
others_with xs r q key bytes k apart = rw (differ apart) (others_found xs r q key k apart)
  where
    differ : q ≢ r → (r == q) ≡ false
    differ apart = grind (arith, nat_tests)

-- ---- as contents and parts

-- what r has of a key, if anything
abbrev pub kept_at : List StoredBytes → ℕ → List ℕ → Option (List ℕ)
kept_at xs r k = option_map (λ (x : StoredBytes). x.bytes) (find (is_stored r k) xs)

pub kept_with : (xs : List StoredBytes) (r : ℕ) (key bytes k : List ℕ) → kept_at (with_bytes xs r key bytes) r k ≡ (if bytes_eq key k then Some bytes else kept_at xs r k)
kept_with xs r key bytes k = go (bytes_eq key k) refl
  where
    go : (b : Bool) → bytes_eq key k ≡ b → kept_at (with_bytes xs r key bytes) r k ≡ (if b then Some bytes else kept_at xs r k)
    go true e = ap (option_map (λ (x : StoredBytes). x.bytes)) (found_with xs r key bytes k true e)
    go false e = ap (option_map (λ (x : StoredBytes). x.bytes)) (found_with xs r key bytes k false e)

pub kept_without : (xs : List StoredBytes) (r : ℕ) (key k : List ℕ) → kept_at (without xs r key) r k ≡ (if bytes_eq key k then None else kept_at xs r k)
kept_without xs r key k = go (bytes_eq key k) refl
  where
    go : (b : Bool) → bytes_eq key k ≡ b → kept_at (without xs r key) r k ≡ (if b then None else kept_at xs r k)
    go true e = ap (option_map (λ (x : StoredBytes). x.bytes)) (found_without xs r key k true e)
    go false e = ap (option_map (λ (x : StoredBytes). x.bytes)) (found_without xs r key k false e)

pub stored_with : (xs : List StoredBytes) (r : ℕ) (key bytes k : List ℕ) → stored_bytes (with_bytes xs r key bytes) r k ≡ (if bytes_eq key k then bytes else stored_bytes xs r k)
stored_with xs r key bytes k = go (bytes_eq key k) refl
  where
    go : (b : Bool) → bytes_eq key k ≡ b → stored_bytes (with_bytes xs r key bytes) r k ≡ (if b then bytes else stored_bytes xs r k)
    go true e = ap bytes_in (found_with xs r key bytes k true e)
    go false e = ap bytes_in (found_with xs r key bytes k false e)

pub stored_without : (xs : List StoredBytes) (r : ℕ) (key k : List ℕ) → stored_bytes (without xs r key) r k ≡ (if bytes_eq key k then [] else stored_bytes xs r k)
stored_without xs r key k = go (bytes_eq key k) refl
  where
    go : (b : Bool) → bytes_eq key k ≡ b → stored_bytes (without xs r key) r k ≡ (if b then [] else stored_bytes xs r k)
    go true e = ap bytes_in (found_without xs r key k true e)
    go false e = ap bytes_in (found_without xs r key k false e)

-- what another has stays
pub kept_by_others : (xs : List StoredBytes) (r q : ℕ) (key bytes k : List ℕ) → q ≢ r → kept_at (with_bytes xs r key bytes) q k ≡ kept_at xs q k
kept_by_others xs r q key bytes k apart = ap (option_map (λ (x : StoredBytes). x.bytes)) (others_with xs r q key bytes k apart)

pub kept_by_others_without : (xs : List StoredBytes) (r q : ℕ) (key k : List ℕ) → q ≢ r → kept_at (without xs r key) q k ≡ kept_at xs q k
kept_by_others_without xs r q key k apart = ap (option_map (λ (x : StoredBytes). x.bytes)) (others_found xs r q key k apart)

pub stored_by_others : (xs : List StoredBytes) (r q : ℕ) (key bytes k : List ℕ) → q ≢ r → stored_bytes (with_bytes xs r key bytes) q k ≡ stored_bytes xs q k
stored_by_others xs r q key bytes k apart = ap bytes_in (others_with xs r q key bytes k apart)

pub stored_by_others_without : (xs : List StoredBytes) (r q : ℕ) (key k : List ℕ) → q ≢ r → stored_bytes (without xs r key) q k ≡ stored_bytes xs q k
stored_by_others_without xs r q key k apart = ap bytes_in (others_found xs r q key k apart)
