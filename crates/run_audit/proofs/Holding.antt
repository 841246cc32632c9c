-- What the holders of a key are after one of them changed.
use Rattle.std.proofs.Common.{◌≡◌, ℕ, zero, suc, ◌+◌, ◌<◌, Bool, true, false, List, ◌∷◌, [], length, set, take, Some, None, refl, sym, ap, subst, ◌∙◌, arith}
use Rattle.std.specs.Prelude.{◌==◌, ◌||◌, get_or, if◌then◌else◌, replicate, slice_get}
use Rattle.std.specs.List.{list_any}
use Rattle.std.proofs.lemmas.Bool.{eqb-false, eqb-true}
use Rattle.std.proofs.lemmas.List.{get_or-set_other, get_or-set_same, take_more}
use Rattle.std.proofs.lemmas.List.Folds.{list_any-append}
use Rattle.std.proofs.lemmas.Option.{get_or_from_slice_get, slice_get_within}
use Rattle.run_audit.specs.Holders.{holder_at, no_holder}
use Rattle.run_audit.specs.declared.holders.Holder.{Holder}

-- what stands at each place after one was set
pub set_at : (xs ys : List Holder) (i : ℕ) (h v : Holder) → slice_get xs i ≡ Some h → ys ≡ set xs i v → (r : ℕ) → holder_at ys r ≡ (if i == r then v else holder_at xs r)
set_at xs ys i h v there is r = ap (λ zs. holder_at zs r) is ∙ go (i == r) refl
  where
    go : (b : Bool) → (i == r) ≡ b → holder_at (set xs i v) r ≡ (if b then v else holder_at xs r)
    go true same = ap (holder_at (set xs i v)) (sym (eqb-true i r same)) ∙ get_or-set_same xs i v no_holder (slice_get_within xs i h there)
    go false other = get_or-set_other xs i r v no_holder (λ e. eqb-false i r other (sym e))

pub held : (xs ys : List Holder) (i : ℕ) (h : Holder) (copy : Bool) → slice_get xs i ≡ Some h → ys ≡ set xs i (record { copy = copy; claim = h.claim }) → (r : ℕ)
    → holder_at ys r ≡ record (holder_at xs r) { copy = if i == r then copy else (holder_at xs r).copy }
held xs ys i h copy there is r = set_at xs ys i h (record { copy = copy; claim = h.claim }) there is r ∙ go (i == r) refl
  where
    go : (b : Bool) → (i == r) ≡ b → (if b then record { copy = copy; claim = h.claim } else holder_at xs r) ≡ record (holder_at xs r) { copy = if b then copy else (holder_at xs r).copy }
    go true same =
        let here : holder_at xs r ≡ h = ap (holder_at xs) (sym (eqb-true i r same)) ∙ get_or_from_slice_get xs i h no_holder there in
        (λ j. record { copy = copy; claim = (sym here j).claim })
    go false other = refl

pub claimed : (xs ys : List Holder) (i : ℕ) (h : Holder) → slice_get xs i ≡ Some h → ys ≡ set xs i (record { copy = h.copy; claim = true }) → (r : ℕ)
    → holder_at ys r ≡ record (holder_at xs r) { claim = (holder_at xs r).claim || (i == r) }
claimed xs ys i h there is r = set_at xs ys i h (record { copy = h.copy; claim = true }) there is r ∙ go (i == r) refl
  where
    or_yes : (b : Bool) → true ≡ (b || true)
    or_yes true = refl
    or_yes false = refl

    or_no : (b : Bool) → b ≡ (b || false)
    or_no true = refl
    or_no false = refl

    go : (b : Bool) → (i == r) ≡ b → (if b then record { copy = h.copy; claim = true } else holder_at xs r) ≡ record (holder_at xs r) { claim = (holder_at xs r).claim || b }
    go true same =
        let here : holder_at xs r ≡ h = ap (holder_at xs) (sym (eqb-true i r same)) ∙ get_or_from_slice_get xs i h no_holder there in
        (λ j. record { copy = (sym here j).copy; claim = or_yes (holder_at xs r).claim j })
    go false other = (λ j. record { copy = (holder_at xs r).copy; claim = or_no (holder_at xs r).claim j })

-- one that isn't there is none of these
get_past : {X : Type 0} (xs : List X) (i : ℕ) → slice_get xs i ≡ None → i < length xs → ⊥
get_past [] i none lt = omega (arith, lt)
get_past (x ∷ xs) zero none lt = cc
get_past (x ∷ xs) (suc i) none lt = get_past xs i none (omega (arith, lt))

pub apart : (xs : List Holder) (i r : ℕ) → slice_get xs i ≡ None → r < length xs → (i == r) ≡ false
apart xs i r none lt = go (i == r) refl
  where
    go : (b : Bool) → (i == r) ≡ b → b ≡ false
    go false is = refl
    go true is = absurd (get_past xs i none (subst (λ n. n < length xs) (sym (eqb-true i r is)) lt))

pub held_none : (xs : List Holder) (i r : ℕ) (copy : Bool) → slice_get xs i ≡ None → r < length xs → holder_at xs r ≡ record (holder_at xs r) { copy = if i == r then copy else (holder_at xs r).copy }
held_none xs i r copy none lt = (λ j. record { copy = if sym (apart xs i r none lt) j then copy else (holder_at xs r).copy; claim = (holder_at xs r).claim })

pub claimed_none : (xs : List Holder) (i r : ℕ) → slice_get xs i ≡ None → r < length xs → holder_at xs r ≡ record (holder_at xs r) { claim = (holder_at xs r).claim || (i == r) }
claimed_none xs i r none lt = (λ j. record { copy = (holder_at xs r).copy; claim = (or_no (holder_at xs r).claim ∙ ap (λ b. (holder_at xs r).claim || b) (sym (apart xs i r none lt))) j })
  where
    or_no : (b : Bool) → b ≡ (b || false)
    or_no true = refl
    or_no false = refl

-- the claims of one more
pub claims_more : (claims : List ℕ) (i r : ℕ) (was mid now : Holder) → i < length claims → mid ≡ record was { claim = was.claim || list_any (λ c. c == r) (take i claims) }
    → now ≡ record mid { claim = mid.claim || (get_or claims i 0 == r) } → now ≡ record was { claim = was.claim || list_any (λ c. c == r) (take (i + 1) claims) }
claims_more claims i r was mid now lt first last =
    last ∙ (λ j. record { copy = (first j).copy; claim = (first j).claim || (get_or claims i 0 == r) })
    ∙ (λ j. record { copy = was.copy; claim = (regroup was.claim (list_any (λ c. c == r) (take i claims)) (get_or claims i 0 == r) ∙ ap (λ b. was.claim || b) (sym more)) j })
  where
    regroup : (a b c : Bool) → ((a || b) || c) ≡ (a || (b || (c || false)))
    regroup true b c = refl
    regroup false true c = refl
    regroup false false true = refl
    regroup false false false = refl

    more : list_any (λ c. c == r) (take (i + 1) claims) ≡ (list_any (λ c. c == r) (take i claims) || ((get_or claims i 0 == r) || false))
    more = ap (list_any (λ c. c == r)) (take_more claims i 0 lt) ∙ list_any-append (λ c. c == r) (take i claims) (get_or claims i 0 ∷ [])

-- places past the end, and before it, have none
pub none_at : (n r : ℕ) → holder_at (replicate n no_holder) r ≡ no_holder
none_at zero r = refl
none_at (suc n) zero = refl
none_at (suc n) (suc r) = none_at n r

-- no claim leaves what there was
pub no_claims : (h : Holder) → h ≡ record h { claim = h.claim || false }
no_claims h i = record { copy = h.copy; claim = or_no h.claim i }
  where
    or_no : (b : Bool) → b ≡ (b || false)
    or_no true = refl
    or_no false = refl
