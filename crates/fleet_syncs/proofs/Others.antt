-- Steps over the repositories but one, in order of number.
use Rattle.std.proofs.Common.{◌≡◌, ◌≢◌, ℕ, zero, suc, ◌+◌, ◌<◌, Bool, List, [], ◌∷◌, ◌++◌, length, refl, sym, ap, ◌∙◌, subst, arith}
use Rattle.std.specs.Prelude.{◌==◌, if◌then◌else◌, not}
use Rattle.std.specs.List.{range_with_len}
use Rattle.std.proofs.lemmas.List.Elements.{filter-append}
use Rattle.annex_base.proofs.Conditions.{eqb_other, eqb_refl}
use Rattle.annex_base.proofs.Numbers.{range_more}
use Rattle.run_data.specs.declared.run.Run.{Run}
use Rattle.driver_model.specs.Driver.{Driver, DriverInput}
use Rattle.driver_model.specs.Sound.{OnlyAdds}
use Rattle.driver_model.specs.ScriptSteps.{merges}
use Rattle.driver_model.specs.Syncs.{each_merges, merges_each, numbers_but}
use Rattle.fleet_entries.specs.Stored.{StoreView}
use Rattle.fleet_entries.specs.Fleets.{FleetView}
use Rattle.fleet_entries.specs.AtDriver.{GoesOn, IsAtDriver}
use Rattle.fleet_entries.proofs.Ending.{Ends, LaterLaw}
use Rattle.fleet_syncs.specs.Others.{others_among}
use Rattle.fleet_syncs.proofs.Walks.{IsWalk, Walk, walk_ends, walks_on}

-- ---- the merges of a sharing

merges_join : (r : ℕ) (xs ys : List ℕ) (d : Driver) → merges_each r (xs ++ ys) d ≡ merges_each r ys (merges_each r xs d)
merges_join r [] ys d = refl
merges_join r (x ∷ xs) ys d = merges_join r xs ys (merges r x d)

pub merges_walk : (r : ℕ) → ((r : ℕ) (others : List ℕ) (d : Driver) → OnlyAdds d (merges_each r others d)) → IsWalk (λ g others d. merges_each r others d)
merges_walk r law = record { joins = λ g xs ys d. merges_join r xs ys d; adds = λ g xs d. law r xs d }

joined_merges : (r : ℕ) (xs ys : List ℕ) (d : Driver) → each_merges r (xs ++ ys) d ≡ each_merges r ys (each_merges r xs d)
joined_merges r [] ys d = refl
joined_merges r (x ∷ xs) ys d = joined_merges r xs ys (merges x r d)

pub merged_walk : (r : ℕ) → ((r : ℕ) (others : List ℕ) (d : Driver) → OnlyAdds d (each_merges r others d)) → IsWalk (λ g others d. each_merges r others d)
merged_walk r law = record { joins = λ g xs ys d. joined_merges r xs ys d; adds = λ g xs d. law r xs d }

-- ---- the other repositories below a number

others_further : (r n : ℕ) → others_among r (range_with_len 0 (n + 1)) ≡ others_among r (range_with_len 0 n) ++ others_among r (n ∷ [])
others_further r n = ap (others_among r) (range_more n) ∙ filter-append (λ k. not (k == r)) (range_with_len 0 n) (n ∷ [])

range_from : (a n m : ℕ) → n < m → (rest : List ℕ) × (range_with_len a m ≡ range_with_len a n ++ (a + n) ∷ rest)
range_from a n zero less = absurd (omega (arith, less))
range_from a zero (suc m) less = let same : a ≡ a + zero = omega arith in (range_with_len (a + 1) m, ap (λ (k : ℕ). k ∷ range_with_len (a + 1) m) same)
range_from a (suc n) (suc m) less =
    let more = range_from (a + 1) n m (omega (arith, less)) in
    let same : (a + 1) + n ≡ a + suc n = omega arith in
    (more.0, ap (λ (ks : List ℕ). a ∷ ks) (more.1 ∙ ap (λ (k : ℕ). range_with_len (a + 1) n ++ k ∷ more.0) same))

others_parted : (r n m : ℕ) → n < m → (rest : List ℕ) × (others_among r (range_with_len 0 m) ≡ others_among r (range_with_len 0 n) ++ (others_among r (n ∷ []) ++ others_among r rest))
others_parted r n m less =
    let parts = range_from 0 n m less in
    let same : 0 + n ≡ n = omega arith in (
      parts.0,
      ap (others_among r) (parts.1 ∙ ap (λ (k : ℕ). range_with_len 0 n ++ k ∷ parts.0) same)
          ∙ (filter-append (λ k. not (k == r)) (range_with_len 0 n) (n ∷ parts.0)
          ∙ ap (λ (ks : List ℕ). others_among r (range_with_len 0 n) ++ ks) (filter-append (λ k. not (k == r)) (n ∷ []) parts.0)),
    )

-- ---- one number

pub none_among : (r n : ℕ) → n ≡ r → others_among r (n ∷ []) ≡ []
none_among r n same = ap (λ (b : Bool). if not b then n ∷ [] else []) (ap (λ (k : ℕ). n == k) (sym same) ∙ eqb_refl n)

pub one_among : (r n : ℕ) → n ≢ r → others_among r (n ∷ []) ≡ n ∷ []
one_among r n apart = ap (λ (b : Bool). if not b then n ∷ [] else []) (eqb_other n r (λ same. apart (sym same)))

-- ---- one after the other

pub others_on : {K : Type 0} (tells : K → StoreView) (walk : Walk ℕ) (r n : ℕ) (was mid after : FleetView K) → IsWalk walk → GoesOn tells (λ g d. walk g (others_among r (range_with_len 0 n)) d) was mid
    → GoesOn tells (λ g d. walk g (others_among r (n ∷ [])) d) mid after → GoesOn tells (λ g d. walk g (others_among r (range_with_len 0 (n + 1))) d) was after
others_on tells walk r n was mid after is goes on g d stands =
    subst (λ (ks : List ℕ). IsAtDriver tells g (walk g ks d) after) (sym (others_further r n))
    (walks_on tells walk (others_among r (range_with_len 0 n)) (others_among r (n ∷ [])) was mid after is goes on g d stands)

-- all of them were gone through
pub others_done : {K : Type 0} (tells : K → StoreView) (walk : Walk ℕ) (r n : ℕ) (was after : FleetView K) → n ≡ length was.nodes → GoesOn tells (λ g d. walk g (others_among r (range_with_len 0 n)) d) was after
    → GoesOn tells (λ g d. walk g (numbers_but g r) d) was after
others_done tells walk r n was after all goes g d stands = subst (λ (k : ℕ). IsAtDriver tells g (walk g (others_among r (range_with_len 0 k)) d) after) (all ∙ stands.come.count) (goes g d stands)

-- one of them ended
pub others_end : {K : Type 0} (tells : K → StoreView) (P : DriverInput → Driver → Run → Type 0) (walk : Walk ℕ) (r n m : ℕ) (was mid after : FleetView K) → LaterLaw P → IsWalk walk → m ≡ length was.nodes → n < m
    → GoesOn tells (λ g d. walk g (others_among r (range_with_len 0 n)) d) was mid → Ends tells P (λ g d. walk g (others_among r (n ∷ [])) d) mid after → Ends tells P (λ g d. walk g (numbers_but g r) d) was after
others_end tells P walk r n m was mid after later is all less goes ends g d stands =
    let parts = others_parted r n m less in
    subst (λ (ks : List ℕ). P g (walk g ks d) after.run) (sym parts.1 ∙ ap (λ (k : ℕ). others_among r (range_with_len 0 k)) (all ∙ stands.come.count))
    (walk_ends tells P walk (others_among r (range_with_len 0 n)) (others_among r (n ∷ [])) (others_among r parts.0) was mid after later is goes ends g d stands)
