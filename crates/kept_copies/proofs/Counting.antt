-- A count that isn't 0 has something that it counts.
use Rattle.std.proofs.Common.{◌≡◌, ◌∙◌, ℕ, ◌+◌, ◌≤◌, Bool, true, false, cond, List, [], ◌∷◌, inl, inr, refl, ap, subst, arith, zero-add}
use Rattle.std.specs.Prelude.{count_by}
use Rattle.annex_base.specs.Lists.{Member}
use Rattle.past_facts.proofs.Lists.{count_by-cons, count_by-tail, count_by-yes}

counts_none : (b : Bool) (rest : ℕ) → b ≡ false → cond b 1 0 + rest ≡ rest
counts_none b rest e = ap (λ (c : Bool). cond c 1 0 + rest) e ∙ zero-add rest

-- one of them passes the test
pub some_counted : (q : ℕ → Bool) (xs : List ℕ) → 1 ≤ count_by q xs → (x : ℕ) × Member x xs × (q x ≡ true)
some_counted q [] h = let none : 1 ≤ 0 = h in absurd (omega (arith, none))
some_counted q (x ∷ xs) h = go (λ k. some_counted q xs k) (q x) refl
  where
    later : (y : ℕ) × Member y xs × (q y ≡ true) → (y : ℕ) × Member y (x ∷ xs) × (q y ≡ true)
    later w = (w.0, inr w.1, w.2)

    go : (1 ≤ count_by q xs → (y : ℕ) × Member y xs × (q y ≡ true)) → (b : Bool) → q x ≡ b → (y : ℕ) × Member y (x ∷ xs) × (q y ≡ true)
    go ih true e = (x, inl refl, e)
    go ih false e = later (ih (subst (λ (n : ℕ). 1 ≤ n) (count_by-cons q x xs ∙ counts_none (q x) (count_by q xs) e) h))

-- and where one passes it, the count isn't 0
pub counts_some : (q : ℕ → Bool) (xs : List ℕ) (x : ℕ) → Member x xs → q x ≡ true → 1 ≤ count_by q xs
counts_some q [] x m h = absurd m
counts_some q (y ∷ xs) x (inl e) h = let one = count_by-yes q y xs (subst (λ z. q z ≡ true) e h) in omega (arith, one)
counts_some q (y ∷ xs) x (inr m) h = omega (arith, counts_some q xs x m h, count_by-tail q y xs)
