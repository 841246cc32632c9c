-- The words of a list by the numbers of repositories.
use Rattle.std.proofs.Common.{◌≡◌, ℕ, zero, suc, ◌<◌, Bool, true, false, List, [], ◌∷◌, ◌++◌, length, slice_set, Option, None, refl, sym, ap, ◌∙◌, arith}
use Rattle.std.specs.Prelude.{◌&&◌, ◌==◌, if◌then◌else◌}
use Rattle.std.proofs.lemmas.Bool.{eqb-true, eq-eqb}
use Rattle.annex_base.specs.declared.kinds.Word.{Word}
use Rattle.job_makes.specs.Turns.{word_in}

pub more_none : (words : List (Option Word)) (c : ℕ) → word_in (words ++ None ∷ []) c ≡ word_in words c
more_none [] zero = refl
more_none [] (suc c) = refl
more_none (w ∷ words) zero = refl
more_none (w ∷ words) (suc c) = more_none words c

pub set_here : (words : List (Option Word)) (p : ℕ) (word : Option Word) → p < length words → word_in (slice_set words p word) p ≡ word
set_here [] p word low = absurd (omega (arith, low))
set_here (w ∷ words) zero word low = refl
set_here (w ∷ words) (suc p) word low = set_here words p word (omega (arith, low))

set_far : (words : List (Option Word)) (p c : ℕ) (word : Option Word) → (p == c) ≡ false → word_in (slice_set words p word) c ≡ word_in words c
set_far [] p c word apart = refl
set_far (w ∷ words) zero zero word apart = absurd (let both : true ≡ false = sym (eq-eqb 0 0 refl) ∙ apart in cc)
set_far (w ∷ words) zero (suc c) word apart = refl
set_far (w ∷ words) (suc p) zero word apart = refl
set_far (w ∷ words) (suc p) (suc c) word apart = set_far words p c word (back (p == c) refl)
  where
    back : (b : Bool) → (p == c) ≡ b → b ≡ false
    back false is = refl
    back true is = absurd (let both : true ≡ false = sym (eq-eqb (suc p) (suc c) (ap suc (eqb-true p c is))) ∙ apart in cc)

-- with the word put there
pub set_words : (words : List (Option Word)) (p c : ℕ) (word : Option Word) → p < length words → word_in (slice_set words p word) c ≡ (if p == c then word else word_in words c)
set_words words p c word low = go (p == c) refl
  where
    go : (b : Bool) → (p == c) ≡ b → word_in (slice_set words p word) c ≡ (if b then word else word_in words c)
    go true same = ap (word_in (slice_set words p word)) (sym (eqb-true p c same)) ∙ set_here words p word low
    go false apart = set_far words p c word apart

-- what a job's words are once one of them is put there, where they were taken out
pub heard_then : (job at p c : ℕ) (word : Option Word) (was out now : ℕ → List (Option Word)) (taken : List (Option Word)) → taken ≡ was job → p < length (was job)
    → ((other : ℕ) → out other ≡ (if job == other then [] else was other)) → ((other : ℕ) → now other ≡ (if job == other then slice_set taken p word else out other))
    → word_in (now at) c ≡ (if (job == at) && (p == c) then word else word_in (was at) c)
heard_then job at p c word was out now taken is low gone put = go (job == at) refl
  where
    go : (b : Bool) → (job == at) ≡ b → word_in (now at) c ≡ (if b && (p == c) then word else word_in (was at) c)
    go true same =
        ap (λ (ws : List (Option Word)). word_in ws c) (put at ∙ ap (λ (b : Bool). if b then slice_set taken p word else out at) same ∙ ap (λ (ws : List (Option Word)). slice_set ws p word) is)
        ∙ set_words (was job) p c word low
        ∙ ap (λ (n : ℕ). if p == c then word else word_in (was n) c) (eqb-true job at same)
    go false apart =
        ap (λ (ws : List (Option Word)). word_in ws c)
        (put at ∙ ap (λ (b : Bool). if b then slice_set taken p word else out at) apart ∙ gone at ∙ ap (λ (b : Bool). if b then [] else was at) apart)
