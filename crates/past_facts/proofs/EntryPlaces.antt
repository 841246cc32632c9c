-- The entries that stand in the past of a place of a run, by their own places.
use Rattle.std.proofs.Common.{◌≡◌, ℕ, zero, suc, ◌+◌, ◌<◌, ◌≤◌, Bool, true, false, List, length, Some, ◌⊎◌, inl, inr, refl, sym, ap, ◌∙◌, subst, arith, add-one, ◌∷◌}
use Rattle.std.specs.Prelude.{◌==◌, slice_get}
use Rattle.std.proofs.lemmas.Bool.Decides.{nat_tests}
use Rattle.std.proofs.lemmas.Option.{slice_get_cases, get_or_from_slice_get, slice_get_within}
use Rattle.std.proofs.lemmas.Bool.{eqb-true}
use Rattle.annex_base.proofs.Pasts.{past_end, past_more}
use Rattle.run_data.specs.declared.entry.Entry.{Entry}
use Rattle.run_data.specs.declared.run.Run.{Run}
use Rattle.run_model.specs.Past.{Occurs}
use Rattle.run_model.specs.Safety.{past_at}

-- the past after the entry at a place
pub past_next : (run : Run) (place : ℕ) (e : Entry) → slice_get run.entries place ≡ Some e → past_at run (place + 1) ≡ e ∷ past_at run place
past_next run place e at = past_more run.entries place e (slice_get_within run.entries place e at) ∙ ap (λ x. x ∷ past_at run place) (get_or_from_slice_get run.entries place e e at)

-- there is an element at the place, or the list has ended
pub there_or_end : {X : Type 0} (xs : List X) (place : ℕ) → ((y : X) × (slice_get xs place ≡ Some y)) ⊎ (length xs ≤ place)
there_or_end xs place = elim (slice_get_cases xs place).1 [ inl t ↦ inl (t.0, t.2) | inr t ↦ inr t.0 ]

-- the entry stands at an earlier place, and what stood before it is the past of that
pub record Placed (run : Run) (place : ℕ) (x : Entry) (before : List Entry) : Type 0 where
  pub at : ℕ
  pub earlier : at < place
  pub entry_is : slice_get run.entries at ≡ Some x
  pub before_is : before ≡ past_at run at

placed_later : (run : Run) (place : ℕ) (x : Entry) (before : List Entry) → Placed run place x before → Placed run (suc place) x before
placed_later run place x before w = record { at = w.at; earlier = omega (arith, w.earlier); entry_is = w.entry_is; before_is = w.before_is }

pub occurs_at : (run : Run) (place : ℕ) (x : Entry) (before : List Entry) → Occurs (past_at run place) x before → Placed run place x before
occurs_at run zero x before o = absurd o
occurs_at run (suc p) x before o = go (λ k. occurs_at run p x before k) (there_or_end run.entries p)
  where
    now' : Occurs (past_at run (p + 1)) x before
    now' = subst (λ n. Occurs (past_at run n) x before) (sym (add-one p)) o

    here : (y : Entry) → slice_get run.entries p ≡ Some y → (Occurs (past_at run p) x before → Placed run p x before) → ((x ≡ y) × (before ≡ past_at run p)) ⊎ Occurs (past_at run p) x before → Placed run (suc p) x before
    here y is ih (inl k) = record { at = p; earlier = omega arith; entry_is = is ∙ ap (λ z. Some z) (sym k.0); before_is = k.1 }
    here y is ih (inr k) = placed_later run p x before (ih k)

    go : (Occurs (past_at run p) x before → Placed run p x before) → ((y : Entry) × (slice_get run.entries p ≡ Some y)) ⊎ (length run.entries ≤ p) → Placed run (suc p) x before
    go ih (inl t) = here t.0 t.1 ih (subst (λ past. Occurs past x before) (past_next run p t.0 t.1) now')
    go ih (inr t) = placed_later run p x before (ih (subst (λ past. Occurs past x before) (past_end run.entries p t) now'))

pub at_occurs : (run : Run) (place at : ℕ) (x : Entry) → at < place → slice_get run.entries at ≡ Some x → Occurs (past_at run place) x (past_at run at)
at_occurs run zero at x lt is = absurd (omega (arith, lt))
at_occurs run (suc p) at x lt is =
    subst (λ n. Occurs (past_at run n) x (past_at run at)) (add-one p) (go (λ k. at_occurs run p at x k is) (at == p) refl)
  where
    same : at ≡ p → Occurs (past_at run (p + 1)) x (past_at run at)
    same e = subst (λ past. Occurs past x (past_at run at)) (sym (past_next run p x (subst (λ n. slice_get run.entries n ≡ Some x) e is))) (inl (refl, ap (past_at run) e))

    later : Occurs (past_at run p) x (past_at run at) → Occurs (past_at run (p + 1)) x (past_at run at)
    later o = elim (there_or_end run.entries p) [
      | inl t ↦ subst (λ past. Occurs past x (past_at run at)) (sym (past_next run p t.0 t.1)) (inr o)
      | inr t ↦ subst (λ past. Occurs past x (past_at run at)) (sym (past_end run.entries p t)) o
    ]

    go : (at < p → Occurs (past_at run p) x (past_at run at)) → (b : Bool) → (at == p) ≡ b → Occurs (past_at run (p + 1)) x (past_at run at)
    go ih true e = same (eqb-true at p e)
    go ih false e = let below : at < p = grind (arith, nat_tests) in later (ih below)

-- two places of which neither is earlier are the same
pub same_place : (a b : ℕ) → (a < b → ⊥) → (b < a → ⊥) → a ≡ b
same_place a b f g = go (a == b) refl
  where
    go : (c : Bool) → (a == b) ≡ c → a ≡ b
    go true e = eqb-true a b e
    go false e = let ways : (a < b) ⊎ (b < a) = grind (arith, nat_tests) in elim ways [ inl l ↦ absurd (f l) | inr l ↦ absurd (g l) ]

pub below_or_last : (m n : ℕ) → m ≤ suc n → (m ≤ n) ⊎ (m ≡ suc n)
below_or_last m n le = grind arith

-- what grows by each entry grows from place to place
pub grows : (f : List Entry → ℕ) → ((e : Entry) (past : List Entry) → f past ≤ f (e ∷ past)) → (run : Run) (a b : ℕ) → a ≤ b → f (past_at run a) ≤ f (past_at run b)
grows f more run a zero le = let same : a ≡ zero = omega (arith, le) in subst (λ n. f (past_at run a) ≤ f (past_at run n)) same (omega arith)
grows f more run a (suc b) le = go (λ k. grows f more run a b k) (below_or_last a b le)
  where
    step : f (past_at run b) ≤ f (past_at run (b + 1))
    step = elim (there_or_end run.entries b) [
      | inl t ↦ subst (λ past. f (past_at run b) ≤ f past) (sym (past_next run b t.0 t.1)) (more t.0 (past_at run b))
      | inr t ↦ subst (λ past. f (past_at run b) ≤ f past) (sym (past_end run.entries b t)) (omega arith)
    ]

    go : (a ≤ b → f (past_at run a) ≤ f (past_at run b)) → (a ≤ b) ⊎ (a ≡ suc b) → f (past_at run a) ≤ f (past_at run (suc b))
    go ih (inl k) = subst (λ n. f (past_at run a) ≤ f (past_at run n)) (add-one b) (omega (arith, ih k, step))
    go ih (inr k) = subst (λ n. f (past_at run a) ≤ f (past_at run n)) k (omega arith)
