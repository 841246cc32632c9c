-- A slot for one more job.
use Rattle.std.proofs.Common.{◌≡◌, ◌≢◌, ℕ, zero, suc, ◌+◌, ◌<◌, ◌≤◌, Bool, true, false, if◌then◌else◌, List, [], ◌∷◌, length, map, refl, sym, ap, subst, arith}
use Rattle.std.specs.Prelude.{not, ◌==◌, ◌||◌}
use Rattle.std.proofs.lemmas.Bool.Decides.{nat_tests}
use Rattle.annex_base.specs.Lists.{Each}
use Rattle.node_model.specs.Slots.{RunningJob, free_slot, uses}
use Rattle.node_tasks.specs.declared.task.Task.{Task}
use Rattle.node_tasks.specs.Tasks.{slot_of}
use Rattle.running_jobs.specs.Beginning.{running_now}
use Rattle.running_jobs.specs.Running.{Jobs}

-- how many run in a slot
abbrev one_if : Bool → ℕ
one_if true = 1
one_if false = 0

abbrev runs_in : ℕ → List RunningJob → ℕ
runs_in n [] = 0
runs_in n (r ∷ rs) = one_if (r.slot == n) + runs_in n rs

used_some : (n : ℕ) (rs : List RunningJob) → uses rs n ≡ true → 1 ≤ runs_in n rs
used_some n [] h = absurd cc
used_some n (r ∷ rs) h = go (λ k. used_some n rs k) (r.slot == n) h
  where
    go : (uses rs n ≡ true → 1 ≤ runs_in n rs) → (b : Bool) → (b || uses rs n) ≡ true → 1 ≤ one_if b + runs_in n rs
    go ih true e = omega arith
    go ih false e = omega (arith, ih e)

one_slot : (s : ℕ) → one_if (s == 0) + one_if (s == 1) + one_if (s == 2) + one_if (s == 3) ≤ 1
one_slot zero = omega arith
one_slot (suc zero) = omega arith
one_slot (suc (suc zero)) = omega arith
one_slot (suc (suc (suc n))) = go ((suc (suc (suc n))) == 0) ((suc (suc (suc n))) == 1) ((suc (suc (suc n))) == 2) ((suc (suc (suc n))) == 3) refl refl refl
  where
    go : (a b c d : Bool) → ((suc (suc (suc n))) == 0) ≡ a → ((suc (suc (suc n))) == 1) ≡ b → ((suc (suc (suc n))) == 2) ≡ c → one_if a + one_if b + one_if c + one_if d ≤ 1
    go true b c d x y z = absurd (grind (arith, nat_tests))
    go false true c d x y z = absurd (grind (arith, nat_tests))
    go false false true d x y z = absurd (grind (arith, nat_tests))
    go false false false true x y z = omega arith
    go false false false false x y z = omega arith

few_run : (rs : List RunningJob) → runs_in 0 rs + runs_in 1 rs + runs_in 2 rs + runs_in 3 rs ≤ length rs
few_run [] = omega arith
few_run (r ∷ rs) = omega (arith, few_run rs, one_slot r.slot)

-- the slot that is given is below four, and while three run at most no job runs in it
pub slot_small : (rs : List RunningJob) → free_slot rs < 4
slot_small rs = go (uses rs 0) (uses rs 1) (uses rs 2)
  where
    go : (a b c : Bool) → (if not a then 0 else (if not b then 1 else (if not c then 2 else 3))) < 4
    go false b c = omega arith
    go true false c = omega arith
    go true true false = omega arith
    go true true true = omega arith

pub slot_free : (rs : List RunningJob) → length rs < 4 → uses rs (free_slot rs) ≡ false
slot_free rs few = go (uses rs 0) (uses rs 1) (uses rs 2) (uses rs 3) refl refl refl refl
  where
    go : (a b c d : Bool) → uses rs 0 ≡ a → uses rs 1 ≡ b → uses rs 2 ≡ c → uses rs 3 ≡ d → uses rs (if not a then 0 else (if not b then 1 else (if not c then 2 else 3))) ≡ false
    go false b c d x y z w = x
    go true false c d x y z w = y
    go true true false d x y z w = z
    go true true true false x y z w = w
    go true true true true x y z w = absurd (omega (arith, few, few_run rs, used_some 0 rs x, used_some 1 rs y, used_some 2 rs z, used_some 3 rs w))

unused : (ts : List Task) (n : ℕ) → uses (map running_now ts) n ≡ false → Each (λ t. n ≢ slot_of t) ts
unused [] n h = tt
unused (t ∷ ts) n h = go (λ e. unused ts n e) (slot_of t == n) refl h
  where
    go : (uses (map running_now ts) n ≡ false → Each (λ x. n ≢ slot_of x) ts) → (b : Bool) → (slot_of t == n) ≡ b → (b || uses (map running_now ts) n) ≡ false → Each (λ x. n ≢ slot_of x) (t ∷ ts)
    go ih true is e = absurd cc
    go ih false is e = ((λ same. grind (arith, nat_tests)), ih e)

length_runs : (ts : List Task) → length (map running_now ts) ≡ length ts
length_runs [] = refl
length_runs (t ∷ ts) = ap (λ (n : ℕ). suc n) (length_runs ts)

-- the next slot is one of the four, and none of the others has it
pub next_small : (jobs : Jobs) → free_slot (map running_now jobs.running) < 4
next_small jobs = slot_small (map running_now jobs.running)

pub next_unused : (jobs : Jobs) → length jobs.running < 4 → Each (λ t. free_slot (map running_now jobs.running) ≢ slot_of t) jobs.running
next_unused jobs few = unused jobs.running (free_slot (map running_now jobs.running)) (slot_free (map running_now jobs.running) (subst (λ (n : ℕ). n < 4) (sym (length_runs jobs.running)) few))
