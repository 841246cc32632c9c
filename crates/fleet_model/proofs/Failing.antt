-- The `fail` lines that wait, and the calls of a store that are still to fail.
use Rattle.std.proofs.Common.{◌≡◌, ◌≢◌, ℕ, suc, ◌-◌, Bool, true, false, List, [], ◌∷◌, Option, Some, None, length, refl, sym, ap, ◌∙◌, subst, arith}
use Rattle.std.specs.Prelude.{◌==◌, ◌&&◌, filter, find, if◌then◌else◌, nat_lt}
use Rattle.std.specs.List.{list_any}
use Rattle.std.specs.Option.{option_map}
use Rattle.std.proofs.lemmas.Bool.Decides.{nat_tests}
use Rattle.annex_base.specs.Calls.{call_number, same_call}
use Rattle.annex_base.specs.declared.kinds.Call.{Call}
use Rattle.object_store.specs.Calls.{one_fewer}
use Rattle.driver_model.specs.Driver.{Driver, FailLine, answers, but_first, fails_at, is_failing}
use Rattle.content_lock.specs.CallsMade.{MakesCalls}
use Rattle.fleet_model.specs.Stores.{IsStoreOf, IsTold, waiting_fails}
use Rattle.joined_nodes.specs.Stored.{StoreView}

-- ---- lists

pub positive : (n : ℕ) → nat_lt 0 (suc n) ≡ true
positive n = grind (arith, nat_tests)

pub any_counted : {X : Type 0} (p : X → Bool) (xs : List X) → nat_lt 0 (length (filter p xs)) ≡ list_any p xs
any_counted p [] = refl
any_counted p (x ∷ xs) = go (p x) refl (any_counted p xs)
  where
    go : (b : Bool) → p x ≡ b → nat_lt 0 (length (filter p xs)) ≡ list_any p xs → nat_lt 0 (length (filter p (x ∷ xs))) ≡ list_any p (x ∷ xs)
    go true e rest = rw e (positive (length (filter p xs)))
    go false e rest = rw e rest

more_less : (n : ℕ) → n ≡ suc n - 1
more_less n = grind arith

one_less : {X : Type 0} (p : X → Bool) (xs : List X) → length (filter p (but_first p xs)) ≡ length (filter p xs) - 1
one_less p [] = refl
one_less p (x ∷ xs) = go (p x) refl (one_less p xs)
  where
    go : (b : Bool) → p x ≡ b → length (filter p (but_first p xs)) ≡ length (filter p xs) - 1 → length (filter p (but_first p (x ∷ xs))) ≡ length (filter p (x ∷ xs)) - 1
    go true e rest = rw e (more_less (length (filter p xs)))
    go false e rest = rw e (rw e rest)

-- what passes no other test counts for no other
others_kept : {X : Type 0} (p q : X → Bool) (xs : List X) → ((x : X) → p x ≡ true → q x ≡ false) → filter q (but_first p xs) ≡ filter q xs
others_kept p q [] apart = refl
others_kept {X} p q (x ∷ xs) apart = go (p x) refl (q x) refl (others_kept p q xs apart)
  where
    go : (b : Bool) → p x ≡ b → (c : Bool) → q x ≡ c → filter q (but_first p xs) ≡ filter q xs → filter q (but_first p (x ∷ xs)) ≡ filter q (x ∷ xs)
    go true e c f rest = rw e (rw (apart x e) refl)
    go false e true f rest = rw e (rw f (ap (λ (ys : List X). x ∷ ys) rest))
    go false e false f rest = rw e (rw f rest)

-- ---- which lines wait for which call

-- another call of r, or a call of another
apart_calls : (r : ℕ) (call c : Call) (x : FailLine) → same_call call c ≡ false → is_failing r call x ≡ true → is_failing r c x ≡ false
apart_calls r call c x apart is = grind (arith, nat_tests)

apart_repos : (r q : ℕ) (call c : Call) (x : FailLine) → q ≢ r → is_failing r call x ≡ true → is_failing q c x ≡ false
apart_repos r q call c x apart is = grind (arith, nat_tests)

-- calls with one number are told apart by nothing
alike : (r : ℕ) (call c : Call) → same_call call c ≡ true → is_failing r c ≡ is_failing r call
alike r call c same = λ i. λ (x : FailLine). (x.repo == r) && (call_number x.call == sym (number call c same) i)
  where
    number : (a b : Call) → same_call a b ≡ true → call_number a ≡ call_number b
    number a b e = grind (arith, nat_tests)

-- ---- one of them is answered

-- the numbers of r
fewer_wait : (d : Driver) (r : ℕ) (call c : Call) → one_fewer call (waiting_fails d r) c ≡ waiting_fails (answers r call d) r c
fewer_wait d r call c = go (same_call call c) refl
  where
    go : (b : Bool) → same_call call c ≡ b → (if b then waiting_fails d r c - 1 else waiting_fails d r c) ≡ waiting_fails (answers r call d) r c
    go true e = subst (λ (p : FailLine → Bool). length (filter p d.fails) - 1 ≡ length (filter p (but_first (is_failing r call) d.fails))) (sym (alike r call c e)) (sym (one_less (is_failing r call) d.fails))
    go false e = ap length (sym (others_kept (is_failing r call) (is_failing r c) d.fails (λ x. apart_calls r call c x e)))

-- those of another
others_wait : (d : Driver) (r q : ℕ) (call c : Call) → q ≢ r → waiting_fails d q c ≡ waiting_fails (answers r call d) q c
others_wait d r q call c apart = ap length (sym (others_kept (is_failing r call) (is_failing q c) d.fails (λ x. apart_repos r q call c x apart)))

told_numbers : (before after : Option (Call → ℕ)) (call : Call) (f g : Call → ℕ) → after ≡ option_map (one_fewer call) before → IsTold before (λ n. (c : Call) → n c ≡ f c)
    → ((c : Call) → one_fewer call f c ≡ g c) → IsTold after (λ n. (c : Call) → n c ≡ g c)
told_numbers None after call f g left told same = absurd told
told_numbers (Some n) after call f g left told same =
    subst (λ (o : Option (Call → ℕ)). IsTold o (λ n. (c : Call) → n c ≡ g c)) (sym left) (λ c. ap (λ (f : Call → ℕ). one_fewer call f c) (all n told) ∙ same c)
  where
    all : (n : Call → ℕ) → ((c : Call) → n c ≡ f c) → n ≡ f
    all n e = λ i. λ c. e c i

-- ---- the store of r, and those of others

pub answered : (d : Driver) (r : ℕ) (call : Call) (v w : StoreView) → IsStoreOf d r v → w.contents ≡ v.contents → w.parts ≡ v.parts → w.failing ≡ option_map (one_fewer call) v.failing
    → IsStoreOf (answers r call d) r w
answered d r call v w is contents parts failing = record {
  contents = rw contents is.contents;
  parts = rw parts is.parts;
  failing = told_numbers v.failing w.failing call (waiting_fails d r) (waiting_fails (answers r call d) r) failing is.failing (fewer_wait d r call);
}

pub unanswered : (d : Driver) (r q : ℕ) (call : Call) (v : StoreView) → q ≢ r → IsStoreOf d q v → IsStoreOf (answers r call d) q v
unanswered d r q call v apart is = record { contents = is.contents; parts = is.parts; failing = same v.failing is.failing }
  where
    same : (o : Option (Call → ℕ)) → IsTold o (λ n. (c : Call) → n c ≡ waiting_fails d q c) → IsTold o (λ n. (c : Call) → n c ≡ waiting_fails (answers r call d) q c)
    same None told = told
    same (Some n) told = λ c. told c ∙ others_wait d r q call c apart

-- ---- which call fails

-- a call that the store is asked for first fails exactly where a line waits for it
pub first_fails : (d : Driver) (r : ℕ) (call : Call) (v : StoreView) (failed : Option Call) (after : Option (Call → ℕ)) → IsStoreOf d r v → MakesCalls (call ∷ []) failed v.failing after
    → failed ≡ (if fails_at d r call then Some call else None)
first_fails d r call v failed after is made = go v.failing is.failing made
  where
    go : (o : Option (Call → ℕ)) → IsTold o (λ n. (c : Call) → n c ≡ waiting_fails d r c) → MakesCalls (call ∷ []) failed o after → failed ≡ (if fails_at d r call then Some call else None)
    go None told made = absurd told
    go (Some n) told made = made.first n refl ∙ ap (λ (b : Bool). if b then Some call else None) (ap (nat_lt 0) (told call) ∙ any_counted (is_failing r call) d.fails)

-- two tests that agree find the same
found_alike : (p q : Call → Bool) (cs : List Call) → ((c : Call) → p c ≡ q c) → find p cs ≡ find q cs
found_alike p q [] same = refl
found_alike p q (c ∷ cs) same = rw (same c) (ap (λ (o : Option Call). if q c then Some c else o) (found_alike p q cs same))

-- of calls that the store is asked for one after the other, the first fails for which a line waits
pub first_of_calls : (d : Driver) (r : ℕ) (cs : List Call) (v : StoreView) (failed : Option Call) (after : Option (Call → ℕ)) → IsStoreOf d r v → MakesCalls cs failed v.failing after
    → failed ≡ find (fails_at d r) cs
first_of_calls d r cs v failed after is made = go v.failing is.failing made
  where
    go : (o : Option (Call → ℕ)) → IsTold o (λ n. (c : Call) → n c ≡ waiting_fails d r c) → MakesCalls cs failed o after → failed ≡ find (fails_at d r) cs
    go None told made = absurd told
    go (Some n) told made = made.first n refl ∙ found_alike (λ c. nat_lt 0 (n c)) (fails_at d r) cs (λ c. ap (nat_lt 0) (told c) ∙ any_counted (is_failing r c) d.fails)
