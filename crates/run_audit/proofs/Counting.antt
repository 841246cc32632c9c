-- The copies and claims of a key are counted in its record as the entries count them.
use Rattle.std.proofs.Common.{◌≡◌, ℕ, ◌+◌, ◌<◌, Bool, true, false, List, [], ◌∷◌, length, map, cond, Option, Some, None, refl, sym, ap, ◌∙◌, arith}
use Rattle.std.specs.Prelude.{◌==◌, ◌&&◌, ◌||◌, count_by, min, filter}
use Rattle.std.specs.List.{list_any, range_with_len}
use Rattle.std.proofs.lemmas.Bool.{eqb-true}
use Rattle.std.proofs.lemmas.List.FromFn.{fill_by_all}
use Rattle.std.proofs.lemmas.List.Sums.{sum_by-cons}
use Rattle.annex_base.proofs.Conditions.{eqb_refl}
use Rattle.annex_base.proofs.Lists.{list_any_member}
use Rattle.annex_base.proofs.Numbers.{Member-range}
use Rattle.run_data.specs.declared.entry.Entry.{Entry}
use Rattle.run_data.specs.declared.run.RepoView.{RepoView}
use Rattle.run_model.specs.Safety.{count, smaller}
use Rattle.step_judging.specs.Audits.{KeyAudit, audit, with_count, with_removal}
use Rattle.run_model.specs.Safety.{removal}
use Rattle.run_audit.specs.Holders.{holder_at, holder_of, is_held, no_holder}
use Rattle.run_audit.specs.declared.holders.Holder.{Holder}

-- ---- counting

count_mapped : (f : ℕ → Holder) (ns : List ℕ) → count_by is_held (map f ns) ≡ count_by (λ r. is_held (f r)) ns
count_mapped f [] = refl
count_mapped f (n ∷ ns) =
    sum_by-cons (λ h. cond (is_held h) 1 0) (f n) (map f ns) ∙ ap (λ k. cond (is_held (f n)) 1 0 + k) (count_mapped f ns) ∙ sym (sum_by-cons (λ r. cond (is_held (f r)) 1 0) n ns)

-- **a record counts as the entries do**
pub counted : (repos : List RepoView) (past : List Entry) (key : List ℕ) (xs : List Holder) → length xs ≡ length repos
    → ((r : ℕ) → r < length repos → holder_at xs r ≡ holder_of repos past key r) → count_by is_held xs ≡ count repos past key
counted repos past key xs long each =
    ap (count_by is_held) (fill_by_all (holder_of repos past key) xs (length repos) no_holder long each) ∙ count_mapped (holder_of repos past key) (range_with_len 0 (length repos))

-- ---- what was counted is counted

min_twice : (c n : ℕ) → min c (min c n) ≡ min c n
min_twice c n = omega arith

min_same : (c : ℕ) → min c c ≡ c
min_same c = omega arith

smaller_twice : (c : ℕ) (o : Option ℕ) → smaller c (Some (smaller c o)) ≡ smaller c o
smaller_twice c None = min_same c
smaller_twice c (Some n) = min_twice c n

count_twice : (c : ℕ) (a : KeyAudit) → with_count c (with_count c a) ≡ with_count c a
count_twice c a = go (a.removals == 0) refl
  where
    go : (b : Bool) → (a.removals == 0) ≡ b → with_count c (with_count c a) ≡ with_count c a
    go true is = rw (is, is) refl
    go false is = rw (is, is) (ap (λ n. record { removals = a.removals; least = Some n; need = a.need }) (smaller_twice c a.least))

-- **an audit has counted already**
pub settled : (repos : List RepoView) (past : List Entry) (key : List ℕ) → with_count (count repos past key) (audit repos past key) ≡ audit repos past key
settled repos [] key = refl
settled repos (e ∷ past) key = count_twice (count repos (e ∷ past) key) (with_removal (removal repos past key e) (audit repos past key))

-- ---- the repositories that are listed

any_kept : (q : ℕ → Bool) (r : ℕ) (xs : List ℕ) → list_any (λ c. c == r) (filter q xs) ≡ (list_any (λ c. c == r) xs && q r)
any_kept q r [] = refl
any_kept q r (x ∷ xs) = go (x == r) refl (q x) refl (any_kept q r xs)
  where
    go : (a : Bool) → (x == r) ≡ a → (b : Bool) → q x ≡ b → list_any (λ c. c == r) (filter q xs) ≡ (list_any (λ c. c == r) xs && q r)
        → list_any (λ c. c == r) (cond b (x ∷ filter q xs) (filter q xs)) ≡ ((a || list_any (λ c. c == r) xs) && q r)
    go true is true has more = rw is (sym (ap q (sym (eqb-true x r is)) ∙ has))
    go true is false has more = more ∙ none (list_any (λ c. c == r) xs) (ap q (sym (eqb-true x r is)) ∙ has)
      where
        none : (b : Bool) → q r ≡ false → (b && q r) ≡ q r
        none true i = refl
        none false i = sym i
    go false is true has more = rw is more
    go false is false has more = more

-- **of the repositories of a run those are listed that pass**
pub any_range : (q : ℕ → Bool) (r n : ℕ) → r < n → list_any (λ c. c == r) (filter q (range_with_len 0 n)) ≡ q r
any_range q r n lt = any_kept q r (range_with_len 0 n) ∙ ap (λ b. b && q r) (list_any_member (λ c. c == r) (range_with_len 0 n) r (Member-range 0 n r (omega arith) (omega (arith, lt))) (eqb_refl r))
