-- Hold records in falling order of number.
use Rattle.std.proofs.Common.{◌≡◌, ℕ, ◌<◌, Bool, true, false, cond, not, nat_lt, if◌then◌else◌, List, [], ◌∷◌, refl, sym, ap, ◌∙◌, arith}
use Rattle.std.specs.Prelude.{◌==◌, All, filter}
use Rattle.std.specs.BTreeMap.{insert_entry}
use Rattle.std.specs.List.{AllByRecursion}
use Rattle.std.specs.List.Sorted.{IsStrictlySortedBy}
use Rattle.std.specs.Map.{keys_of, remove_entry}
use Rattle.std.specs.Ordering.{is_eq, match_ordering, nat_cmp}
use Rattle.std.specs.declared.cmp.Ordering.TheVariants.{Less, Equal, Greater}
use Rattle.std.specs.declared.cmp.Reverse.{Reverse}
use Rattle.std.proofs.lemmas.Bool.{eqb-true, lt-ltb, ltb-true}
use Rattle.std.proofs.lemmas.List.Kept.{AllPairs-cons}
use Rattle.std.proofs.lemmas.Map.Keys.{sorted_head, sorted_tail}
use Rattle.annex_base.specs.Lists.{Each}
use Rattle.annex_base.proofs.Conditions.{by_test, eqb_less}
use Rattle.annex_base.proofs.Lists.{All-from_Each, Each-weaker, filter_all}
use Rattle.annex_base.proofs.Numbers.{less_by_nat_cmp}
use Rattle.object_store.specs.HoldList.{record_of, records_of}
use Rattle.object_store.specs.Stores.{with_record, without_record, AreDistinct, AreFalling}
use Rattle.object_store.specs.declared.hold.Hold.{Hold}
use Rattle.object_store.specs.declared.keeper.HoldRecord.{HoldRecord}

pub new_first : (rs : List HoldRecord) (r : HoldRecord) → All (λ x. x.number < r.number) rs → with_record rs r ≡ r ∷ rs
new_first [] r a = refl
new_first (x ∷ xs) r a = ap (λ b. if b then r ∷ x ∷ xs else (if x.number == r.number then r ∷ xs else x ∷ with_record xs r)) (lt-ltb x.number r.number (a 0 x (omega arith)))

-- ---- a map by number, the greatest first

pub put_records : (es : List (Reverse ℕ × Hold)) (k : Reverse ℕ) (h : Hold) → records_of (insert_entry (λ x y. nat_cmp y.0 x.0) es k h) ≡ with_record (records_of es) (record_of (k, h))
put_records [] k h = refl
put_records (e ∷ es) k h =
    let new = record_of (k, h) in
    let rest = insert_entry (λ (x y : Reverse ℕ). nat_cmp y.0 x.0) es k h in
    let same : (b : Bool) → (e.0.0 == k.0) ≡ b → records_of (match_ordering (cond b Equal Greater) ((k, h) ∷ e ∷ es) ((e.0, h) ∷ es) (e ∷ rest)) ≡ (if b then new ∷ records_of es else record_of e ∷ with_record (records_of es) new) = λ b. elim b as (λ b. (e.0.0 == k.0) ≡ b → records_of (match_ordering (cond b Equal Greater) ((k, h) ∷ e ∷ es) ((e.0, h) ∷ es) (e ∷ rest)) ≡ (if b then new ∷ records_of es else record_of e ∷ with_record (records_of es) new)) [
      | true ↦ λ t. ap (λ n. record new { number = n } ∷ records_of es) (eqb-true e.0.0 k.0 t)
      | false ↦ λ f. ap (λ l. record_of e ∷ l) (put_records es k h)
    ] in
    elim (nat_lt e.0.0 k.0) as (λ b. records_of (match_ordering (cond b Less (cond (e.0.0 == k.0) Equal Greater)) ((k, h) ∷ e ∷ es) ((e.0, h) ∷ es) (e ∷ rest)) ≡ (if b then new ∷ record_of e ∷ records_of es else (if e.0.0 == k.0 then new ∷ records_of es else record_of e ∷ with_record (records_of es) new))) [
      | true ↦ refl
      | false ↦ same (e.0.0 == k.0) refl
    ]

eq_test : (a n : ℕ) → is_eq (nat_cmp a n) ≡ (a == n)
eq_test a n = by_test (nat_lt a n)
    (λ t. ap (λ b. is_eq (cond b Less (cond (a == n) Equal Greater))) t ∙ sym (eqb_less a n (ltb-true a n t)))
    (λ f. ap (λ b. is_eq (cond b Less (cond (a == n) Equal Greater))) f ∙ tied (a == n))
  where
    tied : (b : Bool) → is_eq (cond b Equal Greater) ≡ b
    tied true = refl
    tied false = refl

below : (n : ℕ) (es : List (Reverse ℕ × Hold)) → AllByRecursion (λ y. nat_cmp y.0 n ≡ Less) (keys_of es) → Each (λ r. r.number < n) (records_of es)
below n [] a = tt
below n (e ∷ es) a = (less_by_nat_cmp e.0.0 n a.0, below n es a.1)

pub removed : (es : List (Reverse ℕ × Hold)) (n : ℕ) → IsStrictlySortedBy (λ x y. nat_cmp y.0 x.0) (keys_of es) → records_of (remove_entry (λ k. is_eq (nat_cmp k.0 n)) es) ≡ without_record (records_of es) n
removed [] n s = refl
removed (e ∷ es) n s =
    let p : HoldRecord → Bool = λ r. not (r.number == n) in
    let rest = remove_entry (λ (k : Reverse ℕ). is_eq (nat_cmp k.0 n)) es in
    let low : Each (λ r. r.number < e.0.0) (records_of es) = below e.0.0 es (sorted_head (λ x y. nat_cmp y.0 x.0) e.0 (keys_of es) s) in
    let step : (b : Bool) → (e.0.0 == n) ≡ b → records_of (cond b es (e ∷ rest)) ≡ (if not b then record_of e ∷ filter p (records_of es) else filter p (records_of es)) = λ b. elim b as (λ b. (e.0.0 == n) ≡ b → records_of (cond b es (e ∷ rest)) ≡ (if not b then record_of e ∷ filter p (records_of es) else filter p (records_of es))) [
      | true ↦ λ t. sym (filter_all p (records_of es) (Each-weaker (λ r. r.number < e.0.0) (λ r. p r ≡ true) (λ r h. ap not (eqb_less r.number n (omega (arith, h, eqb-true e.0.0 n t)))) (records_of es) low))
      | false ↦ λ f. ap (λ l. record_of e ∷ l) (removed es n (sorted_tail (λ x y. nat_cmp y.0 x.0) e.0 (keys_of es) s))
    ] in
    ap (λ b. records_of (cond b es (e ∷ rest))) (eq_test e.0.0 n) ∙ step (e.0.0 == n) refl

pub falling : (es : List (Reverse ℕ × Hold)) → IsStrictlySortedBy (λ x y. nat_cmp y.0 x.0) (keys_of es) → AreFalling (records_of es)
falling [] s = λ i j d a b. absurd (omega arith)
falling (e ∷ es) s =
    AllPairs-cons (λ r t. t.number < r.number) (record_of e) (records_of es)
    (All-from_Each (λ t. t.number < e.0.0) (records_of es) (below e.0.0 es (sorted_head (λ x y. nat_cmp y.0 x.0) e.0 (keys_of es) s)))
    (falling es (sorted_tail (λ x y. nat_cmp y.0 x.0) e.0 (keys_of es) s))

pub distinct : (rs : List HoldRecord) → AreFalling rs → AreDistinct rs
distinct rs f i j d a b = λ same. omega (arith, f i j d a b, same)
