-- Holds that are made anew of the records of a store.
use Rattle.std.proofs.Common.{◌≡◌, ℕ, ◌<◌, ◌+◌, Bool, true, false, List, [], ◌∷◌, ◌++◌, refl, sym, ap, ◌∙◌, subst, arith, length, length-append, get_or, append_assoc}
use Rattle.std.specs.Prelude.{if◌then◌else◌, bytes_eq, map, reverse}
use Rattle.std.specs.BTreeMap.{insert_entry}
use Rattle.std.specs.Map.{values_of}
use Rattle.std.specs.Ordering.{nat_cmp, match_ordering}
use Rattle.std.specs.declared.cmp.Ordering.{Ordering}
use Rattle.std.specs.declared.cmp.Ordering.TheVariants.{Less, Equal, Greater}
use Rattle.std.proofs.lemmas.List.{get_or_append_left, reverse-reverse}
use Rattle.std.proofs.Math.Seq.{get_or-append_seam}
use mathlib.Core.List.{reverse-cons}
use Rattle.annex_base.specs.Lists.{Each}
use Rattle.annex_base.proofs.Lists.{Each-from_All, Each-reverse, Each-weaker}
use Rattle.annex_base.proofs.Numbers.{less_by_nat_cmp, nat_cmp_less}
use Rattle.run_data.specs.declared.row.Hold.{Hold}
use Rattle.node_model.specs.Rows.{restart}
use Rattle.object_store.specs.declared.keeper.HoldRecord.{HoldRecord}
use Rattle.object_store.specs.Stores.{AreFalling}
use Rattle.content_lock.specs.Indexed.{AreRising, IsRecovered, with_number, on_key}
use Rattle.content_lock.specs.Stored.{AreRecordsOf, Label, kept_hold, label_in, label_of, ownerless}
use Rattle.content_lock.proofs.IndexedLemmas.{numbers_on}
use Rattle.content_lock.proofs.NumberedLemmas.{values-numbered}

-- ---- the place of a hold

-- a hold among others, in the place of one of its number
abbrev place : Hold → List Hold → List Hold
place h [] = h ∷ []
place h (x ∷ xs) = match_ordering (nat_cmp h.number x.number) (h ∷ x ∷ xs) (h ∷ xs) (x ∷ place h xs)

equal_is : (n m : ℕ) → nat_cmp n m ≡ Equal → n ≡ m
equal_is n m e = grind arith

greater_is : (n m : ℕ) → nat_cmp n m ≡ Greater → m < n
greater_is n m e = grind arith

placed : (h : Hold) (hs : List Hold) → insert_entry nat_cmp (map with_number hs) h.number h ≡ map with_number (place h hs)
placed h [] = refl
placed h (x ∷ xs) = go (nat_cmp h.number x.number) refl (placed h xs)
  where
    go : (o : Ordering) → nat_cmp h.number x.number ≡ o → insert_entry nat_cmp (map with_number xs) h.number h ≡ map with_number (place h xs)
        → match_ordering o ((h.number, h) ∷ with_number x ∷ map with_number xs) ((x.number, h) ∷ map with_number xs) (with_number x ∷ insert_entry nat_cmp (map with_number xs) h.number h)
        ≡ map with_number (match_ordering o (h ∷ x ∷ xs) (h ∷ xs) (x ∷ place h xs))
    go Less is ih = refl
    go Equal is ih = λ i. (sym (equal_is h.number x.number is) i, h) ∷ map with_number xs
    go Greater is ih = ap (λ (l : List (ℕ × Hold)). with_number x ∷ l) ih

each_placed : (P : Hold → Type 0) (h : Hold) (hs : List Hold) → P h → Each P hs → Each P (place h hs)
each_placed P h [] it each = (it, tt)
each_placed P h (x ∷ xs) it each = go (nat_cmp h.number x.number) (each_placed P h xs it each.1)
  where
    go : (o : Ordering) → Each P (place h xs) → Each P (match_ordering o (h ∷ x ∷ xs) (h ∷ xs) (x ∷ place h xs))
    go Less ih = (it, each)
    go Equal ih = (it, each.1)
    go Greater ih = (each.0, ih)

rising_placed : (h : Hold) (hs : List Hold) → AreRising hs → AreRising (place h hs)
rising_placed h [] rising = (tt, tt)
rising_placed h (x ∷ xs) rising = go (nat_cmp h.number x.number) refl (rising_placed h xs rising.1)
  where
    go : (o : Ordering) → nat_cmp h.number x.number ≡ o → AreRising (place h xs) → AreRising (match_ordering o (h ∷ x ∷ xs) (h ∷ xs) (x ∷ place h xs))
    go Less is ih =
        let lt = less_by_nat_cmp h.number x.number is in
        ((lt, Each-weaker (λ y. x.number < y.number) (λ y. h.number < y.number) (λ y more. omega (arith, lt, more)) xs rising.0), rising)
    go Equal is ih = (subst (λ (n : ℕ). Each (λ y. n < y.number) xs) (sym (equal_is h.number x.number is)) rising.0, rising.1)
    go Greater is ih = (each_placed (λ y. x.number < y.number) h xs (greater_is h.number x.number is) rising.0, ih)

first_placed : (h : Hold) (hs : List Hold) → Each (λ x. h.number < x.number) hs → place h hs ≡ h ∷ hs
first_placed h [] more = refl
first_placed h (x ∷ xs) more = ap (λ (o : Ordering). match_ordering o (h ∷ x ∷ xs) (h ∷ xs) (x ∷ place h xs)) (nat_cmp_less h.number x.number more.0)

-- ---- records in falling order

falling_front : (rs : List HoldRecord) (r : HoldRecord) → AreFalling (rs ++ r ∷ []) → AreFalling rs
falling_front rs r falling i j d lt within =
    subst (λ (x : HoldRecord). x.number < (get_or rs i d).number) (get_or_append_left rs (r ∷ []) d j within)
    (subst (λ (x : HoldRecord). (get_or (rs ++ r ∷ []) j d).number < x.number) (get_or_append_left rs (r ∷ []) d i (omega (arith, lt, within))) (falling i j d lt (longer rs r j within)))
  where
    longer : (rs : List HoldRecord) (r : HoldRecord) (j : ℕ) → j < length rs → j < length (rs ++ r ∷ [])
    longer rs r j within = rw (length-append rs (r ∷ [])) (omega (arith, within))

falling_last : (rs : List HoldRecord) (r : HoldRecord) → AreFalling (rs ++ r ∷ []) → Each (λ x. r.number < x.number) rs
falling_last rs r falling =
    Each-from_All (λ x. r.number < x.number) rs
    (λ k d within.
    subst (λ (x : HoldRecord). x.number < (get_or rs k d).number) (get_or-append_seam rs r [] d)
    (subst (λ (x : HoldRecord). (get_or (rs ++ r ∷ []) (length rs) d).number < x.number) (get_or_append_left rs (r ∷ []) d k within) (falling k (length rs) d within (rw (length-append rs (r ∷ [])) (omega arith)))))

map_last : (now : ℕ) (rs : List HoldRecord) (r : HoldRecord) → map (kept_hold now) (rs ++ r ∷ []) ≡ map (kept_hold now) rs ++ kept_hold now r ∷ []
map_last now [] r = refl
map_last now (x ∷ xs) r = ap (λ (l : List Hold). kept_hold now x ∷ l) (map_last now xs r)

numbers_kept : (now n : ℕ) (rs : List HoldRecord) → Each (λ x. n < x.number) rs → Each (λ x. n < x.number) (map (kept_hold now) rs)
numbers_kept now n [] more = tt
numbers_kept now n (r ∷ rs) more = (more.0, numbers_kept now n rs more.1)

pub recovered_more : (now : ℕ) (rs : List HoldRecord) (r : HoldRecord) (es fs : List (ℕ × Hold)) → IsRecovered now rs es → fs ≡ insert_entry nat_cmp es r.number (kept_hold now r) → IsRecovered now (rs ++ r ∷ []) fs
recovered_more now rs r es fs was is =
    let hs = values_of es in
    let h = kept_hold now r in
    let put : fs ≡ map with_number (place h hs) = is ∙ ap (λ (l : List (ℕ × Hold)). insert_entry nat_cmp l h.number h) was.named ∙ placed h hs in
    let values : values_of fs ≡ place h hs = ap values_of put ∙ values-numbered (place h hs) in
    record {
      named = put ∙ ap (map with_number) (sym values);
      rising = subst AreRising (sym values) (rising_placed h hs was.rising);
      kept = subst (λ (l : List Hold). Each (λ x. x.kept ≡ true) l) (sym values) (each_placed (λ x. x.kept ≡ true) h hs refl was.kept);
      same = λ falling.
          let older = was.same (falling_front rs r falling) in
          let more : Each (λ x. r.number < x.number) hs = turned hs (subst (λ (l : List Hold). Each (λ x. r.number < x.number) l) (sym older) (numbers_kept now r.number rs (falling_last rs r falling))) in
          ap reverse (values ∙ first_placed h hs more) ∙ reverse-cons h hs ∙ ap (λ (l : List Hold). l ++ h ∷ []) older ∙ sym (map_last now rs r);
    }
  where
    turned : (hs : List Hold) → Each (λ x. r.number < x.number) (reverse hs) → Each (λ x. r.number < x.number) hs
    turned hs each = subst (Each (λ x. r.number < x.number)) (reverse-reverse hs) (Each-reverse (λ x. r.number < x.number) (reverse hs) each)

-- ---- what a crash leaves

pub left_by_crash : (now : ℕ) (rs : List HoldRecord) (was : List Hold) → AreRecordsOf was rs → map (kept_hold now) rs ≡ map ownerless (map (restart now) was)
left_by_crash now [] [] same = refl
left_by_crash now [] (h ∷ hs) same = absurd cc
left_by_crash now (r ∷ rs) [] same = absurd cc
left_by_crash now (r ∷ rs) (h ∷ hs) same =
    let label = head (label_in r) (label_of h) (map label_in rs) (map label_of hs) same in
    let rest = tail (label_in r) (label_of h) (map label_in rs) (map label_of hs) same in
    λ i. record { number = (label i).0; key = (label i).1; end = now + 600000; kept = true; owner = (kept_hold now r).owner } ∷ left_by_crash now rs hs rest i
  where
    head : (x y : Label) (xs ys : List Label) → x ∷ xs ≡ y ∷ ys → x ≡ y
    head x y xs ys e = cc

    tail : (x y : Label) (xs ys : List Label) → x ∷ xs ≡ y ∷ ys → xs ≡ ys
    tail x y xs ys e = cc

pub labels_recovered : (now : ℕ) (rs : List HoldRecord) → AreRecordsOf (map (kept_hold now) rs) rs
labels_recovered now [] = refl
labels_recovered now (r ∷ rs) = ap (λ (l : List Label). label_in r ∷ l) (labels_recovered now rs)

-- ---- the numbers on a key, hold by hold

pub listed_more : (key : List ℕ) (h : Hold) (rest all : List Hold) (was now : List ℕ) → now ≡ (if bytes_eq h.key key then was ++ h.number ∷ [] else was) → was ++ numbers_on key (h ∷ rest) ≡ numbers_on key all
    → now ++ numbers_on key rest ≡ numbers_on key all
listed_more key h rest all was now is left = ap (λ (l : List ℕ). l ++ numbers_on key rest) is ∙ go (bytes_eq h.key key) ∙ left
  where
    go : (b : Bool) → (if b then was ++ h.number ∷ [] else was) ++ numbers_on key rest ≡ was ++ map (λ (x : Hold). x.number) (if b then h ∷ on_key key rest else on_key key rest)
    go true = append_assoc was (h.number ∷ []) (numbers_on key rest)
    go false = refl
