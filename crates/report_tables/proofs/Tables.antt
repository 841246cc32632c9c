-- How a table of contents changes by an entry.
use Rattle.std.proofs.Common.{◌≡◌, ◌≢◌, ℕ, ◌+◌, ◌-◌, ◌<◌, Bool, true, false, cond, not, ◌&&◌, ◌||◌, List, ◌∷◌, length, set, get_or-set_same, get_or-set_other, Some, if◌then◌else◌, arith, inl, inr, refl, sym, ap, ◌∙◌, subst}
use Rattle.std.specs.BTreeSet.{BTreeSet, btree_set_len, contains, Updates}
use Rattle.std.specs.Str.{bytes_eq}
use Rattle.std.proofs.lemmas.Map.Text.{is_eq-slice_cmp}
use Rattle.std.proofs.lemmas.Bool.Decides.{eqb_tells}
use Rattle.run_data.specs.declared.entry.Entry.{Entry}
use Rattle.node_model.specs.Rows.{present_after}
use Rattle.run_model.specs.Past.{present}
use Rattle.run_data.specs.declared.entry.EntryKind.{EntryKind}
use Rattle.run_data.specs.declared.entry.EntryKind.TheVariants.{Gain, Gone}
use Rattle.report_tables.specs.Before.{total, total_after}
use Rattle.report_tables.specs.Contents.{count_of, key_cmp, no_keys, knows}

cond_or : (a b : Bool) → cond a true b ≡ (b || a)
cond_or true true = refl
cond_or true false = refl
cond_or false true = refl
cond_or false false = refl

cond_and : (a b : Bool) → cond a false b ≡ (b && not a)
cond_and true true = refl
cond_and true false = refl
cond_and false true = refl
cond_and false false = refl

pub contains_gained : (s n : BTreeSet (List ℕ)) (k key : List ℕ) → Updates key_cmp s n k true → contains key_cmp n key ≡ (contains key_cmp s key || bytes_eq k key)
contains_gained s n k key u = u.0 key ∙ ap (λ (b : Bool). cond b true (contains key_cmp s key)) (is_eq-slice_cmp k key) ∙ cond_or (bytes_eq k key) (contains key_cmp s key)

pub contains_gone : (s n : BTreeSet (List ℕ)) (k key : List ℕ) → Updates key_cmp s n k false → contains key_cmp n key ≡ (contains key_cmp s key && not (bytes_eq k key))
contains_gone s n k key u = u.0 key ∙ ap (λ (b : Bool). cond b false (contains key_cmp s key)) (is_eq-slice_cmp k key) ∙ cond_and (bytes_eq k key) (contains key_cmp s key)

knows_same : (sets : List (BTreeSet (List ℕ))) (i : ℕ) (s : BTreeSet (List ℕ)) (key : List ℕ) → i < length sets → knows (set sets i s) i key ≡ contains key_cmp s key
knows_same sets i s key within = ap (λ (x : BTreeSet (List ℕ)). contains key_cmp x key) (get_or-set_same sets i s no_keys within)

knows_other : (sets : List (BTreeSet (List ℕ))) (i r : ℕ) (s : BTreeSet (List ℕ)) (key : List ℕ) → r ≢ i → knows (set sets i s) r key ≡ knows sets r key
knows_other sets i r s key apart = ap (λ (x : BTreeSet (List ℕ)). contains key_cmp x key) (get_or-set_other sets i r s no_keys apart)

-- a table whose set of the entry's repository took note of the entry
pub knows_noted : (sets : List (BTreeSet (List ℕ))) (i : ℕ) (s : BTreeSet (List ℕ)) (past : List Entry) (e : Entry) (r : ℕ) (key : List ℕ)
    → e.repo ≡ Some i → i < length sets → contains key_cmp s key ≡ present_after key (knows sets i key) e.kind
    → (knows sets r key ≡ present past r key) → knows (set sets i s) r key ≡ present (e ∷ past) r key
knows_noted sets i s past e r key of_i within noted known = elim (eqb_tells i r) [
  | inl same ↦ rw (of_i, same.0) (subst (λ (q : ℕ). knows (set sets i s) q key ≡ present_after key (present past q key) e.kind) same.1
      (knows_same sets i s key within ∙ noted ∙ ap (λ (b : Bool). present_after key b e.kind) (subst (λ (q : ℕ). knows sets q key ≡ present past q key) (sym same.1) known)))
  | inr apart ↦ rw (of_i, apart.0) (let ne : r ≢ i = λ h. apart.1 (sym h) in knows_other sets i r s key ne ∙ known)
]

-- and one whose set stayed as it was, by look-ups
pub knows_kept : (sets : List (BTreeSet (List ℕ))) (i : ℕ) (s : BTreeSet (List ℕ)) (r : ℕ) (key : List ℕ)
    → i < length sets → contains key_cmp s key ≡ knows sets i key → knows (set sets i s) r key ≡ knows sets r key
knows_kept sets i s r key within kept = elim (eqb_tells i r) [
  | inl same ↦ subst (λ (q : ℕ). knows (set sets i s) q key ≡ knows sets q key) same.1 (knows_same sets i s key within ∙ kept)
  | inr apart ↦ (let ne : r ≢ i = λ h. apart.1 (sym h) in knows_other sets i r s key ne)
]

-- ---- how many

-- a gain adds one where the key is new, a removal takes one where it was there
pub count_gained : (here added : Bool) (was now : ℕ) → added ≡ not here → now ≡ was + (if added then 1 else 0) → now ≡ (if here then was else was + 1)
count_gained true false was now new is = is ∙ add_none was
  where
    add_none : (n : ℕ) → n + 0 ≡ n
    add_none n = omega arith
count_gained true true was now new is = absurd cc
count_gained false true was now new is = is
count_gained false false was now new is = absurd cc

pub count_gone : (here gone : Bool) (was now : ℕ) → gone ≡ here → now + (if gone then 1 else 0) ≡ was → now ≡ (if here then was - 1 else was)
count_gone true true was now same is = omega (arith, is)
count_gone true false was now same is = absurd cc
count_gone false false was now same is = omega (arith, is)
count_gone false true was now same is = absurd cc

-- what is there is asked of the entry's key alone
total_alike : (here there : List ℕ → Bool) (was : ℕ) (kind : EntryKind) → ((key : List ℕ) → here key ≡ there key) → total_after here was kind ≡ total_after there was kind
total_alike here there was (Gain by size key) same = ap (λ (b : Bool). if b then was else was + 1) (same key)
total_alike here there was (Gone by key) same = ap (λ (b : Bool). if b then was - 1 else was) (same key)
total_alike here there was kind same = refl

-- a table whose set of the entry's repository took note of the entry
pub count_noted : (sets : List (BTreeSet (List ℕ))) (i : ℕ) (s : BTreeSet (List ℕ)) (past : List Entry) (e : Entry) (r : ℕ)
    → e.repo ≡ Some i → i < length sets → btree_set_len s ≡ total_after (knows sets i) (count_of sets i) e.kind
    → ((key : List ℕ) → knows sets r key ≡ present past r key) → count_of sets r ≡ total past r → count_of (set sets i s) r ≡ total (e ∷ past) r
count_noted sets i s past e r of_i within noted known counted = elim (eqb_tells i r) [
  | inl same ↦ rw (of_i, same.0) (subst (λ (q : ℕ). count_of (set sets i s) q ≡ total_after (present past q) (total past q) e.kind) same.1
      (ap btree_set_len (get_or-set_same sets i s no_keys within) ∙ noted
      ∙ total_alike (knows sets i) (present past i) (count_of sets i) e.kind (subst (λ (q : ℕ). (key : List ℕ) → knows sets q key ≡ present past q key) (sym same.1) known)
      ∙ ap (λ (n : ℕ). total_after (present past i) n e.kind) (subst (λ (q : ℕ). count_of sets q ≡ total past q) (sym same.1) counted)))
  | inr apart ↦ rw (of_i, apart.0) (let ne : r ≢ i = λ h. apart.1 (sym h) in ap btree_set_len (get_or-set_other sets i r s no_keys ne) ∙ counted)
]

-- and one whose set has as many keys as before
pub count_kept : (sets : List (BTreeSet (List ℕ))) (i : ℕ) (s : BTreeSet (List ℕ)) (r : ℕ) → i < length sets → btree_set_len s ≡ count_of sets i → count_of (set sets i s) r ≡ count_of sets r
count_kept sets i s r within kept = elim (eqb_tells i r) [
  | inl same ↦ subst (λ (q : ℕ). count_of (set sets i s) q ≡ count_of sets q) same.1 (ap btree_set_len (get_or-set_same sets i s no_keys within) ∙ kept)
  | inr apart ↦ (let ne : r ≢ i = λ h. apart.1 (sym h) in ap btree_set_len (get_or-set_other sets i r s no_keys ne))
]
