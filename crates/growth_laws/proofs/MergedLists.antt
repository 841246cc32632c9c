-- The merge of what several repositories added has each one's entries in its order, and all in order of time, count and number.
use Rattle.std.proofs.Common.{◌≡◌, ◌≢◌, ℕ, zero, suc, ◌+◌, ◌<◌, ◌≤◌, Bool, true, false, cond, ◌⊎◌, inl, inr, List, [], ◌∷◌, Some, refl, sym, ap, ◌∙◌, arith}
use Rattle.std.specs.Prelude.{◌&&◌, ◌||◌, filter, ◌==◌, nat_lt}
use Rattle.std.proofs.lemmas.Bool.{and_from, and_parts, eq-eqb, eqb-true, lt-ltb, ltb-true, ne_eqb, or_cases, or_left, or_right}
use Rattle.annex_base.specs.Lists.{Each}
use Rattle.annex_base.specs.declared.kinds.EntryStamp.{EntryStamp}
use Rattle.annex_base.proofs.Conditions.{if_either, eqb_refl}
use Rattle.annex_base.proofs.Lists.{Each-weaker}
use Rattle.run_data.specs.declared.entry.Entry.{Entry}
use Rattle.run_model.specs.Past.{is_of}
use Rattle.run_model.specs.Run.{repo_number}
use Rattle.growth_laws.specs.Merged.{IsMerge, StandInOrder, earlier, insert, merge, merge_all, new_of, stamp_of, stands_before}

-- ---- stamps

-- the same as `earlier`, in three cases
abbrev Earlier : EntryStamp → EntryStamp → Type 0
Earlier a b = (a.time < b.time) ⊎ ((a.time ≡ b.time) × ((a.count < b.count) ⊎ ((a.count ≡ b.count) × (a.repo < b.repo))))

pub was_earlier : (a b : EntryStamp) → earlier a b ≡ true → Earlier a b
was_earlier a b h = elim (or_cases _ _ h) [
  | inl l ↦ inl (ltb-true a.time b.time l)
  | inr k ↦ let t = and_parts _ _ k in inr (
    eqb-true a.time b.time t.0,
    elim (or_cases _ _ t.1) [
      | inl l ↦ inl (ltb-true a.count b.count l)
      | inr m ↦ let u = and_parts _ _ m in inr (eqb-true a.count b.count u.0, ltb-true a.repo b.repo u.1)
    ],
  )
]

pub is_earlier : (a b : EntryStamp) → Earlier a b → earlier a b ≡ true
is_earlier a b (inl l) = or_left _ _ (lt-ltb a.time b.time l)
is_earlier a b (inr h) = or_right _ _ (and_from _ _ (eq-eqb a.time b.time h.0) (counts h.1))
  where
    counts : (a.count < b.count) ⊎ ((a.count ≡ b.count) × (a.repo < b.repo)) → (nat_lt a.count b.count || ((a.count == b.count) && nat_lt a.repo b.repo)) ≡ true
    counts (inl l) = or_left _ _ (lt-ltb a.count b.count l)
    counts (inr k) = or_right _ _ (and_from _ _ (eq-eqb a.count b.count k.0) (lt-ltb a.repo b.repo k.1))

trans : (a b c : EntryStamp) → Earlier a b → Earlier b c → Earlier a c
trans a b c (inl h) (inl k) = inl (omega arith)
trans a b c (inl h) (inr k) = inl (omega (arith, h, k.0))
trans a b c (inr h) (inl k) = inl (omega (arith, h.0, k))
trans a b c (inr h) (inr k) = inr (h.0 ∙ k.0, counts h.1 k.1)
  where
    counts : (a.count < b.count) ⊎ ((a.count ≡ b.count) × (a.repo < b.repo)) → (b.count < c.count) ⊎ ((b.count ≡ c.count) × (b.repo < c.repo)) → (a.count < c.count) ⊎ ((a.count ≡ c.count) × (a.repo < c.repo))
    counts (inl l) (inl m) = inl (omega arith)
    counts (inl l) (inr m) = inl (omega (arith, l, m.0))
    counts (inr l) (inl m) = inl (omega (arith, l.0, m))
    counts (inr l) (inr m) = inr (l.0 ∙ m.0, omega (arith, l.1, m.1))

pub earlier_trans : (a b c : EntryStamp) → earlier a b ≡ true → earlier b c ≡ true → earlier a c ≡ true
earlier_trans a b c h k = is_earlier a c (trans a b c (was_earlier a b h) (was_earlier b c k))

pub never_earlier : (a : EntryStamp) → earlier a a ≡ true → ⊥
never_earlier a h = no (was_earlier a a h)
  where
    no : Earlier a a → ⊥
    no (inl l) = omega (arith, l)
    no (inr (k, inl l)) = omega (arith, l)
    no (inr (k, inr l)) = omega (arith, l.1)

-- of two stamps of one time and of different numbers, one is earlier
or_earlier : (a b : EntryStamp) → a.time ≡ b.time → a.repo ≢ b.repo → (earlier a b ≡ true) ⊎ (earlier b a ≡ true)
or_earlier a b same other = elim (cases a.count b.count) [
  | inl l ↦ inl (is_earlier a b (inr (same, inl l)))
  | inr (inl l) ↦ inr (is_earlier b a (inr (sym same, inl l)))
  | inr (inr e) ↦ elim (cases a.repo b.repo) [
    | inl l ↦ inl (is_earlier a b (inr (same, inr (e, l))))
    | inr (inl l) ↦ inr (is_earlier b a (inr (sym same, inr (sym e, l))))
    | inr (inr d) ↦ absurd (other d)
  ]
]
  where
    cases : (m n : ℕ) → (m < n) ⊎ ((n < m) ⊎ (m ≡ n))
    cases m n = go (nat_lt m n) (nat_lt n m) refl refl
      where
        go : (b c : Bool) → nat_lt m n ≡ b → nat_lt n m ≡ c → (m < n) ⊎ ((n < m) ⊎ (m ≡ n))
        go true c h k = inl (ltb-true m n h)
        go false true h k = inr (inl (ltb-true n m k))
        go false false h k = inr (inr (grind arith))

-- ---- an entry is put in

-- of two entries, one stands before the other
abbrev Apart : Entry → Entry → Type 0
Apart e f = (stands_before e f ≡ true) ⊎ (stands_before f e ≡ true)

insert_each : (P : Entry → Type 0) (e : Entry) (fs : List Entry) → P e → Each P fs → Each P (insert e fs)
insert_each P e [] p h = (p, tt)
insert_each P e (f ∷ fs) p h = if_either (λ xs. Each P xs) (stands_before e f) (e ∷ f ∷ fs) (f ∷ insert e fs) (λ is. (p, h)) (λ is. (h.0, insert_each P e fs p h.1))

insert_rising : (e : Entry) (fs : List Entry) → StandInOrder fs → Each (Apart e) fs → StandInOrder (insert e fs)
insert_rising e [] h k = (tt, tt)
insert_rising e (f ∷ fs) h k = if_either StandInOrder (stands_before e f) (e ∷ f ∷ fs) (f ∷ insert e fs)
    (λ is. ((is, Each-weaker (λ g. stands_before f g ≡ true) (λ g. stands_before e g ≡ true) (λ g l. earlier_trans (stamp_of e) (stamp_of f) (stamp_of g) is l) fs h.0), h))
    (λ is. (insert_each (λ g. stands_before f g ≡ true) e fs (after is k.0) h.0, insert_rising e fs h.1 k.1))
  where
    after : stands_before e f ≡ false → Apart e f → stands_before f e ≡ true
    after is (inl l) = absurd (cc)
    after is (inr l) = l

-- it is one of r, and stands before the others of r
insert_own : (r : ℕ) (e : Entry) (fs : List Entry) → is_of r e ≡ true → Each (λ f. is_of r f ≡ true → stands_before e f ≡ true) fs → filter (is_of r) (insert e fs) ≡ e ∷ filter (is_of r) fs
insert_own r e [] is h = rw is refl
insert_own r e (f ∷ fs) is h = if_either (λ xs. filter (is_of r) xs ≡ e ∷ filter (is_of r) (f ∷ fs)) (stands_before e f) (e ∷ f ∷ fs) (f ∷ insert e fs)
    (λ l. rw is refl)
    (λ l. go l (insert_own r e fs is h.1) (is_of r f) refl)
  where
    go : stands_before e f ≡ false → filter (is_of r) (insert e fs) ≡ e ∷ filter (is_of r) fs → (b : Bool) → is_of r f ≡ b → filter (is_of r) (f ∷ insert e fs) ≡ e ∷ filter (is_of r) (f ∷ fs)
    go l ih true m = let k : stands_before e f ≡ true = h.0 m in absurd (cc)
    go l ih false m = rw m ih

-- or of another
insert_other : (r : ℕ) (e : Entry) (fs : List Entry) → is_of r e ≡ false → filter (is_of r) (insert e fs) ≡ filter (is_of r) fs
insert_other r e [] is = rw is refl
insert_other r e (f ∷ fs) is = if_either (λ xs. filter (is_of r) xs ≡ filter (is_of r) (f ∷ fs)) (stands_before e f) (e ∷ f ∷ fs) (f ∷ insert e fs)
    (λ l. rw is refl)
    (λ l. ap (λ xs. cond (is_of r f) (f ∷ xs) xs) (insert_other r e fs is))

-- ---- several lists

-- each list has the entries of one repository, in order, all of one time
abbrev pub IsNews : ℕ → ℕ → List (List Entry) → Type 0
IsNews t n [] = Unit {0}
IsNews t n (es ∷ ess) = Each (λ e. (e.repo ≡ Some n) × (e.time ≡ t)) es × StandInOrder es × IsNews t (suc n) ess

record Merges (t n : ℕ) (ess : List (List Entry)) (all : List Entry) : Type 0 where
  pub rising : StandInOrder all
  pub made : Each (λ e. (r : ℕ) × (e.repo ≡ Some r) × (n ≤ r) × (e.time ≡ t)) all
  pub own : (k r : ℕ) → r ≡ n + k → filter (is_of r) all ≡ new_of ess k

is_same : (r q : ℕ) (e : Entry) → e.repo ≡ Some q → is_of r e ≡ (q == r)
is_same r q e h = rw h refl

none_own : (r : ℕ) (fs : List Entry) → Each (λ f. is_of r f ≡ false) fs → filter (is_of r) fs ≡ []
none_own r [] h = refl
none_own r (f ∷ fs) h = rw h.0 (none_own r fs h.1)

module _ (t n : ℕ) (fs : List Entry) (made : Each (λ e. (r : ℕ) × (e.repo ≡ Some r) × (suc n ≤ r) × (e.time ≡ t)) fs) where
  merge_each : (P : Entry → Type 0) (es : List Entry) → Each P es → Each P fs → Each P (merge es fs)
  merge_each P [] h k = k
  merge_each P (e ∷ es) h k = insert_each P e (merge es fs) h.0 (merge_each P es h.1 k)

  others : Each (λ f. is_of n f ≡ false) fs
  others = Each-weaker _ _ (λ f m. is_same n m.0 f m.1 ∙ ne_eqb m.0 n (λ same. let l = m.2 in omega (arith, l, same))) fs made

  apart : (e : Entry) → e.repo ≡ Some n → e.time ≡ t → Each (Apart e) fs
  apart e is at = Each-weaker _ _ (λ f m. or_earlier (stamp_of e) (stamp_of f) (at ∙ sym m.3)
      (λ same. let l = m.2 in let same' : n ≡ m.0 = sym (ap repo_number is) ∙ same ∙ ap repo_number m.1 in omega (arith, l, same'))) fs made

  merge_rising : (es : List Entry) → Each (λ e. (e.repo ≡ Some n) × (e.time ≡ t)) es → StandInOrder es → StandInOrder fs → StandInOrder (merge es fs)
  merge_rising [] h k l = l
  merge_rising (e ∷ es) h k l = insert_rising e (merge es fs) (merge_rising es h.1 k.1 l) (merge_each (Apart e) es (Each-weaker _ _ (λ f m. inl m) es k.0) (apart e h.0.0 h.0.1))

  merge_own : (es : List Entry) → Each (λ e. (e.repo ≡ Some n) × (e.time ≡ t)) es → StandInOrder es → filter (is_of n) (merge es fs) ≡ es
  merge_own [] h k = none_own n fs others
  merge_own (e ∷ es) h k = insert_own n e (merge es fs) (is_same n n e h.0.0 ∙ eqb_refl n)
      (merge_each (λ f. is_of n f ≡ true → stands_before e f ≡ true) es (Each-weaker _ _ (λ f m is. m) es k.0) (Each-weaker _ _ (λ f no is. absurd (cc)) fs others))
      ∙ ap (λ xs. e ∷ xs) (merge_own es h.1 k.1)

  merge_other : (r : ℕ) (es : List Entry) → n ≢ r → Each (λ e. (e.repo ≡ Some n) × (e.time ≡ t)) es → filter (is_of r) (merge es fs) ≡ filter (is_of r) fs
  merge_other r [] other h = refl
  merge_other r (e ∷ es) other h = insert_other r e (merge es fs) (is_same r n e h.0.0 ∙ ne_eqb n r other) ∙ merge_other r es other h.1

merges : (t n : ℕ) (ess : List (List Entry)) → IsNews t n ess → Merges t n ess (merge_all ess)
merges t n [] h = record { rising = tt; made = tt; own = λ k r is. refl }
merges t n (es ∷ ess) h =
    let m = merges t (suc n) ess h.2 in
    record {
      rising = merge_rising t n (merge_all ess) m.made es h.0 h.1 m.rising;
      made = merge_each t n (merge_all ess) m.made _ es (Each-weaker _ _ (λ e x. (n, x.0, omega arith, x.1)) es h.0) (Each-weaker _ _ (λ e x. (x.0, x.1, (let l = x.2 in omega (arith, l)), x.3)) (merge_all ess) m.made);
      own = λ k r is. here m k r is;
    }
  where
    here : Merges t (suc n) ess (merge_all ess) → (k r : ℕ) → r ≡ n + k → filter (is_of r) (merge es (merge_all ess)) ≡ new_of (es ∷ ess) k
    here m zero r is = let same : r ≡ n = omega (arith, is) in ap (λ q. filter (is_of q) (merge es (merge_all ess))) same ∙ merge_own t n (merge_all ess) m.made es h.0 h.1
    here m (suc k) r is = merge_other t n (merge_all ess) m.made r es (λ same. omega (arith, is, same)) h.0 ∙ m.own k r (omega (arith, is))

-- the merge of what several repositories added at one time
pub is_merge : (t : ℕ) (news : List (List Entry)) → IsNews t 0 news → IsMerge news (merge_all news)
is_merge t news h = let m = merges t 0 news h in record { rising = m.rising; made = Each-weaker _ _ (λ e x. (x.0, x.1)) (merge_all news) m.made; own = λ r. m.own r r (omega arith) }
