-- New entries that are in order for each repository alone, and merged in order, are in order behind the run.
use Rattle.std.proofs.Common.{◌≡◌, ℕ, ◌<◌, ◌≤◌, ◌^◌, Bool, true, false, cond, ◌⊎◌, inl, inr, List, [], ◌∷◌, ◌++◌, Option, Some, None, refl, sym, ◌∙◌, subst, arith}
use Rattle.std.proofs.lemmas.List.{reverse-append, reverse-reverse}
use Rattle.std.specs.Prelude.{filter, reverse, nat_lt}
use Rattle.annex_base.specs.Lists.{Each}
use Rattle.annex_base.proofs.Lists.{Each-append, Each-weaker, Each-reverse}
use Rattle.annex_base.proofs.Conditions.{eqb_refl}
use Rattle.run_data.specs.declared.entry.Entry.{Entry}
use Rattle.run_data.specs.declared.entry.EntryKind.{EntryKind}
use Rattle.run_data.specs.declared.entry.EntryKind.TheVariants.{Wait}
use Rattle.run_model.specs.Past.{Always, Occurs, is_of, now}
use Rattle.run_model.specs.Run.{ComesAfter, IsSmall, ComesInOrder, TimeIs}
use Rattle.growth_laws.specs.Merged.{AllComeInOrder, StandInOrder, stamp_of, stands_before}
use Rattle.past_facts.proofs.OwnRuns.{in_order}
use Rattle.growth_laws.proofs.MergedLists.{earlier_trans, is_earlier, was_earlier}

-- ---- lists

pub reverse_cons : {X : Type 0} (x : X) (xs : List X) → reverse (x ∷ xs) ≡ reverse xs ++ x ∷ []
reverse_cons x xs = reverse-append (x ∷ []) xs

-- what is so of the entries of each repository is so of all
pub each_by_own : (P : Entry → Type 0) (es : List Entry) → ((r : ℕ) → Each P (filter (is_of r) es)) → Each (λ e. (r : ℕ) × (e.repo ≡ Some r)) es → Each P es
each_by_own P [] h k = tt
each_by_own P (e ∷ es) h k = (first k.0.0 (h k.0.0) (is_own k.0.0 k.0.1), each_by_own P es (λ r. rest r (is_of r e) (h r)) k.1)
  where
    is_own : (r : ℕ) → e.repo ≡ Some r → is_of r e ≡ true
    is_own r is = rw is (eqb_refl r)

    first : (r : ℕ) → Each P (filter (is_of r) (e ∷ es)) → is_of r e ≡ true → P e
    first r h is = (rw is at h).0

    rest : (r : ℕ) (b : Bool) → Each P (cond b (e ∷ filter (is_of r) es) (filter (is_of r) es)) → Each P (filter (is_of r) es)
    rest r true h = h.1
    rest r false h = h

-- ---- the newest first

abbrev pub Falling : List Entry → Type 0
Falling [] = Unit {0}
Falling (e ∷ es) = Each (λ f. stands_before f e ≡ true) es × Falling es

falling_last : (es : List Entry) (e : Entry) → Falling es → Each (λ f. stands_before e f ≡ true) es → Falling (es ++ e ∷ [])
falling_last [] e h k = (tt, tt)
falling_last (f ∷ es) e h k = (Each-append (λ g. stands_before g f ≡ true) es (e ∷ []) h.0 (k.0, tt), falling_last es e h.1 k.1)

rising_last : (es : List Entry) (e : Entry) → StandInOrder es → Each (λ f. stands_before f e ≡ true) es → StandInOrder (es ++ e ∷ [])
rising_last [] e h k = (tt, tt)
rising_last (f ∷ es) e h k = (Each-append (λ g. stands_before f g ≡ true) es (e ∷ []) h.0 (k.0, tt), rising_last es e h.1 k.1)

pub rising_falls : (es : List Entry) → StandInOrder es → Falling (reverse es)
rising_falls [] h = tt
rising_falls (e ∷ es) h = subst Falling (sym (reverse_cons e es)) (falling_last (reverse es) e (rising_falls es h.1) (Each-reverse (λ f. stands_before e f ≡ true) es h.0))

falling_rises : (es : List Entry) → Falling es → StandInOrder (reverse es)
falling_rises [] h = tt
falling_rises (e ∷ es) h = subst StandInOrder (sym (reverse_cons e es)) (rising_last (reverse es) e (falling_rises es h.1) (Each-reverse (λ f. stands_before f e ≡ true) es h.0))

-- ---- an entry in order

-- after the newest entry
abbrev pub Late : List Entry → Entry → Type 0
Late [] e = Unit {0}
Late (f ∷ past) e = stands_before f e ≡ true

same_time : (before : ℕ) (e : Entry) (kind : EntryKind) (repo : Option ℕ) (r : ℕ) → repo ≡ Some r → TimeIs before e kind repo → e.time ≡ before
same_time before e (Wait ms) None r is h = absurd (cc)
same_time before e kind (Some q) r is h = h
same_time before e _ None r is h = elim h [ ]

pub of_time : (before : ℕ) (e : Entry) (kind : EntryKind) (repo : Option ℕ) (r : ℕ) → repo ≡ Some r → e.time ≡ before → TimeIs before e kind repo
of_time before e (Wait ms) None r is h = absurd (cc)
of_time before e kind (Some q) r is h = h
of_time before e _ None r is h = absurd (cc)

pub is_late : (past : List Entry) (e : Entry) → ComesInOrder past e → Late past e
is_late [] e o = tt
is_late (f ∷ past) e o = is_earlier (stamp_of f) (stamp_of e) (go (nat_lt f.time e.time) refl o.after)
  where
    later : f.time ≤ e.time
    later = in_order f.time e e.kind e.repo o.time_is

    go : (b : Bool) → nat_lt f.time e.time ≡ b → ComesAfter (f ∷ past) e → (f.time < e.time) ⊎ ((f.time ≡ e.time) × ((f.count < e.count) ⊎ ((f.count ≡ e.count) × ((stamp_of f).repo < (stamp_of e).repo))))
    go true is h = inl (grind arith)
    go false is (inl h) = inl h
    go false is (inr h) = inr ((let l = later in grind arith), h)

comes_after : (past : List Entry) (e : Entry) → Late past e → ComesAfter past e
comes_after [] e h = tt
comes_after (f ∷ past) e h = elim (was_earlier (stamp_of f) (stamp_of e) h) [ inl l ↦ inl l | inr l ↦ inr l.1 ]

-- ---- entries that are in order behind a run

-- what such an entry has
pub record IsNew (base : List Entry) (n : ℕ) (e : Entry) : Type 0 where
  pub repo : ℕ
  pub is : e.repo ≡ Some repo
  pub known : repo < n
  pub at : e.time ≡ now base
  pub late : Late base e
  pub in_time : e.time ≤ 1000000000000
  pub counted : e.count < 2 ^ 62
  pub small : IsSmall e.kind

-- the time of the newest, and that what comes after it comes after the run
new_now : (base : List Entry) (n : ℕ) (es : List Entry) → Each (IsNew base n) es → now (es ++ base) ≡ now base
new_now base n [] h = refl
new_now base n (e ∷ es) h = h.0.at

new_late : (base : List Entry) (n : ℕ) (es : List Entry) (e : Entry) → Each (IsNew base n) es → Late (es ++ base) e → Late base e
new_late base n [] e h k = k
new_late base n (f ∷ es) e h k = over base h.0.late
  where
    over : (past : List Entry) → Late past f → Late past e
    over [] l = tt
    over (g ∷ past) l = earlier_trans (stamp_of g) (stamp_of f) (stamp_of e) l k

-- one repository's new entries
pub follow_new : (base : List Entry) (n r : ℕ) (es : List Entry) → r < n → AllComeInOrder base es → Each (λ e. e.repo ≡ Some r) es → Each (IsNew base n) es
follow_new base n r [] l h k = tt
follow_new base n r (e ∷ es) l h k =
    let rest = follow_new base n r es l h.1 k.1 in (
      record {
        repo = r;
        is = k.0;
        known = l;
        at = same_time (now (es ++ base)) e e.kind e.repo r k.0 h.0.time_is ∙ new_now base n es rest;
        late = new_late base n es e rest (is_late (es ++ base) e h.0);
        in_time = h.0.in_time;
        counted = h.0.counted;
        small = h.0.small;
      },
      rest,
    )

late_all : (base es : List Entry) (e : Entry) → Late (es ++ base) e → Falling es → Each (λ f. stands_before f e ≡ true) es
late_all base [] e h k = tt
late_all base (f ∷ es) e h k = (h, Each-weaker _ _ (λ g l. earlier_trans (stamp_of g) (stamp_of f) (stamp_of e) l h) es k.0)

follow_falls : (base es : List Entry) → AllComeInOrder base es → Falling es
follow_falls base [] h = tt
follow_falls base (e ∷ es) h = let rest = follow_falls base es h.1 in (late_all base es e (is_late (es ++ base) e h.0) rest, rest)

pub follow_rises : (base es : List Entry) → AllComeInOrder base (reverse es) → StandInOrder es
follow_rises base es h = subst StandInOrder (reverse-reverse es) (falling_rises (reverse es) (follow_falls base (reverse es) h))

-- entries of any repositories, in order among themselves
pub new_ordered : (base : List Entry) (n : ℕ) (es : List Entry) → Always ComesInOrder base → Each (IsNew base n) es → Falling es → Always ComesInOrder (es ++ base)
new_ordered base n [] o h k = o
new_ordered base n (e ∷ es) o h k = (
  record {
    after = comes_after (es ++ base) e (after es k.0);
    time_is = of_time (now (es ++ base)) e e.kind e.repo h.0.repo h.0.is (h.0.at ∙ sym (new_now base n es h.1));
    in_time = h.0.in_time;
    counted = h.0.counted;
    small = h.0.small;
  },
  new_ordered base n es o h.1 k.1,
)
  where
    after : (fs : List Entry) → Each (λ f. stands_before f e ≡ true) fs → Late (fs ++ base) e
    after [] l = h.0.late
    after (f ∷ fs) l = l.0

-- an entry is earlier than those after it
pub occurs_before : (past : List Entry) (y e : Entry) (before : List Entry) → Always ComesInOrder (y ∷ past) → Occurs past e before → stands_before e y ≡ true
occurs_before [] y e before h o = absurd o
occurs_before (f ∷ past) y e before h (inl o) = subst (λ (x : Entry). stands_before x y ≡ true) (sym o.0) (is_late (f ∷ past) y h.0)
occurs_before (f ∷ past) y e before h (inr o) = earlier_trans (stamp_of e) (stamp_of f) (stamp_of y) (occurs_before past f e before h.1 o) (is_late (f ∷ past) y h.0)
