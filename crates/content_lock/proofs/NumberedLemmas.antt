-- Holds in order of their numbers, as entries of a map.
use Rattle.std.proofs.Common.{◌≡◌, ℕ, ◌<◌, Bool, true, false, not, List, [], ◌∷◌, ◌++◌, Option, Some, None, refl, sym, ap, ◌∙◌, subst, arith, append-nil, cond}
use Rattle.std.specs.Prelude.{◌==◌, ◌||◌, All, filter, map, reverse, find, if◌then◌else◌}
use Rattle.std.specs.BTreeMap.{insert_entry, is_at}
use Rattle.std.specs.Map.{values_of, lookup, remove_entry, set_value}
use Rattle.std.specs.Ordering.{nat_cmp, is_eq}
use Rattle.std.specs.declared.cmp.Ordering.TheVariants.{Greater}
use Rattle.std.specs.Cmp.{nat_cmp_is}
use mathlib.Core.List.{reverse-cons, reverse-reverse}
use Rattle.std.proofs.lemmas.List.{map-append}
use Rattle.std.proofs.lemmas.List.Elements.{filter-append}
use Rattle.std.proofs.Math.Bool.{or-false, or-true}
use Rattle.annex_base.specs.Lists.{Each}
use Rattle.annex_base.proofs.Lists.{Each-append, Each-filter, Each-from_All, Each-reverse, Each-weaker, filter_all, find_member, find_nowhere}
use Rattle.annex_base.proofs.Conditions.{eqb_more}
use Rattle.run_data.specs.declared.row.Hold.{Hold}
use Rattle.content_lock.specs.Indexed.{AreRising, AreFalling, with_number}
use Rattle.content_lock.specs.Tokens.{keep_numbered, others_of}

-- ---- entries and their holds

pub values-numbered : (hs : List Hold) → values_of (map with_number hs) ≡ hs
values-numbered [] = refl
values-numbered (h ∷ hs) = ap (λ l. h ∷ l) (values-numbered hs)

pub values-append : (es fs : List (ℕ × Hold)) → values_of (es ++ fs) ≡ values_of es ++ values_of fs
values-append [] fs = refl
values-append (e ∷ es) fs = ap (λ l. e.1 ∷ l) (values-append es fs)

pub numbered-append : (hs ks : List Hold) → map with_number (hs ++ ks) ≡ map with_number hs ++ map with_number ks
numbered-append [] ks = refl
numbered-append (h ∷ hs) ks = ap (λ l. with_number h ∷ l) (numbered-append hs ks)

-- ---- numbers compared

greater_is : (n m : ℕ) → m < n → nat_cmp n m ≡ Greater
greater_is n m lt = sym (nat_cmp_is n m Greater lt)

pub at_is : (n m : ℕ) → is_eq (nat_cmp n m) ≡ (m == n)
at_is n m = grind arith

not_at : (n m : ℕ) → n < m → not (m == n) ≡ true
not_at n m lt = grind arith

-- ---- a hold of a greater number goes last

pub insert_last : (hs : List Hold) (n : ℕ) (h : Hold) → Each (λ x. x.number < n) hs → insert_entry nat_cmp (map with_number hs) n h ≡ map with_number hs ++ (n, h) ∷ []
insert_last [] n h less = refl
insert_last (x ∷ xs) n h less = rw (greater_is n x.number less.0) (ap (λ l. with_number x ∷ l) (insert_last xs n h less.1))

-- ---- one that is looked up

pub lookup_is : (hs : List Hold) (n : ℕ) → lookup (is_at (nat_cmp n)) (map with_number hs) ≡ find (λ h. h.number == n) hs
lookup_is [] n = refl
lookup_is (h ∷ hs) n = rw (at_is n h.number, lookup_is hs n) refl

-- ---- one that is taken off

remove_none : (hs : List Hold) (n : ℕ) → Each (λ x. n < x.number) hs → others_of n hs ≡ hs
remove_none hs n more = filter_all (λ h. not (h.number == n)) hs (Each-weaker (λ x. n < x.number) (λ h. not (h.number == n) ≡ true) (λ x lt. not_at n x.number lt) hs more)

pub remove_is : (hs : List Hold) (n : ℕ) → AreRising hs → remove_entry (is_at (nat_cmp n)) (map with_number hs) ≡ map with_number (others_of n hs)
remove_is [] n rising = refl
remove_is (h ∷ hs) n rising = rw (at_is n h.number) (go (remove_is hs n rising.1) (h.number == n) refl)
  where
    go : remove_entry (is_at (nat_cmp n)) (map with_number hs) ≡ map with_number (others_of n hs) → (b : Bool) → (h.number == n) ≡ b
        → cond b (map with_number hs) (with_number h ∷ remove_entry (is_at (nat_cmp n)) (map with_number hs)) ≡ map with_number (if not b then h ∷ others_of n hs else others_of n hs)
    go ih true is = let same : h.number ≡ n = grind arith in
        ap (map with_number) (sym (remove_none hs n (subst (λ m. Each (λ x. m < x.number) hs) same rising.0)))
    go ih false is = ap (λ l. with_number h ∷ l) ih

-- ---- one that is written

-- the holds with another in the place of the one of this number
abbrev pub put_at : ℕ → Hold → Hold → Hold
put_at n w h = if h.number == n then w else h

put_none : (hs : List Hold) (n : ℕ) (w : Hold) → Each (λ x. n < x.number) hs → map (put_at n w) hs ≡ hs
put_none [] n w more = refl
put_none (h ∷ hs) n w more = rw (eqb_more n h.number more.0) (ap (λ l. h ∷ l) (put_none hs n w more.1))

pub set_is : (hs : List Hold) (n : ℕ) (w : Hold) → w.number ≡ n → AreRising hs → set_value (is_at (nat_cmp n)) (map with_number hs) w ≡ map with_number (map (put_at n w) hs)
set_is [] n w named rising = refl
set_is (h ∷ hs) n w named rising = rw (at_is n h.number) (go (set_is hs n w named rising.1) (h.number == n) refl)
  where
    go : set_value (is_at (nat_cmp n)) (map with_number hs) w ≡ map with_number (map (put_at n w) hs) → (b : Bool) → (h.number == n) ≡ b
        → cond b ((h.number, w) ∷ map with_number hs) (with_number h ∷ set_value (is_at (nat_cmp n)) (map with_number hs) w) ≡ with_number (if b then w else h) ∷ map with_number (map (put_at n w) hs)
    go ih true is =
        let same : h.number ≡ n = grind arith in
        let rest : map (put_at n w) hs ≡ hs = put_none hs n w (subst (λ m. Each (λ x. m < x.number) hs) same rising.0) in
        λ i. ((same ∙ sym named) i, w) ∷ map with_number (sym rest i)
    go ih false is = ap (λ l. with_number h ∷ l) ih

-- ---- the one hold of a number

above_other : (hs : List Hold) (n : ℕ) (P : Hold → Type 0) → Each (λ x. n < x.number) hs → Each (λ x. (x.number == n) ≡ true → P x) hs
above_other hs n P more = Each-weaker (λ x. n < x.number) (λ x. (x.number == n) ≡ true → P x) (λ x lt is. absurd (let no = eqb_more n x.number lt in cc)) hs more

pub one_of : (hs : List Hold) (n : ℕ) (h : Hold) → AreRising hs → find (λ x. x.number == n) hs ≡ Some h → Each (λ x. (x.number == n) ≡ true → x ≡ h) hs
one_of [] n h rising found = tt
one_of (x ∷ xs) n h rising found = go (one_of xs n h rising.1) (x.number == n) refl found
  where
    go : (find (λ y. y.number == n) xs ≡ Some h → Each (λ y. (y.number == n) ≡ true → y ≡ h) xs) → (b : Bool) → (x.number == n) ≡ b → cond b (Some x) (find (λ y. y.number == n) xs) ≡ Some h → ((x.number == n) ≡ true → x ≡ h) × Each (λ y. (y.number == n) ≡ true → y ≡ h) xs
    go ih true is found =
        let same : x.number ≡ n = grind arith in
        let it : x ≡ h = cc in
        (λ _. it, above_other xs n (λ y. y ≡ h) (subst (λ m. Each (λ y. m < y.number) xs) same rising.0))
    go ih false is found = (λ yes. absurd (let no = is in cc), ih found)

-- ---- orders

pub rising-map : (f : Hold → Hold) → ((h : Hold) → (f h).number ≡ h.number) → (hs : List Hold) → AreRising hs → AreRising (map f hs)
rising-map f same [] rising = tt
rising-map f same (h ∷ hs) rising = (go hs rising.0, rising-map f same hs rising.1)
  where
    go : (xs : List Hold) → Each (λ x. h.number < x.number) xs → Each (λ x. (f h).number < x.number) (map f xs)
    go [] less = tt
    go (x ∷ xs) less = (rw (same h, same x) less.0, go xs less.1)

pub rising-filter : (p : Hold → Bool) (hs : List Hold) → AreRising hs → AreRising (filter p hs)
rising-filter p [] rising = tt
rising-filter p (h ∷ hs) rising = go (rising-filter p hs rising.1) (p h)
  where
    go : AreRising (filter p hs) → (b : Bool) → AreRising (if b then h ∷ filter p hs else filter p hs)
    go ih true = (Each-filter (λ x. h.number < x.number) p hs rising.0, ih)
    go ih false = ih

pub rising-last : (hs : List Hold) (h : Hold) → Each (λ x. x.number < h.number) hs → AreRising hs → AreRising (hs ++ h ∷ [])
rising-last [] h less rising = (tt, tt)
rising-last (x ∷ xs) h less rising = (Each-append (λ y. x.number < y.number) xs (h ∷ []) rising.0 (less.0, tt), rising-last xs h less.1 rising.1)

falling-last : (hs : List Hold) (h : Hold) → Each (λ x. h.number < x.number) hs → AreFalling hs → AreFalling (hs ++ h ∷ [])
falling-last [] h less falling = (tt, tt)
falling-last (x ∷ xs) h less falling = (Each-append (λ y. y.number < x.number) xs (h ∷ []) falling.0 (less.0, tt), falling-last xs h less.1 falling.1)

pub falling-reverse : (hs : List Hold) → AreRising hs → AreFalling (reverse hs)
falling-reverse [] rising = tt
falling-reverse (h ∷ hs) rising =
    subst AreFalling (sym (reverse-cons h hs)) (falling-last (reverse hs) h (Each-reverse (λ x. h.number < x.number) hs rising.0) (falling-reverse hs rising.1))

-- ---- what the map's calls leave

pub inserted : (es fs : List (ℕ × Hold)) (h : Hold) → es ≡ map with_number (values_of es) → Each (λ x. x.number < h.number) (values_of es) → fs ≡ insert_entry nat_cmp es h.number h → fs ≡ es ++ with_number h ∷ []
inserted es fs h named less is =
    is ∙ ap (λ (l : List (ℕ × Hold)). insert_entry nat_cmp l h.number h) named ∙ insert_last (values_of es) h.number h less ∙ ap (λ (l : List (ℕ × Hold)). l ++ with_number h ∷ []) (sym named)

pub values_more : (es fs : List (ℕ × Hold)) (h : Hold) → fs ≡ es ++ with_number h ∷ [] → values_of fs ≡ values_of es ++ h ∷ []
values_more es fs h is = ap values_of is ∙ values-append es (with_number h ∷ [])

pub removed : (es fs : List (ℕ × Hold)) (n : ℕ) → es ≡ map with_number (values_of es) → AreRising (values_of es) → fs ≡ remove_entry (is_at (nat_cmp n)) es → fs ≡ map with_number (others_of n (values_of es))
removed es fs n named rising is = is ∙ ap (remove_entry (is_at (nat_cmp n))) named ∙ remove_is (values_of es) n rising

pub values_less : (es fs : List (ℕ × Hold)) (n : ℕ) → fs ≡ map with_number (others_of n (values_of es)) → values_of fs ≡ others_of n (values_of es)
values_less es fs n is = ap values_of is ∙ values-numbered (others_of n (values_of es))

pub looked_up : (es : List (ℕ × Hold)) (n : ℕ) (o : Option Hold) → es ≡ map with_number (values_of es) → o ≡ lookup (is_at (nat_cmp n)) es → find (λ h. h.number == n) (values_of es) ≡ o
looked_up es n o named is = sym (is ∙ ap (lookup (is_at (nat_cmp n))) named ∙ lookup_is (values_of es) n)

put_keeps : (hs : List Hold) (n : ℕ) (h : Hold) → Each (λ x. (x.number == n) ≡ true → x ≡ h) hs → map (put_at n (record h { kept = true })) hs ≡ map (keep_numbered n) hs
put_keeps [] n h one = refl
put_keeps (x ∷ xs) n h one = λ i. go (x.number == n) one.0 i ∷ put_keeps xs n h one.1 i
  where
    go : (b : Bool) → (b ≡ true → x ≡ h) → (if b then record h { kept = true } else x) ≡ record x { kept = x.kept || b }
    go true is = ap (λ (y : Hold). record y { kept = true }) (sym (is refl)) ∙ ap (λ (c : Bool). record x { kept = c }) (sym (or-true x.kept))
    go false is = ap (λ (c : Bool). record x { kept = c }) (sym (or-false x.kept))

keeps_none : (hs : List Hold) (n : ℕ) → Each (λ x. (x.number == n) ≡ false) hs → hs ≡ map (keep_numbered n) hs
keeps_none [] n none = refl
keeps_none (x ∷ xs) n none = λ i. (ap (λ (c : Bool). record x { kept = c }) (sym (or-false x.kept)) ∙ ap (λ (b : Bool). record x { kept = x.kept || b }) (sym none.0)) i ∷ keeps_none xs n none.1 i

pub kept_one : (es fs : List (ℕ × Hold)) (n : ℕ) (h : Hold) → es ≡ map with_number (values_of es) → AreRising (values_of es) → Some h ≡ lookup (is_at (nat_cmp n)) es
    → fs ≡ set_value (is_at (nat_cmp n)) es (record h { kept = true }) → fs ≡ map with_number (map (keep_numbered n) (values_of es))
kept_one es fs n h named rising found is =
    let hs = values_of es in
    let at = looked_up es n (Some h) named found in
    let number : h.number ≡ n = number_is (find_member (λ x. x.number == n) hs h at).1 in
    is ∙ ap (λ (l : List (ℕ × Hold)). set_value (is_at (nat_cmp n)) l (record h { kept = true })) named ∙ set_is hs n (record h { kept = true }) number rising
    ∙ ap (map with_number) (put_keeps hs n h (one_of hs n h rising at))
  where
    number_is : (h.number == n) ≡ true → h.number ≡ n
    number_is e = grind arith

pub kept_none : (es fs : List (ℕ × Hold)) (n : ℕ) → es ≡ map with_number (values_of es) → None ≡ lookup (is_at (nat_cmp n)) es → fs ≡ es → fs ≡ map with_number (map (keep_numbered n) (values_of es))
kept_none es fs n named none is =
    let hs = values_of es in
    is ∙ named ∙ ap (map with_number) (keeps_none hs n (find_nowhere (λ x. x.number == n) hs (looked_up es n None named none)))

-- what is written of each
mapped : (f : Hold → Hold) → ((h : Hold) → (f h).number ≡ h.number) → (hs : List Hold) → map (λ (e : ℕ × Hold). (e.0, f e.1)) (map with_number hs) ≡ map with_number (map f hs)
mapped f number [] = refl
mapped f number (h ∷ hs) = λ i. (sym (number h) i, f h) ∷ mapped f number hs i

pub mapped_all : (f : Hold → Hold) → ((h : Hold) → (f h).number ≡ h.number) → (es fs : List (ℕ × Hold)) → es ≡ map with_number (values_of es) → fs ≡ map (λ (e : ℕ × Hold). (e.0, f e.1)) es → fs ≡ map with_number (map f (values_of es))
mapped_all f number es fs named is = is ∙ ap (map (λ (e : ℕ × Hold). (e.0, f e.1))) named ∙ mapped f number (values_of es)

-- ---- the list from the last on

filter-reverse : {X : Type 0} (p : X → Bool) (xs : List X) → reverse (filter p xs) ≡ filter p (reverse xs)
filter-reverse p [] = refl
filter-reverse {X} p (x ∷ xs) =
    let ih : reverse (filter p xs) ≡ filter p (reverse xs) = filter-reverse p xs in
    let here : reverse (filter p (x ∷ xs)) ≡ filter p (reverse xs) ++ filter p (x ∷ []) =
    elim (p x) as (λ b. reverse {A = X} (if b then x ∷ filter p xs else filter p xs) ≡ filter p (reverse xs) ++ (if b then x ∷ [] else []))
    [ true ↦ reverse-cons x (filter p xs) ∙ ap (λ (l : List X). l ++ x ∷ []) ih | false ↦ ih ∙ sym (append-nil (filter p (reverse xs))) ] in
    here ∙ sym (ap (filter p) (reverse-cons x xs) ∙ filter-append p (reverse xs) (x ∷ []))

map-reverse : {X Y : Type 0} (f : X → Y) (xs : List X) → reverse (map f xs) ≡ map f (reverse xs)
map-reverse f [] = refl
map-reverse {X} {Y} f (x ∷ xs) =
    reverse-cons (f x) (map f xs) ∙ ap (λ (l : List Y). l ++ f x ∷ []) (map-reverse f xs)
    ∙ sym (ap (map f) (reverse-cons x xs) ∙ map-append f (reverse xs) (x ∷ []))

pub view_less : (hs ks view : List Hold) (n : ℕ) → ks ≡ others_of n hs → reverse hs ≡ view → reverse ks ≡ others_of n view
view_less hs ks view n is seen = ap reverse is ∙ filter-reverse (λ (h : Hold). not (h.number == n)) hs ∙ ap (others_of n) seen

pub view_mapped : (f : Hold → Hold) (hs ks view : List Hold) → ks ≡ map f hs → reverse hs ≡ view → reverse ks ≡ map f view
view_mapped f hs ks view is seen = ap reverse is ∙ map-reverse f hs ∙ ap (map f) seen

pub view_each : (P : Hold → Type 0) (hs view : List Hold) → reverse hs ≡ view → All P view → Each P hs
view_each P hs view seen all =
    subst (Each P) (reverse-reverse hs) (Each-reverse P (reverse hs) (subst (Each P) (sym seen) (Each-from_All P view all)))

pub falling-filter : (p : Hold → Bool) (hs : List Hold) → AreFalling hs → AreFalling (filter p hs)
falling-filter p [] falling = tt
falling-filter p (h ∷ hs) falling = go (falling-filter p hs falling.1) (p h)
  where
    go : AreFalling (filter p hs) → (b : Bool) → AreFalling (if b then h ∷ filter p hs else filter p hs)
    go ih true = (Each-filter (λ x. x.number < h.number) p hs falling.0, ih)
    go ih false = ih
