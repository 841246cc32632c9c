-- Lists: when two are the same, facts, tests and membership of elements, filters, what is found first, places, cuts.
use Rattle.std.proofs.Common.{◌≡◌, ◌⊎◌, inl, inr, ℕ, zero, suc, ◌<◌, ◌≤◌, Bool, true, false, cond, ◌&&◌, List, [], ◌∷◌, ◌++◌, length, get_or, take, drop, Some, None, refl, sym, ap, subst, ◌∙◌, arith, true≢false}
use Rattle.std.specs.Prelude.{if◌then◌else◌, filter, map, reverse, slice_get, All, Contains, flat_map}
use Rattle.std.specs.List.{find, list_all, list_any, prefix_len}
use Rattle.std.proofs.lemmas.Bool.{and_from, and_parts, cases_Bool, or_cases, or_left, or_parts, or_right}
use Rattle.std.proofs.lemmas.List.{reverse-append}
use Rattle.std.proofs.lemmas.List.Elements.{All-cons, All-head, All-nil, All-tail, Contains-append_right}
use Rattle.annex_base.specs.Lists.{Each, Member}

-- ---- lists that are the same

pub cons_first : {X : Type 0} (x y : X) (xs ys : List X) → x ∷ xs ≡ y ∷ ys → x ≡ y
cons_first x y xs ys e = cc

pub cons_rest : {X : Type 0} (x y : X) (xs ys : List X) → x ∷ xs ≡ y ∷ ys → xs ≡ ys
cons_rest x y xs ys e = cc

pub nil_cons : {X : Type 0} (x : X) (xs : List X) → [] ≡ x ∷ xs → ⊥
nil_cons x xs e = cc

pub cons_nil : {X : Type 0} (x : X) (xs : List X) → x ∷ xs ≡ [] → ⊥
cons_nil x xs e = cc

pub not_longer : {X : Type 0} (x : X) (xs : List X) → xs ≡ x ∷ xs → ⊥
not_longer x xs e = let both : length xs ≡ suc (length xs) = ap length e in absurd (omega (arith, both))

pub append_nil_left : {X : Type 0} (xs ys : List X) → xs ++ ys ≡ [] → xs ≡ []
append_nil_left [] ys e = refl
append_nil_left (x ∷ xs) ys e = absurd cc

-- ---- a fact of each element

pub Each-weaker : {X : Type 0} (P Q : X → Type 0) → ((x : X) → P x → Q x) → (xs : List X) → Each P xs → Each Q xs
Each-weaker P Q f [] h = tt
Each-weaker P Q f (x ∷ xs) h = (f x h.0, Each-weaker P Q f xs h.1)

pub Each-both : {X : Type 0} (P Q R : X → Type 0) → ((x : X) → P x → Q x → R x) → (xs : List X) → Each P xs → Each Q xs → Each R xs
Each-both P Q R f [] h k = tt
Each-both P Q R f (x ∷ xs) h k = (f x h.0 k.0, Each-both P Q R f xs h.1 k.1)

pub Each-always : {X : Type 0} (P : X → Type 0) → ((x : X) → P x) → (xs : List X) → Each P xs
Each-always P f [] = tt
Each-always P f (x ∷ xs) = (f x, Each-always P f xs)

pub Each-append : {X : Type 0} (P : X → Type 0) (xs ys : List X) → Each P xs → Each P ys → Each P (xs ++ ys)
Each-append P [] ys h k = k
Each-append P (x ∷ xs) ys h k = (h.0, Each-append P xs ys h.1 k)

pub Each-left : {X : Type 0} (P : X → Type 0) (xs ys : List X) → Each P (xs ++ ys) → Each P xs
Each-left P [] ys h = tt
Each-left P (x ∷ xs) ys h = (h.0, Each-left P xs ys h.1)

pub Each-right : {X : Type 0} (P : X → Type 0) (xs ys : List X) → Each P (xs ++ ys) → Each P ys
Each-right P [] ys h = h
Each-right P (x ∷ xs) ys h = Each-right P xs ys h.1

pub Each-push : {X : Type 0} (P : X → Type 0) (xs : List X) (x : X) → Each P xs → P x → Each P (xs ++ x ∷ [])
Each-push P xs x h p = Each-append P xs (x ∷ []) h (p, tt)

pub Each-middle : {X : Type 0} (P : X → Type 0) (front : List X) (x : X) (rest : List X) → Each P (front ++ x ∷ rest) → P x
Each-middle P front x rest h = (Each-right P front (x ∷ rest) h).0

pub Each-reverse : {X : Type 0} (P : X → Type 0) (xs : List X) → Each P xs → Each P (reverse xs)
Each-reverse P [] h = tt
Each-reverse P (x ∷ xs) h = subst (λ ys. Each P ys) (sym (reverse-append (x ∷ []) xs)) (Each-append P (reverse xs) (x ∷ []) (Each-reverse P xs h.1) (h.0, tt))

pub Each-filter : {X : Type 0} (P : X → Type 0) (p : X → Bool) (xs : List X) → Each P xs → Each P (filter p xs)
Each-filter P p [] h = tt
Each-filter P p (x ∷ xs) h = go (Each-filter P p xs h.1) (p x)
  where
    go : Each P (filter p xs) → (b : Bool) → Each P (cond b (x ∷ filter p xs) (filter p xs))
    go ih true = (h.0, ih)
    go ih false = ih

-- each element that a filter leaves passes
pub Each-passes : {X : Type 0} (p : X → Bool) (xs : List X) → Each (λ x. p x ≡ true) (filter p xs)
Each-passes p [] = tt
Each-passes p (x ∷ xs) = go (Each-passes p xs) (p x) refl
  where
    go : Each (λ y. p y ≡ true) (filter p xs) → (b : Bool) → p x ≡ b → Each (λ y. p y ≡ true) (cond b (x ∷ filter p xs) (filter p xs))
    go ih true e = (e, ih)
    go ih false e = ih

pub Each-map : {X Y : Type 0} (P : Y → Type 0) (f : X → Y) (xs : List X) → Each (λ x. P (f x)) xs → Each P (map f xs)
Each-map P f [] h = tt
Each-map P f (x ∷ xs) h = (h.0, Each-map P f xs h.1)

pub Each-flat_map : {X Y : Type 0} (P : Y → Type 0) (f : X → List Y) (xs : List X) → Each (λ x. Each P (f x)) xs → Each P (flat_map f xs)
Each-flat_map P f [] h = tt
Each-flat_map P f (x ∷ xs) h = Each-append P (f x) (flat_map f xs) h.0 (Each-flat_map P f xs h.1)

pub Each-get_or : {X : Type 0} (P : X → Type 0) (xs : List X) (i : ℕ) (d : X) → i < length xs → Each P xs → P (get_or xs i d)
Each-get_or P [] i d within h = absurd (omega (arith, within))
Each-get_or P (x ∷ xs) zero d within h = h.0
Each-get_or P (x ∷ xs) (suc i) d within h = Each-get_or P xs i d (omega arith) h.1

pub Each-take : {X : Type 0} (P : X → Type 0) (n : ℕ) (xs : List X) → Each P xs → Each P (take n xs)
Each-take P zero xs h = tt
Each-take P (suc n) [] h = tt
Each-take P (suc n) (x ∷ xs) h = (h.0, Each-take P n xs h.1)

pub Each-drop : {X : Type 0} (P : X → Type 0) (n : ℕ) (xs : List X) → Each P xs → Each P (drop n xs)
Each-drop P zero xs h = h
Each-drop P (suc n) [] h = tt
Each-drop P (suc n) (x ∷ xs) h = Each-drop P n xs h.1

-- std's form of it
pub All-from_Each : {X : Type 0} (P : X → Type 0) (xs : List X) → Each P xs → All P xs
All-from_Each P [] h = All-nil P
All-from_Each P (x ∷ xs) h = All-cons P x xs h.0 (All-from_Each P xs h.1)

pub Each-from_All : {X : Type 0} (P : X → Type 0) (xs : List X) → All P xs → Each P xs
Each-from_All P [] h = tt
Each-from_All P (x ∷ xs) h = (All-head P x xs h, Each-from_All P xs (All-tail P x xs h))

-- ---- one of the elements

pub Each-member : {X : Type 0} (P : X → Type 0) (xs : List X) (y : X) → Each P xs → Member y xs → P y
Each-member P [] y all among = absurd among
Each-member P (x ∷ xs) y all (inl same) = subst P (sym same) all.0
Each-member P (x ∷ xs) y all (inr later) = Each-member P xs y all.1 later

pub Each-from_members : {X : Type 0} (P : X → Type 0) (xs : List X) → ((y : X) → Member y xs → P y) → Each P xs
Each-from_members P [] f = tt
Each-from_members P (x ∷ xs) f = (f x (inl refl), Each-from_members P xs (λ y later. f y (inr later)))

pub Member-at : {X : Type 0} (xs : List X) (k : ℕ) (d : X) → k < length xs → Member (get_or xs k d) xs
Member-at [] k d within = absurd (omega (arith, within))
Member-at (x ∷ xs) zero d within = inl refl
Member-at (x ∷ xs) (suc k) d within = inr (Member-at xs k d (omega arith))

-- std's form of it
pub Member-from_Contains : {X : Type 0} (xs : List X) (y : X) → Contains xs y → Member y xs
Member-from_Contains xs y c = subst (λ w. Member w xs) c.2 (Member-at xs c.0 y c.1)

pub Contains-from_Member : {X : Type 0} (xs : List X) (y : X) → Member y xs → Contains xs y
Contains-from_Member [] y among = absurd among
Contains-from_Member (x ∷ xs) y (inl same) = (0, omega arith, sym same)
Contains-from_Member (x ∷ xs) y (inr later) = Contains-append_right (x ∷ []) xs y (Contains-from_Member xs y later)

pub Member-append_cases : {X : Type 0} (xs ys : List X) (y : X) → Member y (xs ++ ys) → Member y xs ⊎ Member y ys
Member-append_cases [] ys y among = inr among
Member-append_cases (x ∷ xs) ys y (inl same) = inl (inl same)
Member-append_cases (x ∷ xs) ys y (inr later) = elim (Member-append_cases xs ys y later) [ inl front ↦ inl (inr front) | inr back ↦ inr back ]

pub Member-append_left : {X : Type 0} (xs ys : List X) (y : X) → Member y xs → Member y (xs ++ ys)
Member-append_left [] ys y among = absurd among
Member-append_left (x ∷ xs) ys y (inl same) = inl same
Member-append_left (x ∷ xs) ys y (inr later) = inr (Member-append_left xs ys y later)

pub Member-append_right : {X : Type 0} (xs ys : List X) (y : X) → Member y ys → Member y (xs ++ ys)
Member-append_right [] ys y among = among
Member-append_right (x ∷ xs) ys y among = inr (Member-append_right xs ys y among)

pub Member-filter_parts : {X : Type 0} (p : X → Bool) (xs : List X) (y : X) → Member y (filter p xs) → Member y xs × (p y ≡ true)
Member-filter_parts p [] y among = absurd among
Member-filter_parts {X} p (x ∷ xs) y among = go (λ m. Member-filter_parts p xs y m) (p x) refl among
  where
    go : (Member y (filter p xs) → Member y xs × (p y ≡ true)) → (b : Bool) → p x ≡ b → Member y (if b then x ∷ filter p xs else filter p xs) → Member y (x ∷ xs) × (p y ≡ true)
    go ih true is (inl same) = (inl same, subst (λ (z : X). p z ≡ true) (sym same) is)
    go ih true is (inr later) = let h = ih later in (inr h.0, h.1)
    go ih false is later = let h = ih later in (inr h.0, h.1)

pub Member-filter_from : {X : Type 0} (p : X → Bool) (xs : List X) (y : X) → Member y xs → p y ≡ true → Member y (filter p xs)
Member-filter_from p [] y among passes = absurd among
Member-filter_from {X} p (x ∷ xs) y among passes = go (λ m. Member-filter_from p xs y m passes) (p x) refl among
  where
    go : (Member y xs → Member y (filter p xs)) → (b : Bool) → p x ≡ b → Member y (x ∷ xs) → Member y (if b then x ∷ filter p xs else filter p xs)
    go ih true is (inl same) = inl same
    go ih true is (inr later) = inr (ih later)
    go ih false is (inl same) = absurd (true≢false (sym passes ∙ ap p same ∙ is))
    go ih false is (inr later) = ih later

pub Member-map : {X Y : Type 0} (f : X → Y) (xs : List X) (y : X) → Member y xs → Member (f y) (map f xs)
Member-map f [] y among = absurd among
Member-map f (x ∷ xs) y (inl same) = inl (ap f same)
Member-map f (x ∷ xs) y (inr later) = inr (Member-map f xs y later)

pub Member-flat_map : {X Y : Type 0} (f : X → List Y) (xs : List X) (x : X) (y : Y) → Member x xs → Member y (f x) → Member y (flat_map f xs)
Member-flat_map f [] x y among here = absurd among
Member-flat_map f (z ∷ xs) x y (inl same) here = Member-append_left (f z) (flat_map f xs) y (subst (λ w. Member y (f w)) same here)
Member-flat_map f (z ∷ xs) x y (inr later) here = Member-append_right (f z) (flat_map f xs) y (Member-flat_map f xs x y later here)

-- ---- tests of the elements

pub list_all-from_Each : {X : Type 0} (p : X → Bool) (xs : List X) → Each (λ x. p x ≡ true) xs → list_all p xs ≡ true
list_all-from_Each p [] h = refl
list_all-from_Each p (x ∷ xs) h = and_from (p x) (list_all p xs) h.0 (list_all-from_Each p xs h.1)

pub Each-from_list_all : {X : Type 0} (p : X → Bool) (xs : List X) → list_all p xs ≡ true → Each (λ x. p x ≡ true) xs
Each-from_list_all p [] h = tt
Each-from_list_all p (x ∷ xs) h = let both = and_parts (p x) (list_all p xs) h in (both.0, Each-from_list_all p xs both.1)

pub list_all_member : {X : Type 0} (p : X → Bool) (xs : List X) (y : X) → list_all p xs ≡ true → Member y xs → p y ≡ true
list_all_member p xs y h among = Each-member (λ x. p x ≡ true) xs y (Each-from_list_all p xs h) among

pub list_all_weaker : {X : Type 0} (p q : X → Bool) → ((x : X) → p x ≡ true → q x ≡ true) → (xs : List X) → list_all p xs ≡ true → list_all q xs ≡ true
list_all_weaker p q f xs h = list_all-from_Each q xs (Each-weaker (λ x. p x ≡ true) (λ x. q x ≡ true) f xs (Each-from_list_all p xs h))

-- std's `list_all-append` says it as an equation
pub list_all_append : {X : Type 0} (p : X → Bool) (xs ys : List X) → list_all p xs ≡ true → list_all p ys ≡ true → list_all p (xs ++ ys) ≡ true
list_all_append p [] ys h k = k
list_all_append p (x ∷ xs) ys h k = let both = and_parts (p x) (list_all p xs) h in and_from (p x) (list_all p (xs ++ ys)) both.0 (list_all_append p xs ys both.1 k)

pub list_all_parts : {X : Type 0} (p : X → Bool) (xs ys : List X) → list_all p (xs ++ ys) ≡ true → (list_all p xs ≡ true) × (list_all p ys ≡ true)
list_all_parts p [] ys h = (refl, h)
list_all_parts p (x ∷ xs) ys h =
    let both = and_parts (p x) (list_all p (xs ++ ys)) h in
    let rest = list_all_parts p xs ys both.1 in
    (and_from (p x) (list_all p xs) both.0 rest.0, rest.1)

pub list_all_reverse : {X : Type 0} (p : X → Bool) (xs : List X) → list_all p xs ≡ true → list_all p (reverse xs) ≡ true
list_all_reverse p xs h = list_all-from_Each p (reverse xs) (Each-reverse (λ x. p x ≡ true) xs (Each-from_list_all p xs h))

pub list_any_member : {X : Type 0} (p : X → Bool) (xs : List X) (y : X) → Member y xs → p y ≡ true → list_any p xs ≡ true
list_any_member p [] y among passes = absurd among
list_any_member {X} p (x ∷ xs) y (inl same) passes = or_left (p x) (list_any p xs) (subst (λ (z : X). p z ≡ true) same passes)
list_any_member p (x ∷ xs) y (inr later) passes = or_right (p x) (list_any p xs) (list_any_member p xs y later passes)

pub list_any_found : {X : Type 0} (p : X → Bool) (xs : List X) → list_any p xs ≡ true → (x : X) × Member x xs × (p x ≡ true)
list_any_found p [] h = absurd (true≢false (sym h))
list_any_found p (x ∷ xs) h = elim (or_cases (p x) (list_any p xs) h) [
  | inl here ↦ (x, inl refl, here)
  | inr later ↦ let k = list_any_found p xs later in (k.0, inr k.1, k.2)
]

pub list_any_nowhere : {X : Type 0} (p : X → Bool) (xs : List X) → list_any p xs ≡ false → Each (λ x. p x ≡ false) xs
list_any_nowhere p [] h = tt
list_any_nowhere p (x ∷ xs) h = let both = or_parts (p x) (list_any p xs) h in (both.0, list_any_nowhere p xs both.1)

pub list_any_weaker : {X : Type 0} (p q : X → Bool) → ((x : X) → p x ≡ true → q x ≡ true) → (xs : List X) → list_any p xs ≡ true → list_any q xs ≡ true
list_any_weaker p q f xs h = let k = list_any_found p xs h in list_any_member q xs k.0 k.1 (f k.0 k.2)

-- ---- what a filter leaves; std's `filter-append` has the rest

pub filter_yes : {X : Type 0} (p : X → Bool) (x : X) (xs : List X) → p x ≡ true → filter p (x ∷ xs) ≡ x ∷ filter p xs
filter_yes p x xs is = rw is refl

pub filter_no : {X : Type 0} (p : X → Bool) (x : X) (xs : List X) → p x ≡ false → filter p (x ∷ xs) ≡ filter p xs
filter_no p x xs is = rw is refl

-- where each passes, all stay
pub filter_all : {X : Type 0} (p : X → Bool) (xs : List X) → Each (λ x. p x ≡ true) xs → filter p xs ≡ xs
filter_all p [] h = refl
filter_all p (x ∷ xs) h = filter_yes p x xs h.0 ∙ ap (λ ys. x ∷ ys) (filter_all p xs h.1)

pub filter_none : {X : Type 0} (p : X → Bool) (xs : List X) → Each (λ x. p x ≡ false) xs → filter p xs ≡ []
filter_none p [] h = refl
filter_none p (x ∷ xs) h = filter_no p x xs h.0 ∙ filter_none p xs h.1

pub filter_shorter : {X : Type 0} (p : X → Bool) (xs : List X) → length (filter p xs) ≤ length xs
filter_shorter p [] = omega arith
filter_shorter p (x ∷ xs) = go (filter_shorter p xs) (p x)
  where
    go : length (filter p xs) ≤ length xs → (b : Bool) → length (cond b (x ∷ filter p xs) (filter p xs)) ≤ length (x ∷ xs)
    go more true = omega (arith, more)
    go more false = omega (arith, more)

-- a test that is two tests
pub filter_both : {X : Type 0} (p q s : X → Bool) → ((x : X) → p x ≡ (s x && q x)) → (xs : List X) → filter p xs ≡ filter q (filter s xs)
filter_both p q s both [] = refl
filter_both {X = X} p q s both (x ∷ xs) = go (filter_both p q s both xs) (s x) (q x) refl refl (both x)
  where
    go : filter p xs ≡ filter q (filter s xs) → (b c : Bool) → s x ≡ b → q x ≡ c → p x ≡ (s x && q x) → filter p (x ∷ xs) ≡ filter q (filter s (x ∷ xs))
    go more true true i j h = let k : p x ≡ true = rw (i, j) at h in rw (k, i) (rw j (ap (λ (zs : List X). x ∷ zs) more))
    go more true false i j h = let k : p x ≡ false = rw (i, j) at h in rw (k, i) (rw j more)
    go more false c i j h = let k : p x ≡ false = rw i at h in rw (k, i) more

-- ---- the first that passes

pub find_member : {X : Type 0} (p : X → Bool) (xs : List X) (x : X) → find p xs ≡ Some x → Member x xs × (p x ≡ true)
find_member p [] x e = absurd cc
find_member {X} p (y ∷ ys) x e = go (λ g. find_member p ys x g) (p y) refl e
  where
    go : (find p ys ≡ Some x → Member x ys × (p x ≡ true)) → (b : Bool) → p y ≡ b → (if b then Some y else find p ys) ≡ Some x → Member x (y ∷ ys) × (p x ≡ true)
    go more true is g =
        let same : y ≡ x = cc in (inl (sym same), subst (λ (z : X). p z ≡ true) same is)
    go more false is g = let w = more g in (inr w.0, w.1)

pub find-filter : {X : Type 0} (p : X → Bool) (xs : List X) → find p (filter p xs) ≡ find p xs
find-filter p [] = refl
find-filter p (x ∷ xs) = elim (cases_Bool (p x)) [ inl is ↦ rw is (rw is refl) | inr other ↦ rw other (find-filter p xs) ]

pub find_none : {X : Type 0} (p : X → Bool) (xs : List X) → Each (λ y. p y ≡ false) xs → find p xs ≡ None
find_none p [] none = refl
find_none p (x ∷ xs) none = rw none.0 (find_none p xs none.1)

pub find_nowhere : {X : Type 0} (p : X → Bool) (xs : List X) → find p xs ≡ None → Each (λ x. p x ≡ false) xs
find_nowhere p [] e = tt
find_nowhere p (x ∷ xs) e = go (λ g. find_nowhere p xs g) (p x) refl e
  where
    go : (find p xs ≡ None → Each (λ y. p y ≡ false) xs) → (b : Bool) → p x ≡ b → (if b then Some x else find p xs) ≡ None → Each (λ y. p y ≡ false) (x ∷ xs)
    go more true is g = absurd cc
    go more false is g = (is, more g)

-- ---- places

pub slice_get-within : {X : Type 0} (xs : List X) (i : ℕ) → i < length xs → (x : X) × (slice_get xs i ≡ Some x)
slice_get-within [] i low = absurd (omega (arith, low))
slice_get-within (x ∷ xs) zero low = (x, refl)
slice_get-within (x ∷ xs) (suc i) low = slice_get-within xs i (omega (arith, low))

pub slice_get-map_some : {X Y : Type 0} (f : X → Y) (xs : List X) (k : ℕ) (y : Y) → slice_get (map f xs) k ≡ Some y → (x : X) × (slice_get xs k ≡ Some x) × (f x ≡ y)
slice_get-map_some f [] k y e = absurd (cc)
slice_get-map_some f (x ∷ xs) zero y e = let i : f x ≡ y = cc in (x, refl, i)
slice_get-map_some f (x ∷ xs) (suc k) y e = slice_get-map_some f xs k y e

pub slice_get-left : {X : Type 0} (xs ys : List X) (k : ℕ) (x : X) → slice_get xs k ≡ Some x → slice_get (xs ++ ys) k ≡ Some x
slice_get-left [] ys k x h = absurd cc
slice_get-left (y ∷ xs) ys zero x h = h
slice_get-left (y ∷ xs) ys (suc k) x h = slice_get-left xs ys k x h

-- ---- how far a test passes

-- the front that passes, where what follows doesn't
pub prefix_len-stops : {X : Type 0} (p : X → Bool) (front : List X) (x : X) (rest : List X) → list_all p front ≡ true → p x ≡ false → prefix_len p (front ++ x ∷ rest) ≡ length front
prefix_len-stops p [] x rest all stops = rw stops refl
prefix_len-stops p (y ∷ ys) x rest all stops =
    let both = and_parts (p y) (list_all p ys) all in rw (both.0, prefix_len-stops p ys x rest both.1 stops) (omega arith)

pub prefix_len-whole : {X : Type 0} (p : X → Bool) (xs : List X) → list_all p xs ≡ true → prefix_len p xs ≡ length xs
prefix_len-whole p [] all = refl
prefix_len-whole p (x ∷ xs) all =
    let both = and_parts (p x) (list_all p xs) all in rw (both.0, prefix_len-whole p xs both.1) (omega arith)

-- ---- two ways to cut one list

pub two_cuts : {X : Type 0} (xs ys front rest : List X) → xs ++ ys ≡ front ++ rest
    → ((f : List X) × (front ≡ xs ++ f) × (ys ≡ f ++ rest)) ⊎ ((b : List X) × (xs ≡ front ++ b) × (b ++ ys ≡ rest))
two_cuts [] ys front rest e = inl (front, refl, e)
two_cuts (x ∷ xs) ys [] rest e = inr (x ∷ xs, refl, e)
two_cuts {X} (x ∷ xs) ys (f ∷ front) rest e =
    let head : x ≡ f = cc in
    let tail : xs ++ ys ≡ front ++ rest = cc in
    elim (two_cuts xs ys front rest tail) [
      | inl short ↦ inl (short.0, ap (λ (z : X). z ∷ front) (sym head) ∙ ap (λ (zs : List X). x ∷ zs) short.1, short.2)
      | inr long ↦ inr (long.0, ap (λ (z : X). z ∷ xs) head ∙ ap (λ (zs : List X). f ∷ zs) long.1, long.2)
    ]
