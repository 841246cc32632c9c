-- The groups of a repository, each once, and the one expression among theirs.
use Rattle.std.proofs.Common.{◌≡◌, ℕ, ◌+◌, ◌<◌, ◌==◌, Bool, true, false, not, ◌||◌, List, [], ◌∷◌, ◌++◌, length, filter, get_or, map, take, Option, None, Bor, inl, inr, option_to_list, refl, sym, ap, subst, ◌∙◌, arith, bytes_eq}
use Rattle.std.specs.List.{list_any}
use Rattle.std.proofs.lemmas.Bool.{eqb-true, false≢true}
use Rattle.std.proofs.lemmas.List.{append-nil, map-append, take_more}
use Rattle.std.proofs.lemmas.List.Elements.{filter-append}
use Rattle.annex_base.proofs.Conditions.{by_test, bytes_eq-true}
use Rattle.annex_base.specs.Lists.{Each, Member}
use Rattle.annex_base.specs.Settings.{Settings}
use Rattle.annex_base.proofs.Lists.{Each-from_members, Each-passes, Member-filter_parts, Member-map}
use Rattle.annex_key.specs.Tree.{each_once}
use Rattle.trust_groups.specs.View.{IsGroupOfSome, text_read}
use Rattle.wanted_expr.specs.Formula.{Formula}
use Rattle.wanted_expr.specs.Wanted.{group_text, is_text, only_text}
use Rattle.wanted_rules.specs.Reads.{once_with, only_formula}

pub list_any_map : {X Y : Type 0} (p : Y → Bool) (f : X → Y) (xs : List X) → list_any (λ x. p (f x)) xs ≡ list_any p (map f xs)
list_any_map p f [] = refl
list_any_map p f (x ∷ xs) = ap (λ (b : Bool). p (f x) || b) (list_any_map p f xs)

pub map_map : {X Y Z : Type 0} (f : Y → Z) (g : X → Y) (xs : List X) → map f (map g xs) ≡ map (λ x. f (g x)) xs
map_map f g [] = refl
map_map {X} {Y} {Z} f g (x ∷ xs) = ap (λ (zs : List Z). f (g x) ∷ zs) (map_map f g xs)

-- ---- each once

abbrev without : List ℕ → List (List ℕ) → List (List ℕ)
without y names = filter (λ x. not (bytes_eq x y)) names

without_last : (y x : List ℕ) (names : List (List ℕ)) → bytes_eq x y ≡ true → without y (names ++ x ∷ []) ≡ without y names
without_last y x names same = filter-append (λ n. not (bytes_eq n y)) names (x ∷ []) ∙ (rw same (append-nil (without y names)))

without_any : (y x : List ℕ) (names : List (List ℕ)) → bytes_eq x y ≡ false → list_any (bytes_eq x) (without y names) ≡ list_any (bytes_eq x) names
without_any y x [] other = refl
without_any y x (n ∷ names) other =
    by_test (bytes_eq n y)
    (λ t. rw t (without_any y x names other ∙ sym (ap (λ (b : Bool). b || list_any (bytes_eq x) names) (ap (bytes_eq x) (bytes_eq-true n y t) ∙ other))))
    (λ t. rw t (ap (λ (b : Bool). bytes_eq x n || b) (without_any y x names other)))

once_step : (y x : List ℕ) (names : List (List ℕ)) → y ∷ without y (once_with names x) ≡ once_with (y ∷ without y names) x
once_step y x names =
    by_test (bytes_eq x y)
    (λ t. rw t (by_test (list_any (bytes_eq x) names) (λ s. rw s refl) (λ s. rw s (ap (λ (ns : List (List ℕ)). y ∷ ns) (without_last y x names t)))))
    (λ t. by_test (list_any (bytes_eq x) names)
    (λ s. let there = without_any y x names t ∙ s in rw (s, t, there) refl)
    (λ s. let nowhere = without_any y x names t ∙ s in
    rw (s, t, nowhere) (ap (λ (ns : List (List ℕ)). y ∷ ns) (filter-append (λ n. not (bytes_eq n y)) names (x ∷ []) ∙ rw t refl))))

once_last : (names : List (List ℕ)) (x : List ℕ) → each_once (names ++ x ∷ []) ≡ once_with (each_once names) x
once_last [] x = refl
once_last (y ∷ names) x = ap (λ (ns : List (List ℕ)). y ∷ without y ns) (once_last names x) ∙ once_step y x (each_once names)

pub next_once : (names : List (List ℕ)) (i : ℕ) (x : List ℕ) (once : List (List ℕ)) → i < length names → x ≡ get_or names i x → once ≡ each_once (take i names) → once_with once x ≡ each_once (take (i + 1) names)
next_once names i x once within is so_far =
    ap (λ (o : List (List ℕ)). once_with o x) so_far ∙ sym (once_last (take i names) x) ∙ ap each_once (ap (λ (n : List ℕ). take i names ++ n ∷ []) is ∙ sym (take_more names i x within))

-- one name more among those that lie in memory
pub once_put : (once new : List (Bor (List ℕ))) (name : Bor (List ℕ)) → new ≡ once ++ name ∷ [] → list_any (λ w. bytes_eq name.now w.now) once ≡ false → map (λ g. g.now) new ≡ once_with (map (λ g. g.now) once) name.now
once_put once new name put absent =
    let nowhere : list_any (bytes_eq name.now) (map (λ g. g.now) once) ≡ false = sym (list_any_map (bytes_eq name.now) (λ (g : Bor (List ℕ)). g.now) once) ∙ absent in
    rw nowhere (ap (map (λ (g : Bor (List ℕ)). g.now)) put ∙ map-append (λ (g : Bor (List ℕ)). g.now) once (name ∷ []))

pub once_known : (once : List (Bor (List ℕ))) (name : List ℕ) → list_any (λ w. bytes_eq name w.now) once ≡ true → map (λ g. g.now) once ≡ once_with (map (λ g. g.now) once) name
once_known once name among =
    let there : list_any (bytes_eq name) (map (λ g. g.now) once) ≡ true = sym (list_any_map (bytes_eq name) (λ (g : Bor (List ℕ)). g.now) once) ∙ among in
    rw there refl

-- each of them is a group of the repository
once_member : (names : List (List ℕ)) (x : List ℕ) → Member x (each_once names) → Member x names
once_member [] x among = among
once_member (y ∷ names) x among = elim among [
  | inl is ↦ inl is
  | inr rest ↦ inr (once_member names x (Member-filter_parts (λ n. not (bytes_eq n y)) (each_once names) x rest).0)
]

pub of_some : (s : Settings) (repo : List ℕ) (items : List (Bor (List ℕ))) → map (λ g. g.now) items ≡ each_once (s.groups repo) → Each (λ g. IsGroupOfSome s g.now) items
of_some s repo items once =
    Each-from_members (λ (g : Bor (List ℕ)). IsGroupOfSome s g.now) items
    (λ g among. (repo, once_member (s.groups repo) g.now (subst (Member g.now) once (Member-map (λ (h : Bor (List ℕ)). h.now) items g among))))

-- ---- lists that are empty

pub empty_is : {X : Type 0} (xs : List X) → (length xs == 0) ≡ true → xs ≡ []
empty_is [] e = refl
empty_is (x ∷ xs) e = absurd (omega (arith, eqb-true (length (x ∷ xs)) 0 e))

pub some_is : {X : Type 0} (xs : List X) → (length xs == 0) ≡ false → xs ≡ [] → ⊥
some_is {X} xs e none = false≢true (sym e ∙ ap (λ (l : List X). length l == 0) none)

-- ---- expressions

pub only_none : (exprs : List (Bor Formula)) → length exprs ≡ 0 → None ≡ only_formula (map (λ e. e.now) exprs)
only_none [] none = refl
only_none (expr ∷ exprs) none = absurd (omega (arith, none))

-- what a text says, as a list
listed : (read : List ℕ → Formula) (text : List ℕ) → option_to_list (text_read read text) ≡ map read (filter is_text (text ∷ []))
listed read [] = refl
listed read (b ∷ bs) = refl

-- the one formula of texts that aren't empty is that of the one text
only_says : (read : List ℕ → Formula) (texts : List (List ℕ)) → Each (λ text. is_text text ≡ true) texts → only_formula (map read texts) ≡ text_read read (only_text texts)
only_says read [] each = refl
only_says read (text ∷ []) each = let yes = each.0 in rw yes refl
only_says read (text ∷ other ∷ texts) each = refl

pub only_read : (read : List ℕ → Formula) (texts : List (List ℕ)) (formulas : List Formula) → formulas ≡ map read (filter is_text texts) → only_formula formulas ≡ text_read read (only_text (filter is_text texts))
only_read read texts formulas are = ap only_formula are ∙ only_says read (filter is_text texts) (Each-passes is_text texts)

-- the text of the groups, of which each stands once in memory
pub text_of_groups : (f : List ℕ → List ℕ) (items : List (Bor (List ℕ))) (groups : List (List ℕ)) → map (λ g. g.now) items ≡ each_once groups → only_text (filter is_text (map (λ g. f g.now) items)) ≡ group_text f groups
text_of_groups f items groups once = ap (λ (ts : List (List ℕ)). only_text (filter is_text ts)) (sym (map_map f (λ (g : Bor (List ℕ)). g.now) items) ∙ ap (map f) once)

next_text : {X : Type 0} (f : X → List ℕ) (xs : List X) (i : ℕ) (d : X) → i < length xs → filter is_text (map f (take i xs)) ++ filter is_text (f (get_or xs i d) ∷ []) ≡ filter is_text (map f (take (i + 1) xs))
next_text f xs i d within =
    sym (filter-append is_text (map f (take i xs)) (f (get_or xs i d) ∷ []))
    ∙ ap (filter is_text) (sym (map-append f (take i xs) (get_or xs i d ∷ [])) ∙ ap (map f) (sym (take_more xs i d within)))

-- one expression more
pub next_expr : {X : Type 0} (read : List ℕ → Formula) (f : X → List ℕ) (xs : List X) (i : ℕ) (d : X) (found : List Formula) (o : Option Formula) → i < length xs → o ≡ text_read read (f (get_or xs i d))
    → found ≡ map read (filter is_text (map f (take i xs))) → found ++ option_to_list o ≡ map read (filter is_text (map f (take (i + 1) xs)))
next_expr read f xs i d found o within says so_far =
    let texts = filter is_text (map f (take i xs)) in
    let text = f (get_or xs i d) in
    ap (λ (fs : List Formula). fs ++ option_to_list o) so_far
    ∙ ap (λ (p : Option Formula). map read texts ++ option_to_list p) says
    ∙ ap (λ (fs : List Formula). map read texts ++ fs) (listed read text)
    ∙ sym (map-append read texts (filter is_text (text ∷ [])))
    ∙ ap (map read) (next_text f xs i d within)
