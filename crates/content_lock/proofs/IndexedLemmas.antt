-- The lists of numbers on each key, as the holds change.
use Rattle.std.proofs.Common.{◌≡◌, ℕ, ◌<◌, Bool, true, false, not, List, [], ◌∷◌, ◌++◌, Option, Some, None, refl, sym, ap, ◌∙◌, subst, append-nil, cond}
use Rattle.std.specs.Prelude.{◌==◌, if◌then◌else◌, filter, map, find, bytes_eq}
use Rattle.std.specs.Map.{lookup, values_of}
use Rattle.std.specs.declared.alloc.Global.{Global}
use Rattle.std.specs.declared.vec.Vec.{Vec}
use Rattle.std.proofs.lemmas.List.Elements.{filter-append}
use Rattle.annex_base.specs.Lists.{Each}
use Rattle.annex_base.proofs.Conditions.{bytes_eq-true, eqb_refl, if_same, eqb_less}
use Rattle.annex_base.proofs.Lists.{Each-weaker}
use Rattle.run_data.specs.declared.row.Hold.{Hold}
use Rattle.content_lock.specs.Indexed.{AreRising, IsIndexed, items_in, listed_at, with_number, on_key}
use Rattle.content_lock.specs.Tokens.{others_of}
use Rattle.content_lock.proofs.NumberedLemmas.{numbered-append, one_of, rising-filter, rising-last, rising-map, values-numbered}

abbrev pub Lists : Type 0
Lists = List (List ℕ × Vec ℕ Global)

-- the numbers on a key
abbrev pub numbers_on : List ℕ → List Hold → List ℕ
numbers_on key hs = map (λ h. h.number) (on_key key hs)

-- from the holds alone
pub indexed_by : (es : List (ℕ × Hold)) (lists : Lists) (hs : List Hold) → es ≡ map with_number hs → AreRising hs → ((key : List ℕ) → listed_at lists key ≡ numbers_on key hs) → IsIndexed es lists
indexed_by es lists hs is rising listed =
    let values : values_of es ≡ hs = ap values_of is ∙ values-numbered hs in
    record {
      named = is ∙ ap (map with_number) (sym values);
      rising = subst AreRising (sym values) rising;
      listed = λ key. listed key ∙ ap (numbers_on key) (sym values);
    }

-- ---- one more

numbers-append : (hs ks : List Hold) → map (λ (h : Hold). h.number) (hs ++ ks) ≡ map (λ (h : Hold). h.number) hs ++ map (λ (h : Hold). h.number) ks
numbers-append [] ks = refl
numbers-append (h ∷ hs) ks = ap (λ l. h.number ∷ l) (numbers-append hs ks)

on_last : (key : List ℕ) (hs : List Hold) (h : Hold) → (if bytes_eq h.key key then numbers_on key hs ++ h.number ∷ [] else numbers_on key hs) ≡ numbers_on key (hs ++ h ∷ [])
on_last key hs h =
    go (bytes_eq h.key key) ∙ sym (numbers-append (on_key key hs) (on_key key (h ∷ []))) ∙ ap (map (λ (x : Hold). x.number)) (sym (filter-append (λ (x : Hold). bytes_eq x.key key) hs (h ∷ [])))
  where
    go : (b : Bool) → (if b then numbers_on key hs ++ h.number ∷ [] else numbers_on key hs) ≡ numbers_on key hs ++ map (λ (x : Hold). x.number) (if b then h ∷ [] else [])
    go true = refl
    go false = sym (append-nil (numbers_on key hs))

abbrev pub Enlists : Lists → Lists → List ℕ → ℕ → Type 0
Enlists was now key number = (k : List ℕ) → listed_at now k ≡ (if bytes_eq key k then listed_at was k ++ number ∷ [] else listed_at was k)

pub indexed_more : (es fs : List (ℕ × Hold)) (was now : Lists) (h : Hold) → IsIndexed es was → Each (λ x. x.number < h.number) (values_of es) → Enlists was now h.key h.number
    → fs ≡ es ++ with_number h ∷ [] → IsIndexed fs now
indexed_more es fs was now h indexed less enlists is =
    let hs = values_of es in
    indexed_by fs now (hs ++ h ∷ []) (is ∙ ap (λ l. l ++ with_number h ∷ []) indexed.named ∙ sym (numbered-append hs (h ∷ []))) (rising-last hs h less indexed.rising)
    (λ key. enlists key ∙ ap (λ (l : List ℕ). if bytes_eq h.key key then l ++ h.number ∷ [] else l) (indexed.listed key) ∙ on_last key hs h)

-- ---- one less

abbrev pub Delists : Lists → Lists → List ℕ → ℕ → Type 0
Delists was now key number = (k : List ℕ) → listed_at now k ≡ (if bytes_eq key k then filter (λ n. not (n == number)) (listed_at was k) else listed_at was k)

-- the two filters in either order
off_same : (key : List ℕ) (n : ℕ) (hs : List Hold) → filter (λ m. not (m == n)) (numbers_on key hs) ≡ numbers_on key (others_of n hs)
off_same key n [] = refl
off_same key n (h ∷ hs) = go (bytes_eq h.key key) (not (h.number == n)) refl refl (off_same key n hs)
  where
    go : (b t : Bool) → bytes_eq h.key key ≡ b → not (h.number == n) ≡ t → filter (λ m. not (m == n)) (numbers_on key hs) ≡ numbers_on key (others_of n hs)
        → filter (λ m. not (m == n)) (map (λ (x : Hold). x.number) (if b then h ∷ on_key key hs else on_key key hs)) ≡ numbers_on key (if t then h ∷ others_of n hs else others_of n hs)
    go true true k m ih = rw (k, m) (ap (λ (l : List ℕ). h.number ∷ l) ih)
    go true false k m ih = rw m ih
    go false true k m ih = rw k ih
    go false false k m ih = ih

-- a key that the hold isn't on keeps its numbers
off_other : (key : List ℕ) (n : ℕ) (hs : List Hold) → Each (λ x. (x.number == n) ≡ true → bytes_eq x.key key ≡ false) hs → numbers_on key hs ≡ numbers_on key (others_of n hs)
off_other key n [] away = refl
off_other key n (h ∷ hs) away = go (h.number == n) refl (bytes_eq h.key key) refl (off_other key n hs away.1)
  where
    go : (t : Bool) → (h.number == n) ≡ t → (b : Bool) → bytes_eq h.key key ≡ b → numbers_on key hs ≡ numbers_on key (others_of n hs)
        → map (λ (x : Hold). x.number) (if b then h ∷ on_key key hs else on_key key hs) ≡ numbers_on key (if not t then h ∷ others_of n hs else others_of n hs)
    go true m true k ih = absurd (let no = away.0 m in cc)
    go true m false k ih = ih
    go false m true k ih = rw k (ap (λ (l : List ℕ). h.number ∷ l) ih)
    go false m false k ih = rw k ih

pub indexed_less : (es fs : List (ℕ × Hold)) (was now : Lists) (n : ℕ) (h : Hold) → IsIndexed es was → find (λ x. x.number == n) (values_of es) ≡ Some h → Delists was now h.key n
    → fs ≡ map with_number (others_of n (values_of es)) → IsIndexed fs now
indexed_less es fs was now n h indexed found delists is =
    let hs = values_of es in
    let one = one_of hs n h indexed.rising found in
    indexed_by fs now (others_of n hs) is (rising-filter (λ x. not (x.number == n)) hs indexed.rising)
    (λ key. delists key ∙ ap (λ (l : List ℕ). if bytes_eq h.key key then filter (λ m. not (m == n)) l else l) (indexed.listed key) ∙ go hs one key (bytes_eq h.key key) refl)
  where
    go : (hs : List Hold) → Each (λ x. (x.number == n) ≡ true → x ≡ h) hs → (key : List ℕ) (b : Bool) → bytes_eq h.key key ≡ b
        → (if b then filter (λ m. not (m == n)) (numbers_on key hs) else numbers_on key hs) ≡ numbers_on key (others_of n hs)
    go hs one key true is = off_same key n hs
    go hs one key false is =
        off_other key n hs (Each-weaker (λ x. (x.number == n) ≡ true → x ≡ h) (λ x. (x.number == n) ≡ true → bytes_eq x.key key ≡ false) (λ x same at. ap (λ (y : Hold). bytes_eq y.key key) (same at) ∙ is) hs one)

-- ---- holds that change, but for their numbers and keys

on_mapped : (f : Hold → Hold) → ((h : Hold) → (f h).number ≡ h.number) → ((h : Hold) → (f h).key ≡ h.key) → (key : List ℕ) (hs : List Hold) → numbers_on key hs ≡ numbers_on key (map f hs)
on_mapped f number key' key [] = refl
on_mapped f number key' key (h ∷ hs) =
    go (bytes_eq h.key key) (on_mapped f number key' key hs)
    ∙ ap (λ (k : List ℕ). map (λ (x : Hold). x.number) (if bytes_eq k key then f h ∷ on_key key (map f hs) else on_key key (map f hs))) (sym (key' h))
  where
    go : (b : Bool) → numbers_on key hs ≡ numbers_on key (map f hs)
        → map (λ (x : Hold). x.number) (if b then h ∷ on_key key hs else on_key key hs) ≡ map (λ (x : Hold). x.number) (if b then f h ∷ on_key key (map f hs) else on_key key (map f hs))
    go true ih = λ i. sym (number h) i ∷ ih i
    go false ih = ih

pub indexed_mapped : (f : Hold → Hold) → ((h : Hold) → (f h).number ≡ h.number) → ((h : Hold) → (f h).key ≡ h.key)
    → (es fs : List (ℕ × Hold)) (lists : Lists) → IsIndexed es lists → fs ≡ map with_number (map f (values_of es)) → IsIndexed fs lists
indexed_mapped f number key' es fs lists indexed is =
    indexed_by fs lists (map f (values_of es)) is (rising-map f number (values_of es) indexed.rising)
    (λ key. indexed.listed key ∙ on_mapped f number key' key (values_of es))

-- a number that came and went
came_last : (key : List ℕ) (hs : List Hold) (n : ℕ) → Each (λ x. x.number < n) hs → filter (λ m. not (m == n)) (numbers_on key hs ++ n ∷ []) ≡ numbers_on key hs
came_last key [] n less = rw (eqb_refl n) refl
came_last key (h ∷ hs) n less = go (bytes_eq h.key key) (came_last key hs n less.1)
  where
    go : (b : Bool) → filter (λ m. not (m == n)) (numbers_on key hs ++ n ∷ []) ≡ numbers_on key hs
        → filter (λ m. not (m == n)) (map (λ (x : Hold). x.number) (if b then h ∷ on_key key hs else on_key key hs) ++ n ∷ []) ≡ map (λ (x : Hold). x.number) (if b then h ∷ on_key key hs else on_key key hs)
    go true ih = rw (eqb_less h.number n less.0) (ap (λ (l : List ℕ). h.number ∷ l) ih)
    go false ih = ih

pub indexed_back : (es fs : List (ℕ × Hold)) (was mid now : Lists) (h : Hold) → IsIndexed es was → Each (λ x. x.number < h.number) (values_of es)
    → Enlists was mid h.key h.number → Delists mid now h.key h.number → fs ≡ es → IsIndexed fs now
indexed_back es fs was mid now h indexed less enlists delists same =
    let hs = values_of es in
    indexed_by fs now hs (same ∙ indexed.named) indexed.rising
    (λ key. delists key ∙ ap (λ (l : List ℕ). if bytes_eq h.key key then filter (λ n. not (n == h.number)) l else l) (enlists key ∙ ap (λ (l : List ℕ). if bytes_eq h.key key then l ++ h.number ∷ [] else l) (indexed.listed key))
    ∙ go (bytes_eq h.key key) (numbers_on key hs) (came_last key hs h.number less))
  where
    go : (b : Bool) (ns : List ℕ) → filter (λ n. not (n == h.number)) (ns ++ h.number ∷ []) ≡ ns
        → (if b then filter (λ n. not (n == h.number)) (if b then ns ++ h.number ∷ [] else ns) else (if b then ns ++ h.number ∷ [] else ns)) ≡ ns
    go true ns is = is
    go false ns is = refl

-- lists that say the same
pub indexed_same : (es fs : List (ℕ × Hold)) (was now : Lists) → IsIndexed es was → ((key : List ℕ) → listed_at now key ≡ listed_at was key) → fs ≡ es → IsIndexed fs now
indexed_same es fs was now indexed same is =
    indexed_by fs now (values_of es) (is ∙ indexed.named) indexed.rising (λ key. same key ∙ indexed.listed key)

-- ---- one key's list is written, or taken away

abbrev pub Sets : Lists → Lists → List ℕ → Option (Vec ℕ Global) → Type 0
Sets was now key set = (q : List ℕ) → lookup (bytes_eq q) now ≡ cond (bytes_eq key q) set (lookup (bytes_eq q) was)

pub sets_gone : (was mid now : Lists) (key : List ℕ) (set : Option (Vec ℕ Global)) → Sets was mid key set → Sets mid now key None → Sets was now key None
sets_gone was mid now key set first second q = second q ∙ ap (λ (o : Option (Vec ℕ Global)). cond (bytes_eq key q) None o) (first q) ∙ twice (bytes_eq key q) (lookup (bytes_eq q) was)
  where
    twice : (b : Bool) (o : Option (Vec ℕ Global)) → cond b None (cond b set o) ≡ cond b None o
    twice true o = refl
    twice false o = refl

pub listed_to : (f : List ℕ → List ℕ) (was now : Lists) (key : List ℕ) (set : Option (Vec ℕ Global)) → Sets was now key set → items_in set ≡ f (listed_at was key)
    → (k : List ℕ) → listed_at now k ≡ (if bytes_eq key k then f (listed_at was k) else listed_at was k)
listed_to f was now key set sets is k = ap items_in (sets k) ∙ go (bytes_eq key k) refl
  where
    go : (b : Bool) → bytes_eq key k ≡ b → items_in (cond b set (lookup (bytes_eq k) was)) ≡ (if b then f (listed_at was k) else listed_at was k)
    go true same = is ∙ ap (λ (q : List ℕ). f (listed_at was q)) (bytes_eq-true key k same)
    go false other = refl

pub listed_still : (was now : Lists) (key : List ℕ) (set : Option (Vec ℕ Global)) → Sets was now key set → items_in set ≡ listed_at was key
    → (k : List ℕ) → listed_at now k ≡ listed_at was k
listed_still was now key set sets is k = listed_to (λ l. l) was now key set sets is k ∙ if_same (bytes_eq key k) (listed_at was k)
