-- What the name of a word says about the word.
use Rattle.std.proofs.Common.{◌≡◌, ◌⊎◌, inl, inr, ℕ, Bool, true, false, not, List, Result, Ok, Err, IsErrAnd, refl, sym, ap, subst, ◌∙◌, arith}
use Rattle.std.specs.Prelude.{codes, bytes_eq, if◌then◌else◌}
use Rattle.std.specs.List.{list_any}
use Rattle.annex_base.proofs.Conditions.{bytes_eq-true}
use Rattle.glob_match.specs.declared.item.Item.{Item}
use Rattle.wanted_expr.specs.declared.data.Among.{Among}
use Rattle.wanted_expr.specs.declared.data.Word.{Word}
use Rattle.wanted_expr.specs.declared.data.Word.TheVariants.{Anything, Nothing, Present, Include, Exclude, Copies, LackingCopies, InAllGroup, OnlyInGroup, InBackend, SecureHash, LargerThan, SmallerThan, Standard, GroupWanted}
use Rattle.wanted_expr.specs.declared.word.WordFault.{WordFault}
use Rattle.wanted_expr.specs.declared.word.WordFault.TheVariants.{Unknown, Value, NoMemory}
use Rattle.wanted_expr.specs.Finding.{FindsValue, FindsNamed}
use Rattle.wanted_expr.specs.Words.{IsCount, IsSize, IsCopies, IsText, IsGlobText, IsValued, valued_names, is_valued_name}

-- names and words by numbers, so that two of them are told apart by one comparison
abbrev pub tag : Word → ℕ
tag Anything = 0
tag Nothing = 0
tag Present = 0
tag (Include glob) = 1
tag (Exclude glob) = 2
tag (Copies among n) = 3
tag (LackingCopies n) = 4
tag (InAllGroup group) = 5
tag (OnlyInGroup group) = 6
tag (InBackend backend) = 7
tag SecureHash = 0
tag (LargerThan n) = 8
tag (SmallerThan n) = 9
tag Standard = 0
tag GroupWanted = 0

abbrev pub name_tag : List ℕ → ℕ
name_tag name =
    if bytes_eq name (codes "include") then 1 else
    if bytes_eq name (codes "exclude") then 2 else
    if bytes_eq name (codes "copies") then 3 else
    if bytes_eq name (codes "lackingcopies") then 4 else
    if bytes_eq name (codes "approxlackingcopies") then 4 else
    if bytes_eq name (codes "inallgroup") then 5 else
    if bytes_eq name (codes "onlyingroup") then 6 else
    if bytes_eq name (codes "inbackend") then 7 else
    if bytes_eq name (codes "largerthan") then 8 else
    if bytes_eq name (codes "smallerthan") then 9 else 0

lacking_tag : (name : List ℕ) → (name ≡ codes "lackingcopies") ⊎ (name ≡ codes "approxlackingcopies") → name_tag name ≡ 4
lacking_tag name (inl e) = ap name_tag e
lacking_tag name (inr e) = ap name_tag e

pub valued_tag : (name value : List ℕ) (w : Word) → IsValued name value w → name_tag name ≡ tag w
valued_tag name value Anything k = absurd k
valued_tag name value Nothing k = absurd k
valued_tag name value Present k = absurd k
valued_tag name value (Include glob) k = ap name_tag k.0
valued_tag name value (Exclude glob) k = ap name_tag k.0
valued_tag name value (Copies among n) k = ap name_tag k.0
valued_tag name value (LackingCopies n) k = lacking_tag name k.0
valued_tag name value (InAllGroup group) k = ap name_tag k.0
valued_tag name value (OnlyInGroup group) k = ap name_tag k.0
valued_tag name value (InBackend backend) k = ap name_tag k.0
valued_tag name value SecureHash k = absurd k
valued_tag name value (LargerThan n) k = ap name_tag k.0
valued_tag name value (SmallerThan n) k = ap name_tag k.0
valued_tag name value Standard k = absurd k
valued_tag name value GroupWanted k = absurd k

-- What is said of a word with the tag of this name.

-- no word that is valued so has another tag than the name
pub not_tagged : {P : Type 0} (name value : List ℕ) (w : Word) (n : ℕ) → name_tag name ≡ n → IsValued name value w → (tag w ≡ n → ⊥) → P
not_tagged name value w n e k apart = absurd (apart (sym (valued_tag name value w k) ∙ e))

pub include_value : (name value : List ℕ) (w : Word) → name_tag name ≡ 1 → IsValued name value w → (g : List Item) × IsGlobText value g
include_value name value (Include glob) e k = (glob, k.1)
include_value name value w e k = not_tagged name value w 1 e k (λ t. omega (arith, t))

pub exclude_value : (name value : List ℕ) (w : Word) → name_tag name ≡ 2 → IsValued name value w → (g : List Item) × IsGlobText value g
exclude_value name value (Exclude glob) e k = (glob, k.1)
exclude_value name value w e k = not_tagged name value w 2 e k (λ t. omega (arith, t))

pub copies_value : (name value : List ℕ) (w : Word) → name_tag name ≡ 3 → IsValued name value w → (x : Among × ℕ) × IsCopies value x.0 x.1
copies_value name value (Copies among n) e k = ((among, n), k.1)
copies_value name value w e k = not_tagged name value w 3 e k (λ t. omega (arith, t))

pub lacking_value : (name value : List ℕ) (w : Word) → name_tag name ≡ 4 → IsValued name value w → (n : ℕ) × IsCount value n
lacking_value name value (LackingCopies n) e k = (n, k.1)
lacking_value name value w e k = not_tagged name value w 4 e k (λ t. omega (arith, t))

pub in_all_value : (name value : List ℕ) (w : Word) → name_tag name ≡ 5 → IsValued name value w → (t : List ℕ) × IsText value t
in_all_value name value (InAllGroup group) e k = (group, k.1)
in_all_value name value w e k = not_tagged name value w 5 e k (λ t. omega (arith, t))

pub only_in_value : (name value : List ℕ) (w : Word) → name_tag name ≡ 6 → IsValued name value w → (t : List ℕ) × IsText value t
only_in_value name value (OnlyInGroup group) e k = (group, k.1)
only_in_value name value w e k = not_tagged name value w 6 e k (λ t. omega (arith, t))

pub backend_value : (name value : List ℕ) (w : Word) → name_tag name ≡ 7 → IsValued name value w → (t : List ℕ) × IsText value t
backend_value name value (InBackend backend) e k = (backend, k.1)
backend_value name value w e k = not_tagged name value w 7 e k (λ t. omega (arith, t))

pub larger_value : (name value : List ℕ) (w : Word) → name_tag name ≡ 8 → IsValued name value w → (n : ℕ) × IsSize value n
larger_value name value (LargerThan n) e k = (n, k.1)
larger_value name value w e k = not_tagged name value w 8 e k (λ t. omega (arith, t))

pub smaller_value : (name value : List ℕ) (w : Word) → name_tag name ≡ 9 → IsValued name value w → (n : ℕ) × IsSize value n
smaller_value name value (SmallerThan n) e k = (n, k.1)
smaller_value name value w e k = not_tagged name value w 9 e k (λ t. omega (arith, t))

-- A value that isn't found has no word.

known : (name : List ℕ) → list_any (bytes_eq name) valued_names ≡ true → is_valued_name name ≡ true
unfolding is_valued_name
known name e = e

pub tagged : (name text : List ℕ) → bytes_eq name text ≡ true → name_tag name ≡ name_tag text
tagged name text t = ap name_tag (bytes_eq-true name text t)

passed : {X : Type 0} (P : X → Type 0) (Q : Word → Type 0) (is_known : Bool) (answer : Result Word WordFault) (e : WordFault) → IsErrAnd answer (λ f. f ≡ e) → is_known ≡ true → ((w : Word) → Q w → (x : X) × P x) → FindsValue P (Err e) → FindsNamed {X = Word} is_known Q answer
passed P Q is_known (Ok w) e same is f h = absurd same
passed P Q is_known (Err d) Unknown same is f h = absurd h
passed P Q is_known (Err d) Value same is f h = subst (λ (g : WordFault). FindsNamed {X = Word} is_known Q (Err g)) (sym same) (is, λ w q. let k = f w q in h k.0 k.1)
passed P Q is_known (Err d) NoMemory same is f h = subst (λ (g : WordFault). FindsNamed {X = Word} is_known Q (Err g)) (sym same) tt

pub fails : {X : Type 0} (P : X → Type 0) (name value text : List ℕ) → bytes_eq name text ≡ true → list_any (bytes_eq text) valued_names ≡ true → ((w : Word) → name_tag name ≡ name_tag text → IsValued name value w → (x : X) × P x) → (answer : Result Word WordFault) (e : WordFault) → IsErrAnd answer (λ f. f ≡ e) → FindsValue P (Err e) → FindsNamed {X = Word} (is_valued_name name) (IsValued name value) answer
fails P name value text t listed f answer e same h =
    passed P (IsValued name value) (is_valued_name name) answer e same
    (subst (λ (w : List ℕ). is_valued_name w ≡ true) (sym (bytes_eq-true name text t)) (known text listed))
    (λ w k. f w (tagged name text t) k) h

pub unknown : (name : List ℕ) → bytes_eq name (codes "include") ≡ false → bytes_eq name (codes "exclude") ≡ false → bytes_eq name (codes "copies") ≡ false → bytes_eq name (codes "lackingcopies") ≡ false → bytes_eq name (codes "approxlackingcopies") ≡ false → bytes_eq name (codes "inallgroup") ≡ false → bytes_eq name (codes "onlyingroup") ≡ false → bytes_eq name (codes "inbackend") ≡ false → bytes_eq name (codes "largerthan") ≡ false → bytes_eq name (codes "smallerthan") ≡ false → not (is_valued_name name) ≡ true
unfolding is_valued_name
unknown name a b c d e f g h i j = rw (a, b, c, d, e, f, g, h, i, j) refl
