-- What is read of a text is the glob that it spells.
use Rattle.std.proofs.Common.{◌≡◌, ◌↔◌, ℕ, Bool, true, false, List, [], ◌∷◌, ◌++◌, Option, Some, None, refl, sym, ap, subst, ◌∙◌, append_assoc}
use Rattle.std.specs.Prelude.{◌==◌, ◌&&◌, flat_map, not, option_map}
use Rattle.std.specs.List.{list_all}
use Rattle.std.specs.Str.{chars, is_utf8}
use Rattle.std.proofs.lemmas.Bool.{and_from, and_parts, eqb-true}
use Rattle.std.proofs.lemmas.List.{append-nil}
use Rattle.std.proofs.lemmas.Option.{none-some, same_Some}
use Rattle.annex_base.proofs.Conditions.{by_test}
use Rattle.annex_base.proofs.Lists.{list_all_append}
use Rattle.annex_base.proofs.Options.{none_by}
use Rattle.glob_match.specs.declared.item.Item.{Item}
use Rattle.glob_match.specs.declared.item.Item.TheVariants.{AnyRun, AnyOne, OneOf, Only}
use Rattle.glob_match.specs.declared.fault.GlobFault.TheVariants.{OpenSet, NoMemory}
use Rattle.glob_match.specs.Glob.{IsGlob, close_bracket, is_close, is_item, item_text, open_bracket, question, star}
use Rattle.glob_match.specs.Spelled.{glob_in, item_ended, items_from}

-- ---- each glob is read

map_map : {A : Type 0} (f g h : A → A) → ((x : A) → f (g x) ≡ h x) → (o : Option A) → option_map f (option_map g o) ≡ option_map h o
map_map f g h same None = refl
map_map f g h same (Some x) = ap Some (same x)

set_read : (ms members rest : List ℕ) → list_all (λ c. not (is_close c)) members ≡ true
    → items_from (Some ms) (members ++ close_bracket ∷ rest) ≡ option_map (λ items. OneOf (ms ++ members) ∷ items) (items_from None rest)
set_read ms [] rest open' = ap (λ (m : List ℕ). option_map (λ items. OneOf m ∷ items) (items_from None rest)) (sym (append-nil ms))
set_read ms (m ∷ members) rest open' =
    let both = and_parts (not (is_close m)) (list_all (λ c. not (is_close c)) members) open' in
    by_test (is_close m)
    (λ t. absurd (let bad : not true ≡ true = subst (λ (b : Bool). not b ≡ true) t both.0 in cc))
    (λ f. rw f (ap (option_map (λ items. [] ++ items)) (set_read (ms ++ m ∷ []) members rest both.1)
    ∙ map_map (λ items. [] ++ items) (λ items. OneOf ((ms ++ m ∷ []) ++ members) ∷ items) (λ items. OneOf (ms ++ m ∷ members) ∷ items)
    (λ items. ap (λ (w : List ℕ). OneOf w ∷ items) (append_assoc ms (m ∷ []) members)) (items_from None rest)))

item_read : (i : Item) (rest : List ℕ) → is_item i ≡ true → items_from None (item_text i ++ rest) ≡ option_map (λ items. i ∷ items) (items_from None rest)
item_read AnyRun rest is = refl
item_read AnyOne rest is = refl
item_read (OneOf members) rest is =
    ap (λ (w : List ℕ). option_map (λ items. [] ++ items) (items_from (Some []) w)) (append_assoc members (close_bracket ∷ []) rest)
    ∙ ap (option_map (λ items. [] ++ items)) (set_read [] members rest is)
    ∙ map_map (λ items. [] ++ items) (λ items. OneOf members ∷ items) (λ items. OneOf members ∷ items) (λ items. refl) (items_from None rest)
item_read (Only c) rest is =
    let outer = and_parts (not (c == star) && not (c == question)) (not (c == open_bracket)) is in
    let inner = and_parts (not (c == star)) (not (c == question)) outer.0 in
    rw (off (c == star) inner.0, off (c == question) inner.1, off (c == open_bracket) outer.1) refl
  where
    off : (b : Bool) → not b ≡ true → b ≡ false
    off false e = refl
    off true e = absurd (cc)

pub items_read : (items : List Item) → list_all is_item items ≡ true → items_from None (flat_map item_text items) ≡ Some items
items_read [] all = refl
items_read (i ∷ items) all =
    let both = and_parts (is_item i) (list_all is_item items) all in
    item_read i (flat_map item_text items) both.0 ∙ ap (option_map (λ is. i ∷ is)) (items_read items both.1)

-- ---- what is read is a glob

mapped : {A B : Type 0} (f : A → B) (o : Option A) (y : B) → option_map f o ≡ Some y → (x : A) × (o ≡ Some x) × (f x ≡ y)
mapped f None y e = absurd (none-some y e)
mapped f (Some x) y e = (x, refl, same_Some (f x) y e)

abbrev front : Option (List ℕ) → List ℕ
front None = []
front (Some members) = open_bracket ∷ members

abbrev IsOpen : Option (List ℕ) → Type 0
IsOpen None = Unit {0}
IsOpen (Some members) = list_all (λ c. not (is_close c)) members ≡ true

with_item : (i : Item) (items : List Item) (text whole : List ℕ) → is_item i ≡ true → item_text i ++ text ≡ whole → IsGlob items text → IsGlob (i ∷ items) whole
with_item i items text whole is spelled g = record {
  items_are = and_from (is_item i) (list_all is_item items) is g.items_are;
  spelled = sym spelled ∙ ap (λ (w : List ℕ). item_text i ++ w) g.spelled;
}

abbrev Read : List ℕ → Type 0
Read text = (set : Option (List ℕ)) (items : List Item) → IsOpen set → items_from set text ≡ Some items → IsGlob items (front set ++ text)

read_is : (set : Option (List ℕ)) (text : List ℕ) (items : List Item) → IsOpen set → items_from set text ≡ Some items → IsGlob items (front set ++ text)
read_is None [] items o e = subst (λ (is : List Item). IsGlob is []) (same_Some [] items e) (record { items_are = refl; spelled = refl })
read_is (Some members) [] items o e = absurd (none-some items e)
read_is None (c ∷ cs) items o e = let ih : Read cs = λ set items. read_is set cs items in by_test (c == star) (run ih) (λ a. by_test (c == question) (one ih) (λ b. by_test (c == open_bracket) (set ih) (λ d. other ih a b d)))
  where
    run : Read cs → (c == star) ≡ true → IsGlob items (c ∷ cs)
    run ih t =
        let is : c ≡ star = eqb-true c star t in
        let e' : option_map (λ is. item_ended None star ++ is) (items_from None cs) ≡ Some items = subst (λ n. items_from None (n ∷ cs) ≡ Some items) is e in
        let more = mapped (λ is. AnyRun ∷ is) (items_from None cs) items e' in
        subst (λ (is : List Item). IsGlob is (c ∷ cs)) more.2 (with_item AnyRun more.0 cs (c ∷ cs) refl (ap (λ n. n ∷ cs) (sym is)) (ih None more.0 tt more.1))

    one : Read cs → (c == question) ≡ true → IsGlob items (c ∷ cs)
    one ih t =
        let is : c ≡ question = eqb-true c question t in
        let e' : option_map (λ is. item_ended None question ++ is) (items_from None cs) ≡ Some items = subst (λ n. items_from None (n ∷ cs) ≡ Some items) is e in
        let more = mapped (λ is. AnyOne ∷ is) (items_from None cs) items e' in
        subst (λ (is : List Item). IsGlob is (c ∷ cs)) more.2 (with_item AnyOne more.0 cs (c ∷ cs) refl (ap (λ n. n ∷ cs) (sym is)) (ih None more.0 tt more.1))

    set : Read cs → (c == open_bracket) ≡ true → IsGlob items (c ∷ cs)
    set ih t =
        let is : c ≡ open_bracket = eqb-true c open_bracket t in
        let e' : option_map (λ is. item_ended None open_bracket ++ is) (items_from (Some []) cs) ≡ Some items = subst (λ n. items_from None (n ∷ cs) ≡ Some items) is e in
        let more = mapped (λ is. is) (items_from (Some []) cs) items e' in
        subst (λ (is : List Item). IsGlob is (c ∷ cs)) more.2 (subst (λ n. IsGlob more.0 (n ∷ cs)) (sym is) (ih (Some []) more.0 refl more.1))

    other : Read cs → (c == star) ≡ false → (c == question) ≡ false → (c == open_bracket) ≡ false → IsGlob items (c ∷ cs)
    other ih a b d =
        let e' : option_map (λ is. Only c ∷ is) (items_from None cs) ≡ Some items = rw (a, b, d) at e in
        let more = mapped (λ is. Only c ∷ is) (items_from None cs) items e' in
        subst (λ (is : List Item). IsGlob is (c ∷ cs)) more.2 (with_item (Only c) more.0 cs (c ∷ cs) (rw (a, b, d) refl) refl (ih None more.0 tt more.1))
read_is (Some members) (c ∷ cs) items o e = let ih : Read cs = λ set items. read_is set cs items in by_test (is_close c) (closes ih) (goes ih)
  where
    closes : Read cs → is_close c ≡ true → IsGlob items (open_bracket ∷ (members ++ c ∷ cs))
    closes ih t =
        let is : c ≡ close_bracket = eqb-true c close_bracket t in
        let e' : option_map (λ is. OneOf members ∷ is) (items_from None cs) ≡ Some items = rw t at e in
        let more = mapped (λ is. OneOf members ∷ is) (items_from None cs) items e' in
        let spelled : item_text (OneOf members) ++ cs ≡ open_bracket ∷ (members ++ c ∷ cs) =
        ap (λ (w : List ℕ). open_bracket ∷ w) (append_assoc members (close_bracket ∷ []) cs ∙ ap (λ n. members ++ n ∷ cs) (sym is)) in
        subst (λ (is : List Item). IsGlob is (open_bracket ∷ (members ++ c ∷ cs))) more.2 (with_item (OneOf members) more.0 cs (open_bracket ∷ (members ++ c ∷ cs)) o spelled (ih None more.0 tt more.1))

    goes : Read cs → is_close c ≡ false → IsGlob items (open_bracket ∷ (members ++ c ∷ cs))
    goes ih f =
        let e' : option_map (λ is. [] ++ is) (items_from (Some (members ++ c ∷ [])) cs) ≡ Some items = rw f at e in
        let more = mapped (λ is. is) (items_from (Some (members ++ c ∷ [])) cs) items e' in
        let open' = list_all_append (λ c. not (is_close c)) members (c ∷ []) o (rw f refl) in
        subst (λ (is : List Item). IsGlob is (open_bracket ∷ (members ++ c ∷ cs))) more.2
        (subst (λ (w : List ℕ). IsGlob more.0 (open_bracket ∷ w)) (append_assoc members (c ∷ []) cs) (ih (Some (members ++ c ∷ [])) more.0 open' more.1))

-- **what is read is what is spelled**
pub items_exact : (items : List Item) (text : List ℕ) → (items_from None text ≡ Some items) ↔ IsGlob items text
items_exact items text = (λ e. read_is None text items tt e, λ g. ap (items_from None) g.spelled ∙ items_read items g.items_are)

-- ---- the glob of bytes

pub spells_glob : (items : List Item) (text bytes : List ℕ) → text ≡ bytes → is_utf8 bytes ≡ true → IsGlob items (chars text) → Some items ≡ glob_in bytes
unfolding glob_in
spells_glob items text bytes same utf8 is = rw utf8 (sym (ap (λ (t : List ℕ). items_from None (chars t)) (sym same) ∙ (items_exact items (chars text)).1 is))

pub spells_none : (text bytes : List ℕ) → text ≡ bytes → is_utf8 bytes ≡ true → ((items : List Item) → IsGlob items (chars text) → ⊥) → None ≡ glob_in bytes
unfolding glob_in
spells_none text bytes same utf8 nowhere =
    rw utf8 (sym (ap (λ (t : List ℕ). items_from None (chars t)) (sym same) ∙ none_by (items_from None (chars text)) (λ items e. nowhere items ((items_exact items (chars text)).0 e))))

pub no_text_spells : (bytes : List ℕ) → is_utf8 bytes ≡ false → None ≡ glob_in bytes
unfolding glob_in
no_text_spells bytes broken = rw broken refl

pub open_memory : (at : ℕ) → OpenSet at ≡ NoMemory → ⊥
open_memory at same = cc
