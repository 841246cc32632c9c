-- What is read is spelled so, and what is spelled so is read.
use Rattle.std.proofs.Common.{◌≡◌, ℕ, zero, suc, ◌+◌, ◌<◌, ◌≤◌, ◌&&◌, ◌==◌, not, Bool, true, false, List, [], ◌∷◌, ◌++◌, length, take, drop, flat_map, Option, Some, None, Result, Ok, Err, IsErrAnd, IsErrOf, MatchResult, is_none, refl, sym, ap, subst, ◌∙◌, ◌⊎◌, inl, inr, arith, append_assoc, sum_by, length-append}
use Rattle.std.proofs.lemmas.Bool.{and_parts, eqb-true, not-true}
use Rattle.std.proofs.lemmas.List.Sums.{prefix_len-le-length, sum_by-cons}
use Rattle.std.proofs.lemmas.Str.{length-encode, encodes-append}
use Rattle.std.specs.Char.{len_utf8, encode_utf8 as encode}
use Rattle.std.specs.List.{list_all, position_or_len}
use Rattle.std.specs.Option.{option_map}
use Rattle.std.specs.Str.{encode_utf8_all}
use Rattle.std.proofs.lemmas.Option.{same_Some}
use Rattle.std.proofs.lemmas.List.{append-nil, nil_from_length}
use Rattle.annex_base.proofs.Conditions.{by_test, if_is}
use Rattle.annex_base.proofs.Lists.{list_all_append}
use Rattle.annex_base.proofs.Options.{is_none_true, some_none}
use Rattle.glob_match.specs.declared.fault.GlobFault.{GlobFault}
use Rattle.glob_match.specs.declared.fault.GlobFault.TheVariants.{OpenSet, NoMemory}
use Rattle.glob_match.specs.declared.item.Item.{Item}
use Rattle.glob_match.specs.declared.item.Item.TheVariants.{AnyRun, AnyOne, OneOf, Only}
use Rattle.glob_match.specs.Glob.{star, question, open_bracket, close_bracket, is_close, is_item, item_text, IsGlob, HasOpenSet}
use Rattle.glob_match.specs.Walk.{char_at, as_set, with_member, set_at, item_at, is_stuck, Reads, Tells}

nil_or_cons : (cs : List ℕ) → [] ≡ open_bracket ∷ cs → ⊥
nil_or_cons cs e = cc

pair_up : (i j : Item) (a b : List Item) → i ≡ j → a ≡ b → i ∷ a ≡ j ∷ b
pair_up i j a b e f = cc

unset : (o : Option (List ℕ × List ℕ)) → option_map as_set o ≡ None → o ≡ None
unset None e = refl
unset (Some x) e = cc

text_push : (items : List Item) (i : Item) (next : List ℕ) → flat_map item_text (items ++ i ∷ []) ++ next ≡ flat_map item_text items ++ (item_text i ++ next)
text_push [] i next = ap (λ (w : List ℕ). w ++ next) (append-nil (item_text i))
text_push (x ∷ items) i next =
    append_assoc (item_text x) (flat_map item_text (items ++ i ∷ [])) next
    ∙ (ap (λ (w : List ℕ). item_text x ++ w) (text_push items i next) ∙ sym (append_assoc (item_text x) (flat_map item_text items) (item_text i ++ next)))

-- A set and its end.

abbrev pub Parts : Type 0
Parts = Option (List ℕ × List ℕ)

abbrev first_of_parts : Parts → List ℕ
first_of_parts None = []
first_of_parts (Some x) = x.0

abbrev rest_of_parts : Parts → List ℕ
rest_of_parts None = []
rest_of_parts (Some x) = x.1

abbrev before : List ℕ → ℕ × List ℕ → List ℕ × List ℕ
before taken x = (taken, x.1)

abbrev parts : List ℕ → List ℕ → Parts
parts members rest = Some (members, rest)

abbrev cut_at : ℕ → List ℕ → Parts
cut_at n cs = option_map (before (take n cs)) (char_at (drop n cs))

longer : (c : ℕ) (cs taken : List ℕ) (o : Option (ℕ × List ℕ)) → option_map (with_member c) (option_map (before taken) o) ≡ option_map (before (c ∷ taken)) o
longer c cs taken None = refl
longer c cs taken (Some x) = refl

set_cut : (cs : List ℕ) → set_at cs ≡ cut_at (position_or_len is_close cs) cs
set_cut [] = refl
set_cut (c ∷ cs) =
    let one_more : suc (position_or_len is_close cs) ≡ 1 + position_or_len is_close cs = omega arith in
    by_test (is_close c) (λ e. rw e refl)
    (λ e. rw e (ap (option_map (with_member c)) (set_cut cs) ∙ (longer c cs (take (position_or_len is_close cs) cs) (char_at (drop (position_or_len is_close cs) cs)) ∙ ap (λ (k : ℕ). cut_at k (c ∷ cs)) one_more)))

pub set_found : (cs members closed rest : List ℕ) (x : ℕ) → members ≡ take (position_or_len is_close cs) cs → closed ≡ drop (position_or_len is_close cs) cs → closed ≡ x ∷ rest → Some (members, rest) ≡ set_at cs
set_found cs members closed rest x m d e =
    let at : char_at (drop (position_or_len is_close cs) cs) ≡ Some (x, rest) = ap char_at (sym d ∙ e) in
    sym (set_cut cs ∙ rw (at, ← m) refl)

pub not_zero : (n : ℕ) → (n == 0) ≡ false → 0 < n
not_zero zero e = cc
not_zero (suc n) e = omega arith

pub set_open : (cs closed : List ℕ) → closed ≡ drop (position_or_len is_close cs) cs → length closed ≡ 0 → None ≡ set_at cs
set_open cs closed d e =
    let at : char_at (drop (position_or_len is_close cs) cs) ≡ None = ap char_at (sym d ∙ nil_from_length closed e) in
    sym (set_cut cs ∙ rw at refl)

pub set_within : (cs : List ℕ) → position_or_len is_close cs ≤ length cs
set_within cs = prefix_len-le-length (λ c. not (is_close c)) cs

pub set_taken : (cs members : List ℕ) (end : ℕ) → end ≡ position_or_len is_close cs → members ≡ take end cs → members ≡ take (position_or_len is_close cs) cs
set_taken cs members end e m = m ∙ ap (λ (k : ℕ). take k cs) e

pub set_dropped : (cs closed : List ℕ) (end : ℕ) → end ≡ position_or_len is_close cs → closed ≡ drop end cs → closed ≡ drop (position_or_len is_close cs) cs
set_dropped cs closed end e m = m ∙ ap (λ (k : ℕ). drop k cs) e

abbrev pub never_closed : List ℕ → Bool
never_closed cs = list_all (λ c. not (is_close c)) cs

unmapped : (c : ℕ) (o : Parts) → option_map (with_member c) o ≡ None → o ≡ None
unmapped c None e = refl
unmapped c (Some x) e = cc

open_never_closed : (cs : List ℕ) → set_at cs ≡ None → never_closed cs ≡ true
open_never_closed [] e = refl
open_never_closed (c ∷ cs) e =
    elim (if_is (is_close c) (Some ([], cs)) (option_map (with_member c) (set_at cs)) None e) [
      | inl k ↦ absurd (some_none ([], cs) k.1)
      | inr k ↦ rw k.0 (open_never_closed cs (unmapped c (set_at cs) k.1))
    ]

never_closed_open : (cs : List ℕ) → never_closed cs ≡ true → set_at cs ≡ None
never_closed_open [] e = refl
never_closed_open (c ∷ cs) e =
    by_test (is_close c)
    (λ t. let bad : (false && never_closed cs) ≡ true = subst (λ (b : Bool). (not b && never_closed cs) ≡ true) t e in cc)
    (λ t. let k : never_closed cs ≡ true = subst (λ (b : Bool). (not b && never_closed cs) ≡ true) t e in rw t (rw (never_closed_open cs k) refl))

set_again : (members rest : List ℕ) → never_closed members ≡ true → set_at (members ++ close_bracket ∷ rest) ≡ Some (members, rest)
set_again [] rest e = refl
set_again (c ∷ members) rest e =
    by_test (is_close c)
    (λ t. let bad : (false && never_closed members) ≡ true = subst (λ (b : Bool). (not b && never_closed members) ≡ true) t e in cc)
    (λ t. let k : never_closed members ≡ true = subst (λ (b : Bool). (not b && never_closed members) ≡ true) t e in rw t (rw (set_again members rest k) refl))

abbrev IsSetText : List ℕ → List ℕ → List ℕ → Type 0
IsSetText cs members rest = (never_closed members ≡ true) × (cs ≡ members ++ close_bracket ∷ rest)

closes_here : (c : ℕ) (cs members rest : List ℕ) → c ≡ close_bracket → parts [] cs ≡ parts members rest → IsSetText (c ∷ cs) members rest
closes_here c cs members rest is e =
    let m : [] ≡ members = ap (λ (o : Parts). first_of_parts o) e in
    let r : cs ≡ rest = ap (λ (o : Parts). rest_of_parts o) e in
    subst (λ (w : List ℕ). IsSetText (c ∷ cs) w rest) m (refl, rw (is, r) refl)

goes_on : (c : ℕ) (cs members rest : List ℕ) (o : Parts) → ((m r : List ℕ) → o ≡ parts m r → IsSetText cs m r) → is_close c ≡ false → option_map (with_member c) o ≡ parts members rest → IsSetText (c ∷ cs) members rest
goes_on c cs members rest None later t e = cc
goes_on c cs members rest (Some x) later t e =
    let m : c ∷ x.0 ≡ members = ap (λ (o : Parts). first_of_parts o) e in
    let r : x.1 ≡ rest = ap (λ (o : Parts). rest_of_parts o) e in
    let k = later x.0 x.1 refl in
    subst (λ (w : List ℕ). IsSetText (c ∷ cs) w rest) m (subst (λ (w : List ℕ). IsSetText (c ∷ cs) (c ∷ x.0) w) r (rw t k.0, ap (λ (w : List ℕ). c ∷ w) k.1))

set_takes : (cs members rest : List ℕ) → set_at cs ≡ parts members rest → IsSetText cs members rest
set_takes [] members rest e = cc
set_takes (c ∷ cs) members rest e =
    elim (if_is (is_close c) (Some ([], cs)) (option_map (with_member c) (set_at cs)) (Some (members, rest)) e) [
      | inl k ↦ closes_here c cs members rest (eqb-true c close_bracket k.0) k.1
      | inr k ↦ goes_on c cs members rest (set_at cs) (set_takes cs) k.0 k.1
    ]

-- Items.

-- an item and what follows it
abbrev pub Step : Type 0
Step = Option (Item × List ℕ)

abbrev pub item_of : List ℕ → Step
item_of [] = None
item_of (c ∷ cs) = item_at c cs

item_again_only : (c : ℕ) (rest : List ℕ) → is_item (Only c) ≡ true → item_at c rest ≡ Some (Only c, rest)
item_again_only c rest e =
    let k = and_parts (not (c == star) && not (c == question)) (not (c == open_bracket)) e in
    let j = and_parts (not (c == star)) (not (c == question)) k.0 in
    rw (not-true (c == star) j.0, not-true (c == question) j.1, not-true (c == open_bracket) k.1) refl

pub item_again : (i : Item) (rest : List ℕ) → is_item i ≡ true → item_of (item_text i ++ rest) ≡ Some (i, rest)
item_again AnyRun rest e = refl
item_again AnyOne rest e = refl
item_again (OneOf members) rest e = ap (λ (w : List ℕ). option_map as_set (set_at w)) (append_assoc members (close_bracket ∷ []) rest) ∙ ap (option_map as_set) (set_again members rest e)
item_again (Only c) rest e = item_again_only c rest e

-- an item that is read is one, and is spelled so
abbrev IsStep : List ℕ → Item × List ℕ → Type 0
IsStep text x = (is_item x.0 ≡ true) × (text ≡ item_text x.0 ++ x.1)

step_is : (text : List ℕ) (x y : Item × List ℕ) → Some x ≡ Some y → IsStep text x → IsStep text y
step_is text x y e k = let same : x ≡ y = same_Some x y e in subst (IsStep text) same k

set_step : (c : ℕ) (after : List ℕ) (o : Parts) (x : Item × List ℕ) → c ≡ open_bracket → set_at after ≡ o → option_map as_set o ≡ Some x → IsStep (c ∷ after) x
set_step c after None x is s e = absurd (some_none x (sym e))
set_step c after (Some p) x is s e =
    let k = set_takes after p.0 p.1 s in
    step_is (c ∷ after) (as_set p) x e (k.0, rw (is, k.1) (ap (λ (w : List ℕ). open_bracket ∷ w) (sym (append_assoc p.0 (close_bracket ∷ []) p.1))))

pub item_takes : (c : ℕ) (after : List ℕ) (x : Item × List ℕ) → item_at c after ≡ Some x → IsStep (c ∷ after) x
item_takes c after x e =
    elim (if_is (c == star) (Some (AnyRun, after)) _ (Some x) e) [
      | inl k ↦ step_is (c ∷ after) (AnyRun, after) x k.1 (refl, ap (λ (d : ℕ). d ∷ after) (eqb-true c star k.0))
      | inr s ↦ elim (if_is (c == question) (Some (AnyOne, after)) _ (Some x) s.1) [
        | inl k ↦ step_is (c ∷ after) (AnyOne, after) x k.1 (refl, ap (λ (d : ℕ). d ∷ after) (eqb-true c question k.0))
        | inr q ↦ elim (if_is (c == open_bracket) (option_map as_set (set_at after)) (Some (Only c, after)) (Some x) q.1) [
          | inl k ↦ set_step c after (set_at after) x (eqb-true c open_bracket k.0) refl k.1
          | inr k ↦ step_is (c ∷ after) (Only c, after) x k.1 (rw (s.0, q.0, k.0) refl, refl)
        ]
      ]
    ]

-- an item that isn't read is an open set
pub stuck_is_open : (c : ℕ) (after : List ℕ) → is_none (item_at c after) ≡ true → (c ≡ open_bracket) × (never_closed after ≡ true)
stuck_is_open c after e =
    let none : item_at c after ≡ None = is_none_true (item_at c after) e in
    elim (if_is (c == star) (Some (AnyRun, after)) _ None none) [
      | inl k ↦ absurd (some_none (AnyRun, after) k.1)
      | inr s ↦ elim (if_is (c == question) (Some (AnyOne, after)) _ None s.1) [
        | inl k ↦ absurd (some_none (AnyOne, after) k.1)
        | inr q ↦ elim (if_is (c == open_bracket) (option_map as_set (set_at after)) (Some (Only c, after)) None q.1) [
          | inl k ↦ (eqb-true c open_bracket k.0, open_never_closed after (unset (set_at after) k.1))
          | inr k ↦ absurd (some_none (Only c, after) k.1)
        ]
      ]
    ]

pub open_is_stuck : (rest : List ℕ) → never_closed rest ≡ true → is_stuck (open_bracket ∷ rest) ≡ true
open_is_stuck rest e = rw (never_closed_open rest e) refl

-- Items in a row.

stuck_no_item : (text : List ℕ) (x : Item × List ℕ) → is_stuck text ≡ true → item_of text ≡ Some x → ⊥
stuck_no_item [] x s e = some_none x (sym e)
stuck_no_item (c ∷ cs) x s e = some_none x (sym e ∙ is_none_true (item_at c cs) s)

abbrev pub all_items : List Item → Bool
all_items items = list_all is_item items

abbrev text_of : List Item → List ℕ → List ℕ
text_of items rest = flat_map item_text items ++ rest

item_first : (i : Item) (items : List Item) (rest : List ℕ) → is_item i ≡ true → item_of (text_of (i ∷ items) rest) ≡ Some (i, text_of items rest)
item_first i items rest e = ap item_of (append_assoc (item_text i) (flat_map item_text items) rest) ∙ item_again i (text_of items rest) e

pub one_reading : (a b : List Item) (r s : List ℕ) → all_items a ≡ true → all_items b ≡ true → is_stuck r ≡ true → is_stuck s ≡ true → text_of a r ≡ text_of b s → (a ≡ b) × (r ≡ s)
one_reading [] [] r s ia ib sr ss e = (refl, e)
one_reading [] (j ∷ b) r s ia ib sr ss e =
    let k = and_parts (is_item j) (all_items b) ib in absurd (stuck_no_item r (j, text_of b s) sr (ap item_of e ∙ item_first j b s k.0))
one_reading (i ∷ a) [] r s ia ib sr ss e =
    let k = and_parts (is_item i) (all_items a) ia in absurd (stuck_no_item s (i, text_of a r) ss (ap item_of (sym e) ∙ item_first i a r k.0))
one_reading (i ∷ a) (j ∷ b) r s ia ib sr ss e =
    let k = and_parts (is_item i) (all_items a) ia in
    let m = and_parts (is_item j) (all_items b) ib in
    let both : Some (i, text_of a r) ≡ Some (j, text_of b s) = sym (item_first i a r k.0) ∙ (ap item_of e ∙ item_first j b s m.0) in
    let same : (i, text_of a r) ≡ (j, text_of b s) = same_Some (i, text_of a r) (j, text_of b s) both in
    let later = one_reading a b r s k.1 m.1 sr ss (ap (λ (x : Item × List ℕ). x.1) same) in
    (pair_up i j a b (ap (λ (x : Item × List ℕ). x.0) same) later.0, later.1)

-- What the calls tell.

pub glob_unique : (a b : List Item) (text : List ℕ) → IsGlob a text → IsGlob b text → a ≡ b
glob_unique a b text ga gb =
    (one_reading a b [] [] ga.items_are gb.items_are refl refl (append-nil (flat_map item_text a) ∙ (sym ga.spelled ∙ gb.spelled ∙ sym (append-nil (flat_map item_text b))))).0

-- an open set beside a glob, and beside another
pub open_or_glob : (a : List Item) (at : ℕ) (text : List ℕ) → IsGlob a text → HasOpenSet at text → ⊥
open_or_glob a at text g h =
    nil_or_cons h.rest (one_reading a h.front [] (open_bracket ∷ h.rest) g.items_are h.items_are refl (open_is_stuck h.rest h.never_closed) (append-nil (flat_map item_text a) ∙ (sym g.spelled ∙ h.spelled))).1

pub open_once : (at other : ℕ) (text : List ℕ) → HasOpenSet at text → HasOpenSet other text → at ≡ other
open_once at other text h k =
    let same = one_reading h.front k.front (open_bracket ∷ h.rest) (open_bracket ∷ k.rest) h.items_are k.items_are (open_is_stuck h.rest h.never_closed) (open_is_stuck k.rest k.never_closed) (sym h.spelled ∙ k.spelled) in
    h.place ∙ (ap (λ (items : List Item). length (encode_utf8_all (flat_map item_text items))) same.0 ∙ sym k.place)

pub byte_len : (cs : List ℕ) → sum_by len_utf8 cs ≡ length (encode_utf8_all cs)
byte_len [] = refl
byte_len (c ∷ cs) = sum_by-cons len_utf8 c cs ∙ (omega (arith, byte_len cs, length-encode c, length-append (encode c) (encode_utf8_all cs)))

pub read_all : (items : List Item) (rest text : List ℕ) → Reads items rest text → length rest ≡ 0 → IsGlob items text
read_all items rest text r e = record { items_are = r.items_are; spelled = r.spelled ∙ (ap (λ (w : List ℕ). flat_map item_text items ++ w) (nil_from_length rest e) ∙ append-nil (flat_map item_text items)) }

pub read_open : (items : List Item) (rest text : List ℕ) (at : ℕ) → Reads items rest text → 0 < length rest → at ≡ length (encode_utf8_all (flat_map item_text items)) → HasOpenSet at text
read_open items [] text at r e p = absurd (omega (arith, e))
read_open items (c ∷ rest) text at r e p =
    let k = stuck_is_open c rest r.stuck in
    record { front = items; rest = rest; items_are = r.items_are; spelled = r.spelled ∙ ap (λ (d : ℕ). flat_map item_text items ++ d ∷ rest) k.0; never_closed = k.1; place = p }

pub read_on : (items : List Item) (i : Item) (c : ℕ) (after next text : List ℕ) → all_items items ≡ true → text ≡ flat_map item_text items ++ c ∷ after → Some (i, next) ≡ item_at c after → (all_items (items ++ i ∷ []) ≡ true) × (text ≡ flat_map item_text (items ++ i ∷ []) ++ next)
read_on items i c after next text all spelled e =
    let k = item_takes c after (i, next) (sym e) in (
      list_all_append is_item items (i ∷ []) all (rw k.0 refl),
      spelled ∙ (ap (λ (w : List ℕ). flat_map item_text items ++ w) k.1 ∙ sym (text_push items i next)),
    )

-- The clauses of a call.

pub only_memory : {X : Type 0} (view : X → List Item) (e : GlobFault) (text : List ℕ) → Tells view (Err e) text → (items : List Item) → IsGlob items text → e ≡ NoMemory
only_memory view (OpenSet at) text told items g = absurd (open_or_glob items at text g told)
only_memory view NoMemory text told items g = refl

pub first_or_memory : {X : Type 0} (view : X → List Item) (e : GlobFault) (text : List ℕ) (at : ℕ) → Tells view (Err e) text → HasOpenSet at text → (e ≡ OpenSet at) ⊎ (e ≡ NoMemory)
first_or_memory view (OpenSet b) text at told h = inl (ap (λ (n : ℕ). OpenSet n) (open_once b at text told h))
first_or_memory view NoMemory text at told h = inr refl

pub rest_bytes : (items : List Item) (rest pattern : List ℕ) → Reads items rest pattern → length (encode_utf8_all (flat_map item_text items)) + sum_by len_utf8 rest ≡ length (encode_utf8_all pattern)
rest_bytes items rest pattern r =
    omega (arith, byte_len rest, ap (λ (w : List ℕ). length (encode_utf8_all w)) r.spelled, ap length (encodes-append (flat_map item_text items) rest), length-append (encode_utf8_all (flat_map item_text items)) (encode_utf8_all rest))

item_some : (i : Item) → 0 < length (item_text i)
item_some AnyRun = omega arith
item_some AnyOne = omega arith
item_some (OneOf members) = omega arith
item_some (Only c) = omega arith

pub item_shortens : (i : Item) (c : ℕ) (after next : List ℕ) → Some (i, next) ≡ item_at c after → length next < length (c ∷ after)
item_shortens i c after next e =
    let k = item_takes c after (i, next) (sym e) in
    omega (arith, ap length k.1, length-append (item_text i) next, item_some i)

-- what a call answers that passes a fault on
pub failed_only : {X : Type 0} (view : X → List Item) (answer : Result (List Item) GlobFault) (e : GlobFault) (text : List ℕ) → IsErrAnd answer (λ f. f ≡ e) → Tells view (Err e) text → (items : List Item) → IsGlob items text → MatchResult answer (λ g. g ≡ items) (λ f. f ≡ NoMemory)
failed_only view (Ok x) e text same told items g = absurd same
failed_only view (Err f) e text same told items g = same ∙ only_memory view e text told items g

pub failed_first : {X : Type 0} (view : X → List Item) (answer : Result (List Item) GlobFault) (e : GlobFault) (text : List ℕ) → IsErrAnd answer (λ f. f ≡ e) → Tells view (Err e) text → (at : ℕ) → HasOpenSet at text → IsErrOf answer (OpenSet at) ⊎ IsErrOf answer NoMemory
failed_first view (Ok x) e text same told at h = absurd same
failed_first view (Err f) e text same told at h =
    elim (first_or_memory view e text at told h) [
      | inl k ↦ inl (ap Err (same ∙ k))
      | inr k ↦ inr (ap Err (same ∙ k))
    ]

pub set_open_here : {X : Type 0} (view : X → List ℕ × List ℕ) (answer : Option X) (cs closed : List ℕ) → answer ≡ None → closed ≡ drop (position_or_len is_close cs) cs → length closed ≡ 0 → option_map view answer ≡ set_at cs
set_open_here view answer cs closed none d e = ap (option_map view) none ∙ set_open cs closed d e
