-- A text is one word at most.
use Rattle.std.proofs.Common.{◌≡◌, ◌⊎◌, inl, inr, ℕ, ◌*◌, true, false, List, ◌∷◌, ◌++◌, Option, Some, None, refl, sym, ap, subst, ◌∙◌, arith, append-nil}
use Rattle.std.specs.Prelude.{codes, bytes_eq, if◌then◌else◌, ◌||◌}
use Rattle.std.specs.Str.{chars}
use Rattle.std.specs.Str.Parse.{digits_value}
use Rattle.std.proofs.lemmas.Bool.{or_right}
use Rattle.std.proofs.lemmas.Option.{same_Some}
use Rattle.annex_base.proofs.Conditions.{bytes_eq-other}
use Rattle.annex_base.specs.declared.kinds.Level.{Level}
use Rattle.annex_base.specs.declared.kinds.Level.TheVariants.{Dead, Untrusted, Semitrusted, Trusted}
use Rattle.glob_match.specs.declared.item.Item.{Item}
use Rattle.glob_match.specs.Glob.{IsGlob}
use Rattle.wanted_expr.specs.declared.data.Among.{Among}
use Rattle.wanted_expr.specs.declared.data.Among.TheVariants.{All, OfLevel, OfLevelOrMore, InGroup}
use Rattle.wanted_expr.specs.declared.data.Word.{Word}
use Rattle.wanted_expr.specs.declared.data.Word.TheVariants.{Anything, Nothing, Present, Include, Exclude, Copies, LackingCopies, InAllGroup, OnlyInGroup, InBackend, SecureHash, LargerThan, SmallerThan, Standard, GroupWanted}
use Rattle.wanted_expr.specs.Expressions.{is_operator}
use Rattle.wanted_expr.specs.Words.{IsDigits, IsCount, IsSize, IsLevel, IsAmong, IsCopies, IsText, IsGlobText, IsBare, IsValued, IsWord, SizeUnit, Bytes, Kilobytes, Megabytes, Gigabytes, unit_text, unit_size, is_bare_name, is_valued_name, has_name, name_of}
use Rattle.wanted_expr.proofs.CopiesLemmas.{is_colonless, digits_colonless, colon_inside, same_cut, one_colon}
use Rattle.wanted_expr.proofs.NameLemmas.{name_tag, valued_tag, not_tagged}
use Rattle.wanted_expr.proofs.ReadWordLemmas.{bare_again, valued_again, word_alone_is, word_valued_is}
use Rattle.wanted_expr.proofs.WordLemmas.{kb_only, mb_only, gb_only}

-- ---- values

count_unique : (text : List ℕ) (m n : ℕ) → IsCount text m → IsCount text n → m ≡ n
count_unique text m n h k = h.value ∙ sym k.value

text_unique : (value s t : List ℕ) → IsText value s → IsText value t → s ≡ t
text_unique value s t h k = sym h.0 ∙ k.0

same_size : (value front back : List ℕ) (u v : SizeUnit) → IsDigits front → IsDigits back → value ≡ front ++ unit_text u → value ≡ back ++ unit_text v → (front ≡ back) × (u ≡ v)
same_size value front back Kilobytes v d c e f = let k = kb_only value front e back v c f in (sym k.0, sym k.1)
same_size value front back Megabytes v d c e f = let k = mb_only value front e back v c f in (sym k.0, sym k.1)
same_size value front back Gigabytes v d c e f = let k = gb_only value front e back v c f in (sym k.0, sym k.1)
same_size value front back Bytes Bytes d c e f = (sym (append-nil front) ∙ (sym e ∙ (f ∙ append-nil back)), refl)
same_size value front back Bytes Kilobytes d c e f = kb_only value back f front Bytes d e
same_size value front back Bytes Megabytes d c e f = mb_only value back f front Bytes d e
same_size value front back Bytes Gigabytes d c e f = gb_only value back f front Bytes d e

size_unique : (value : List ℕ) (m n : ℕ) → IsSize value m → IsSize value n → m ≡ n
size_unique value m n h k =
    let same = same_size value h.number k.number h.unit k.unit h.digits k.digits h.spelled k.spelled in
    h.value ∙ (ap (λ (w : List ℕ). digits_value 10 w * unit_size h.unit) same.0 ∙ (ap (λ (u : SizeUnit). digits_value 10 k.number * unit_size u) same.1 ∙ sym k.value))

abbrev among_of : List ℕ → Among
among_of text =
    if bytes_eq text (codes "untrusted") then OfLevel Untrusted else
    if bytes_eq text (codes "semitrusted") then OfLevel Semitrusted else
    if bytes_eq text (codes "trusted") then OfLevel Trusted else
    if bytes_eq text (codes "untrusted+") then OfLevelOrMore Untrusted else
    if bytes_eq text (codes "semitrusted+") then OfLevelOrMore Semitrusted else
    if bytes_eq text (codes "trusted+") then OfLevelOrMore Trusted else InGroup text

level_is : (text : List ℕ) (l : Level) → IsLevel text l → among_of text ≡ OfLevel l
level_is text Dead e = absurd e
level_is text Untrusted e = ap among_of e
level_is text Semitrusted e = ap among_of e
level_is text Trusted e = ap among_of e

or_more_is : (text name : List ℕ) (l : Level) → IsLevel name l → text ≡ name ++ codes "+" → among_of text ≡ OfLevelOrMore l
or_more_is text name Dead e f = absurd e
or_more_is text name Untrusted e f = ap among_of (f ∙ ap (λ (w : List ℕ). w ++ codes "+") e)
or_more_is text name Semitrusted e f = ap among_of (f ∙ ap (λ (w : List ℕ). w ++ codes "+") e)
or_more_is text name Trusted e f = ap among_of (f ∙ ap (λ (w : List ℕ). w ++ codes "+") e)

among_is : (text : List ℕ) (a : Among) → IsAmong text a → among_of text ≡ a
among_is text All h = absurd h
among_is text (OfLevel l) h = level_is text l h
among_is text (OfLevelOrMore l) h = or_more_is text h.0 l h.1 h.2
among_is text (InGroup group) h =
    rw (
      bytes_eq-other text (codes "untrusted") (λ e. (h.2 Untrusted).0 e),
      bytes_eq-other text (codes "semitrusted") (λ e. (h.2 Semitrusted).0 e),
      bytes_eq-other text (codes "trusted") (λ e. (h.2 Trusted).0 e),
      bytes_eq-other text (codes "untrusted+") (λ e. (h.2 Untrusted).1 (codes "untrusted", refl, e)),
      bytes_eq-other text (codes "semitrusted+") (λ e. (h.2 Semitrusted).1 (codes "semitrusted", refl, e)),
      bytes_eq-other text (codes "trusted+") (λ e. (h.2 Trusted).1 (codes "trusted", refl, e)),
    ) (ap InGroup h.0)

record Parts (value : List ℕ) (a : Among) (n : ℕ) : Type 0 where
  kind : List ℕ
  digits : List ℕ
  among : IsAmong kind a
  count : IsCount digits n
  spelled : value ≡ kind ++ 58 ∷ digits

copies_parts : (value : List ℕ) (a : Among) (n : ℕ) → IsCopies value a n → ((a ≡ All) × IsCount value n) ⊎ Parts value a n
copies_parts value All n h = inl (refl, h)
copies_parts value (OfLevel l) n h = inr (record { kind = h.0; digits = h.1; among = h.2; count = h.3; spelled = h.4 ∙ one_colon h.0 h.1 })
copies_parts value (OfLevelOrMore l) n h = inr (record { kind = h.0; digits = h.1; among = h.2; count = h.3; spelled = h.4 ∙ one_colon h.0 h.1 })
copies_parts value (InGroup g) n h = inr (record { kind = h.0; digits = h.1; among = h.2; count = h.3; spelled = h.4 ∙ one_colon h.0 h.1 })

no_colon : (value : List ℕ) (a : Among) (m n : ℕ) → IsCount value m → Parts value a n → ⊥
no_colon value a m n c p = colon_inside p.kind p.digits (subst (λ (w : List ℕ). is_colonless w ≡ true) p.spelled (digits_colonless value c.digits.digits))

copies_unique : (value : List ℕ) (a b : Among) (m n : ℕ) → IsCopies value a m → IsCopies value b n → (a ≡ b) × (m ≡ n)
copies_unique value a b m n h k = both (copies_parts value a m h) (copies_parts value b n k)
  where
    both : ((a ≡ All) × IsCount value m) ⊎ Parts value a m → ((b ≡ All) × IsCount value n) ⊎ Parts value b n → (a ≡ b) × (m ≡ n)
    both (inl p) (inl q) = (p.0 ∙ sym q.0, count_unique value m n p.1 q.1)
    both (inl p) (inr q) = absurd (no_colon value b m n p.1 q)
    both (inr p) (inl q) = absurd (no_colon value a n m q.1 p)
    both (inr p) (inr q) =
        let same = same_cut p.kind p.digits q.kind q.digits (sym p.spelled ∙ q.spelled) (digits_colonless p.digits p.count.digits.digits) (digits_colonless q.digits q.count.digits.digits) in (
          sym (among_is p.kind a p.among) ∙ (ap among_of same.0 ∙ among_is q.kind b q.among),
          count_unique q.digits m n (subst (λ (w : List ℕ). IsCount w m) same.1 p.count) q.count,
        )

-- ---- words

abbrev bare_of : List ℕ → Option Word
bare_of text =
    if bytes_eq text (codes "anything") then Some Anything else
    if bytes_eq text (codes "nothing") then Some Nothing else
    if bytes_eq text (codes "present") then Some Present else
    if bytes_eq text (codes "securehash") then Some SecureHash else
    if bytes_eq text (codes "standard") then Some Standard else
    if bytes_eq text (codes "groupwanted") then Some GroupWanted else None

bare_is : (text : List ℕ) (w : Word) → IsBare text w → bare_of text ≡ Some w
bare_is text Anything e = ap bare_of e
bare_is text Nothing e = ap bare_of e
bare_is text Present e = ap bare_of e
bare_is text SecureHash e = ap bare_of e
bare_is text Standard e = ap bare_of e
bare_is text GroupWanted e = ap bare_of e
bare_is text (Include glob) e = absurd e
bare_is text (Exclude glob) e = absurd e
bare_is text (Copies among n) e = absurd e
bare_is text (LackingCopies n) e = absurd e
bare_is text (InAllGroup group) e = absurd e
bare_is text (OnlyInGroup group) e = absurd e
bare_is text (InBackend backend) e = absurd e
bare_is text (LargerThan n) e = absurd e
bare_is text (SmallerThan n) e = absurd e

bare_unique : (text : List ℕ) (v w : Word) → IsBare text v → IsBare text w → v ≡ w
bare_unique text v w h k = same_Some v w (sym (bare_is text v h) ∙ bare_is text w k)

-- what a word with the tag of this name is

include_is : (name value : List ℕ) (w : Word) → name_tag name ≡ 1 → IsValued name value w → (g : List Item) × IsGlobText value g × (w ≡ Include g)
include_is name value (Include glob) e k = (glob, k.1, refl)
include_is name value w e k = not_tagged name value w 1 e k (λ t. omega (arith, t))

exclude_is : (name value : List ℕ) (w : Word) → name_tag name ≡ 2 → IsValued name value w → (g : List Item) × IsGlobText value g × (w ≡ Exclude g)
exclude_is name value (Exclude glob) e k = (glob, k.1, refl)
exclude_is name value w e k = not_tagged name value w 2 e k (λ t. omega (arith, t))

copies_is : (name value : List ℕ) (w : Word) → name_tag name ≡ 3 → IsValued name value w → (a : Among) × (n : ℕ) × IsCopies value a n × (w ≡ Copies a n)
copies_is name value (Copies among n) e k = (among, n, k.1, refl)
copies_is name value w e k = not_tagged name value w 3 e k (λ t. omega (arith, t))

lacking_is : (name value : List ℕ) (w : Word) → name_tag name ≡ 4 → IsValued name value w → (n : ℕ) × IsCount value n × (w ≡ LackingCopies n)
lacking_is name value (LackingCopies n) e k = (n, k.1, refl)
lacking_is name value w e k = not_tagged name value w 4 e k (λ t. omega (arith, t))

in_all_is : (name value : List ℕ) (w : Word) → name_tag name ≡ 5 → IsValued name value w → (t : List ℕ) × IsText value t × (w ≡ InAllGroup t)
in_all_is name value (InAllGroup group) e k = (group, k.1, refl)
in_all_is name value w e k = not_tagged name value w 5 e k (λ t. omega (arith, t))

only_in_is : (name value : List ℕ) (w : Word) → name_tag name ≡ 6 → IsValued name value w → (t : List ℕ) × IsText value t × (w ≡ OnlyInGroup t)
only_in_is name value (OnlyInGroup group) e k = (group, k.1, refl)
only_in_is name value w e k = not_tagged name value w 6 e k (λ t. omega (arith, t))

backend_is : (name value : List ℕ) (w : Word) → name_tag name ≡ 7 → IsValued name value w → (t : List ℕ) × IsText value t × (w ≡ InBackend t)
backend_is name value (InBackend backend) e k = (backend, k.1, refl)
backend_is name value w e k = not_tagged name value w 7 e k (λ t. omega (arith, t))

larger_is : (name value : List ℕ) (w : Word) → name_tag name ≡ 8 → IsValued name value w → (n : ℕ) × IsSize value n × (w ≡ LargerThan n)
larger_is name value (LargerThan n) e k = (n, k.1, refl)
larger_is name value w e k = not_tagged name value w 8 e k (λ t. omega (arith, t))

smaller_is : (name value : List ℕ) (w : Word) → name_tag name ≡ 9 → IsValued name value w → (n : ℕ) × IsSize value n × (w ≡ SmallerThan n)
smaller_is name value (SmallerThan n) e k = (n, k.1, refl)
smaller_is name value w e k = not_tagged name value w 9 e k (λ t. omega (arith, t))

abbrev pub GlobsAreUnique : Type 0
GlobsAreUnique = (a b : List Item) (text : List ℕ) → IsGlob a text → IsGlob b text → a ≡ b

valued_unique : GlobsAreUnique → (name value : List ℕ) (v w : Word) → IsValued name value v → IsValued name value w → v ≡ w
valued_unique globs name value Anything w h k = absurd h
valued_unique globs name value Nothing w h k = absurd h
valued_unique globs name value Present w h k = absurd h
valued_unique globs name value SecureHash w h k = absurd h
valued_unique globs name value Standard w h k = absurd h
valued_unique globs name value GroupWanted w h k = absurd h
valued_unique globs name value (Include g) w h k =
    let j = include_is name value w (valued_tag name value (Include g) h) k in
    ap Include (globs g j.0 (chars value) h.1.2 j.1.2) ∙ sym j.2
valued_unique globs name value (Exclude g) w h k =
    let j = exclude_is name value w (valued_tag name value (Exclude g) h) k in
    ap Exclude (globs g j.0 (chars value) h.1.2 j.1.2) ∙ sym j.2
valued_unique globs name value (Copies a n) w h k =
    let j = copies_is name value w (valued_tag name value (Copies a n) h) k in
    let same = copies_unique value a j.0 n j.1 h.1 j.2 in
    ap (λ (b : Among). Copies b n) same.0 ∙ (ap (Copies j.0) same.1 ∙ sym j.3)
valued_unique globs name value (LackingCopies n) w h k =
    let j = lacking_is name value w (valued_tag name value (LackingCopies n) h) k in
    ap LackingCopies (count_unique value n j.0 h.1 j.1) ∙ sym j.2
valued_unique globs name value (InAllGroup t) w h k =
    let j = in_all_is name value w (valued_tag name value (InAllGroup t) h) k in
    ap InAllGroup (text_unique value t j.0 h.1 j.1) ∙ sym j.2
valued_unique globs name value (OnlyInGroup t) w h k =
    let j = only_in_is name value w (valued_tag name value (OnlyInGroup t) h) k in
    ap OnlyInGroup (text_unique value t j.0 h.1 j.1) ∙ sym j.2
valued_unique globs name value (InBackend t) w h k =
    let j = backend_is name value w (valued_tag name value (InBackend t) h) k in
    ap InBackend (text_unique value t j.0 h.1 j.1) ∙ sym j.2
valued_unique globs name value (LargerThan n) w h k =
    let j = larger_is name value w (valued_tag name value (LargerThan n) h) k in
    ap LargerThan (size_unique value n j.0 h.1 j.1) ∙ sym j.2
valued_unique globs name value (SmallerThan n) w h k =
    let j = smaller_is name value w (valued_tag name value (SmallerThan n) h) k in
    ap SmallerThan (size_unique value n j.0 h.1 j.1) ∙ sym j.2

pub word_unique : GlobsAreUnique → (text : List ℕ) (v w : Word) → IsWord text v → IsWord text w → v ≡ w
unfolding IsWord
word_unique globs text v w (inl h) k = bare_unique text v w h (word_alone_is text text (sym (bare_again text v h)) refl w k)
word_unique globs text v w (inr h) k =
    valued_unique globs h.0 h.1 v w h.3 (word_valued_is text h.0 h.1 (sym (valued_again h.0 h.1 v h.3) ∙ ap name_of (sym h.2)) h.2 w k)

-- ---- a word is no operator, and its name is known

bare_no_operator : (text : List ℕ) (w : Word) → IsBare text w → is_operator text ≡ false
bare_no_operator text Anything e = ap is_operator e
bare_no_operator text Nothing e = ap is_operator e
bare_no_operator text Present e = ap is_operator e
bare_no_operator text SecureHash e = ap is_operator e
bare_no_operator text Standard e = ap is_operator e
bare_no_operator text GroupWanted e = ap is_operator e
bare_no_operator text (Include glob) e = absurd e
bare_no_operator text (Exclude glob) e = absurd e
bare_no_operator text (Copies among n) e = absurd e
bare_no_operator text (LackingCopies n) e = absurd e
bare_no_operator text (InAllGroup group) e = absurd e
bare_no_operator text (OnlyInGroup group) e = absurd e
bare_no_operator text (InBackend backend) e = absurd e
bare_no_operator text (LargerThan n) e = absurd e
bare_no_operator text (SmallerThan n) e = absurd e

apart_from : (value name text : List ℕ) → name ≡ text → is_operator (text ++ codes "=" ++ value) ≡ false → is_operator (name ++ codes "=" ++ value) ≡ false
apart_from value name text e h = subst (λ (w : List ℕ). is_operator (w ++ codes "=" ++ value) ≡ false) (sym e) h

valued_no_operator : (name value : List ℕ) (w : Word) → IsValued name value w → is_operator (name ++ codes "=" ++ value) ≡ false
valued_no_operator name value Anything k = absurd k
valued_no_operator name value Nothing k = absurd k
valued_no_operator name value Present k = absurd k
valued_no_operator name value SecureHash k = absurd k
valued_no_operator name value Standard k = absurd k
valued_no_operator name value GroupWanted k = absurd k
valued_no_operator name value (Include glob) k = apart_from value name (codes "include") k.0 refl
valued_no_operator name value (Exclude glob) k = apart_from value name (codes "exclude") k.0 refl
valued_no_operator name value (Copies among n) k = apart_from value name (codes "copies") k.0 refl
valued_no_operator name value (LackingCopies n) k = elim k.0 [
  | inl e ↦ apart_from value name (codes "lackingcopies") e refl
  | inr e ↦ apart_from value name (codes "approxlackingcopies") e refl
]
valued_no_operator name value (InAllGroup group) k = apart_from value name (codes "inallgroup") k.0 refl
valued_no_operator name value (OnlyInGroup group) k = apart_from value name (codes "onlyingroup") k.0 refl
valued_no_operator name value (InBackend backend) k = apart_from value name (codes "inbackend") k.0 refl
valued_no_operator name value (LargerThan n) k = apart_from value name (codes "largerthan") k.0 refl
valued_no_operator name value (SmallerThan n) k = apart_from value name (codes "smallerthan") k.0 refl

pub no_operator : (text : List ℕ) (w : Word) → IsWord text w → is_operator text ≡ false
unfolding IsWord
no_operator text w (inl h) = bare_no_operator text w h
no_operator text w (inr h) = ap is_operator h.2 ∙ valued_no_operator h.0 h.1 w h.3

named : (name text : List ℕ) → name ≡ text → is_valued_name text ≡ true → is_valued_name name ≡ true
named name text e h = subst (λ (w : List ℕ). is_valued_name w ≡ true) (sym e) h

valued_named : (name value : List ℕ) (w : Word) → IsValued name value w → is_valued_name name ≡ true
unfolding is_valued_name
valued_named name value Anything k = absurd k
valued_named name value Nothing k = absurd k
valued_named name value Present k = absurd k
valued_named name value SecureHash k = absurd k
valued_named name value Standard k = absurd k
valued_named name value GroupWanted k = absurd k
valued_named name value (Include glob) k = named name (codes "include") k.0 refl
valued_named name value (Exclude glob) k = named name (codes "exclude") k.0 refl
valued_named name value (Copies among n) k = named name (codes "copies") k.0 refl
valued_named name value (LackingCopies n) k = elim k.0 [
  | inl e ↦ named name (codes "lackingcopies") e refl
  | inr e ↦ named name (codes "approxlackingcopies") e refl
]
valued_named name value (InAllGroup group) k = named name (codes "inallgroup") k.0 refl
valued_named name value (OnlyInGroup group) k = named name (codes "onlyingroup") k.0 refl
valued_named name value (InBackend backend) k = named name (codes "inbackend") k.0 refl
valued_named name value (LargerThan n) k = named name (codes "largerthan") k.0 refl
valued_named name value (SmallerThan n) k = named name (codes "smallerthan") k.0 refl

bare_name : (text : List ℕ) (w : Word) → IsBare text w → is_bare_name text ≡ true
unfolding is_bare_name
bare_name text Anything e = ap is_bare_name e
bare_name text Nothing e = ap is_bare_name e
bare_name text Present e = ap is_bare_name e
bare_name text SecureHash e = ap is_bare_name e
bare_name text Standard e = ap is_bare_name e
bare_name text GroupWanted e = ap is_bare_name e
bare_name text (Include glob) e = absurd e
bare_name text (Exclude glob) e = absurd e
bare_name text (Copies among n) e = absurd e
bare_name text (LackingCopies n) e = absurd e
bare_name text (InAllGroup group) e = absurd e
bare_name text (OnlyInGroup group) e = absurd e
bare_name text (InBackend backend) e = absurd e
bare_name text (LargerThan n) e = absurd e
bare_name text (SmallerThan n) e = absurd e

pub has_known_name : (text : List ℕ) (w : Word) → IsWord text w → has_name text ≡ true
unfolding IsWord has_name
has_known_name text w (inl h) = ap (λ (n : List ℕ). is_bare_name n || is_valued_name n) (bare_again text w h) ∙ rw (bare_name text w h) refl
has_known_name text w (inr h) =
    ap (λ (n : List ℕ). is_bare_name n || is_valued_name n) (ap name_of h.2 ∙ valued_again h.0 h.1 w h.3) ∙ or_right (is_bare_name h.0) (is_valued_name h.0) (valued_named h.0 h.1 w h.3)
