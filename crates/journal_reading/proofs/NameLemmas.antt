-- The names of a well-formed run's repositories are read as their numbers.
use Rattle.std.proofs.Common.{◌≡◌, inl, inr, ℕ, zero, suc, ◌<◌, Bool, true, false, not, ◌==◌, List, [], ◌∷◌, ◌++◌, length, Some, None, refl, sym, ap, ◌∙◌, arith, one-add}
use Rattle.std.specs.Prelude.{bytes_eq, codes, position, nat_le, ◌&&◌}
use Rattle.std.specs.Char.{is_ascii_lowercase}
use Rattle.std.specs.List.{list_all, list_any, position_or_len}
use Rattle.std.proofs.lemmas.Bool.{and_parts, cases_Bool, lt-ltb}
use Rattle.std.proofs.lemmas.Bool.Decides.{nat_tests}
use Rattle.annex_base.specs.Lines.{is_one_line}
use Rattle.annex_base.specs.Lists.{Each}
use Rattle.annex_base.proofs.Conditions.{bytes_eq-refl}
use Rattle.annex_base.proofs.Lists.{Each-left, Each-right, list_all_weaker, list_any_nowhere}
use Rattle.annex_base.proofs.Options.{none_by}
use Rattle.run_data.specs.declared.run.RepoView.{RepoView}
use Rattle.run_text.specs.Names.{name_of}
use Rattle.script_words.specs.Fields.{is_name, is_name_byte}
use Rattle.journal_reading.specs.Lines.{IsRepo}
use Rattle.journal_reading.specs.WellFormed.{AreNew}
use Rattle.journal_reading.proofs.FormLemmas.{lacks, is_other}
use Rattle.journal_reading.proofs.FieldLemmas.{AreNamed, named_back}

-- ---- a name has letters, digits and `_` alone

lower_is : (b : ℕ) → is_ascii_lowercase b ≡ true → is_name_byte b ≡ true
lower_is b e = rw e refl

name_bytes : (name : List ℕ) → is_name name ≡ true → list_all is_name_byte name ≡ true
name_bytes [] e = absurd cc
name_bytes (b ∷ bs) e =
    let first = and_parts (is_ascii_lowercase b && list_all is_name_byte bs) (nat_le (length bs) 15) e in
    let both = and_parts (is_ascii_lowercase b) (list_all is_name_byte bs) first.0 in
    rw (lower_is b both.0, both.1) refl

byte_other : (b : ℕ) → is_name_byte b ≡ false → (x : ℕ) → is_name_byte x ≡ true → is_other b x ≡ true
byte_other b none x is = elim (cases_Bool (x == b)) [
  | inl same ↦ let e : x ≡ b = eqb x b same in let clash : true ≡ false = sym is ∙ ap is_name_byte e ∙ none in absurd cc
  | inr other ↦ rw other refl
]
  where
    eqb : (x b : ℕ) → (x == b) ≡ true → x ≡ b
    eqb x b e = grind (arith, nat_tests)

pub name_lacks : (b : ℕ) → is_name_byte b ≡ false → (name : List ℕ) → is_name name ≡ true → lacks b name ≡ true
name_lacks b none name is = list_all_weaker is_name_byte (is_other b) (byte_other b none) name (name_bytes name is)

names_are : (repos : List RepoView) → Each IsRepo repos → (r : ℕ) → r < length repos → is_name (name_of repos r) ≡ true
names_are [] each r low = absurd (omega (arith, low))
names_are (x ∷ xs) each zero low = each.0.name
names_are (x ∷ xs) each (suc r) low = names_are xs each.1 r (omega (arith, low))

pub names_lack : (b : ℕ) → is_name_byte b ≡ false → (repos : List RepoView) → Each IsRepo repos → (r : ℕ) → r < length repos → lacks b (name_of repos r) ≡ true
names_lack b none repos each r low = name_lacks b none (name_of repos r) (names_are repos each r low)

names_line : (repos : List RepoView) → Each IsRepo repos → (r : ℕ) → is_one_line (name_of repos r) ≡ true
names_line [] each zero = refl
names_line [] each (suc r) = refl
names_line (x ∷ xs) each zero = name_lacks 10 refl x.name each.0.name
names_line (x ∷ xs) each (suc r) = names_line xs each.1 r

-- ---- each is read as its number

others : (before xs : List RepoView) (r : ℕ) → AreNew before xs → r < length xs → Each (λ (y : RepoView). bytes_eq y.name (name_of xs r) ≡ false) before
others before [] r new low = absurd (omega (arith, low))
others before (x ∷ xs) zero new low = list_any_nowhere (λ (y : RepoView). bytes_eq y.name x.name) before (not_true (list_any (λ (y : RepoView). bytes_eq y.name x.name) before) new.0)
  where
    not_true : (t : Bool) → not t ≡ true → t ≡ false
    not_true true e = absurd cc
    not_true false e = refl
others before (x ∷ xs) (suc r) new low =
    Each-left (λ (y : RepoView). bytes_eq y.name (name_of xs r) ≡ false) before (x ∷ []) (others (before ++ x ∷ []) xs r new.1 (omega (arith, low)))

place_of : (before repos : List RepoView) (r : ℕ) → AreNew before repos → r < length repos → position_or_len (λ (y : RepoView). bytes_eq y.name (name_of repos r)) repos ≡ r
place_of before [] r new low = absurd (omega (arith, low))
place_of before (x ∷ xs) zero new low = rw (bytes_eq-refl x.name) refl
place_of before (x ∷ xs) (suc r) new low =
    let apart = others (before ++ x ∷ []) xs r new.1 (omega (arith, low)) in
    let other : bytes_eq x.name (name_of xs r) ≡ false = (Each-right (λ (y : RepoView). bytes_eq y.name (name_of xs r) ≡ false) before (x ∷ []) apart).0 in
    rw (other, place_of (before ++ x ∷ []) xs r new.1 (omega (arith, low))) (one-add r)

number_read : (repos : List RepoView) → AreNew [] repos → (r : ℕ) → r < length repos → position (λ (y : RepoView). bytes_eq y.name (name_of repos r)) repos ≡ Some r
number_read repos new r low = rw (place_of [] repos r new low, lt-ltb r (length repos) low) refl

no_dash : (repos : List RepoView) → Each IsRepo repos → position (λ (y : RepoView). bytes_eq y.name (codes "-")) repos ≡ None
no_dash repos each = none_by (position (λ (y : RepoView). bytes_eq y.name (codes "-")) repos)
    (λ r e. let h = named_back repos (codes "-") r e in let clash : false ≡ true = ap is_name h.0 ∙ names_are repos each r h.1 in absurd cc)

pub are_named : (repos : List RepoView) → Each IsRepo repos → AreNew [] repos → AreNamed repos
are_named repos each new = record {
  read = number_read repos new;
  lacks_space = names_lack 32 refl repos each;
  lacks_point = names_lack 46 refl repos each;
  lacks_comma = names_lack 44 refl repos each;
  lacks_colon = names_lack 58 refl repos each;
  no_dash = no_dash repos each;
  one_line = names_line repos each;
}
