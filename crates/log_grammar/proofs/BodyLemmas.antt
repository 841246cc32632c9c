-- What stands between an identifier and a stamp: levels, texts and groups; and the letters of a location log.
use Rattle.std.proofs.Common.{◌⊎◌, inl, inr, true≢false, ◌≡◌, ℕ, Bool, true, false, not, nat_lt, nat_le, ◌&&◌, ◌==◌, IsTrue, List, [], ◌∷◌, ◌++◌, length, take, drop, get_or, flat_map, Some, refl, sym, ap, subst, ◌∙◌}
use Rattle.std.specs.Char.{is_ascii_digit, is_ascii_control}
use Rattle.std.specs.List.{All, list_all, position_or_len, slice_split, onto_first}
use Rattle.std.specs.Str.Parse.{digits_value}
use Rattle.std.proofs.lemmas.Bool.{eqb-true, cases_Bool, ltb-true, lt-ltb, leb-true, le-leb, and_parts, not-true}
use Rattle.std.proofs.lemmas.List.{append-nil, take-append-drop, take_at, drop_at}
use Rattle.std.proofs.lemmas.List.Splits.{slice_split_none, slice_split_at, slice_split-cons_yes, slice_split-cons_no}
use Rattle.std.proofs.lemmas.List.Sums.{AllPass-from_list_all, list_all-from_AllPass}
use Rattle.std.proofs.lemmas.Option.{cond_some, same_Some}
use Rattle.annex_base.specs.declared.kinds.Level.{Level}
use Rattle.annex_base.proofs.Options.{some_where, where_some}
use Rattle.annex_base.specs.declared.kinds.Level.TheVariants as levels
use Rattle.log_grammar.specs.declared.entry.Value.{Value}
use Rattle.log_grammar.specs.declared.entry.Value.TheVariants as values
use Rattle.annex_base.specs.Lines.{space, is_not_space, is_space}
use Rattle.log_grammar.specs.LineText.{IsWord, is_group_byte, is_group, IsStatus, level_letter, IsLevelBody, IsTextBody, IsGroupBody, IsNumber}
use Rattle.log_grammar.specs.Reading.{letter_status, status_of, number_of, letter_level, level_body, text_body, all_groups, groups_after, group_body, group_front}
use Rattle.log_grammar.proofs.WordLemmas.{word_len, word_len-whole}

-- ---- letters of a location log

letter_status_takes : (letter : ℕ) (v : Value) → letter_status letter ≡ Some v → IsStatus v letter
letter_status_takes letter v e =
    elim (some_where (letter == 49) values.Present v _ e) [
      | inl one ↦ subst (λ (w : Value). IsStatus w letter) one.1 (ap (λ (c : ℕ). c ∷ []) (sym (eqb-true letter 49 one.0)))
      | inr more ↦ elim (some_where (letter == 48) values.Absent v _ more.1) [
        | inl zero' ↦ subst (λ (w : Value). IsStatus w letter) zero'.1 (ap (λ (c : ℕ). c ∷ []) (sym (eqb-true letter 48 zero'.0)))
        | inr last ↦
            let x = cond_some (letter == 88) values.Gone v last.1 in
            subst (λ (w : Value). IsStatus w letter) x.1 (ap (λ (c : ℕ). c ∷ []) (sym (eqb-true letter 88 x.0)))
      ]
    ]

pub status_takes : (word : List ℕ) (v : Value) → status_of word ≡ Some v → (letter : ℕ) × IsStatus v letter × (word ≡ letter ∷ [])
status_takes [] v e = absurd cc
status_takes (letter ∷ []) v e = (letter, letter_status_takes letter v e, refl)
status_takes (letter ∷ other ∷ rest) v e = absurd cc

letter_is : (a b : ℕ) → a ∷ [] ≡ b ∷ [] → b ≡ a
letter_is a b e = cc

pub status_again : (v : Value) (letter : ℕ) → IsStatus v letter → status_of (letter ∷ []) ≡ Some v
status_again values.Present letter is = rw (letter_is 49 letter is) refl
status_again values.Absent letter is = rw (letter_is 48 letter is) refl
status_again values.Gone letter is = rw (letter_is 88 letter is) refl
status_again v letter is = absurd is

-- ---- levels

letter_level_takes : (letter : ℕ) (l : Level) → letter_level letter ≡ Some l → letter ∷ [] ≡ level_letter l
letter_level_takes letter l e =
    elim (some_where (letter == 49) levels.Trusted l _ e) [
      | inl is ↦ subst (λ (m : Level). letter ∷ [] ≡ level_letter m) is.1 (ap (λ (c : ℕ). c ∷ []) (eqb-true letter 49 is.0))
      | inr a ↦ elim (some_where (letter == 63) levels.Semitrusted l _ a.1) [
        | inl is ↦ subst (λ (m : Level). letter ∷ [] ≡ level_letter m) is.1 (ap (λ (c : ℕ). c ∷ []) (eqb-true letter 63 is.0))
        | inr b ↦ elim (some_where (letter == 48) levels.Untrusted l _ b.1) [
          | inl is ↦ subst (λ (m : Level). letter ∷ [] ≡ level_letter m) is.1 (ap (λ (c : ℕ). c ∷ []) (eqb-true letter 48 is.0))
          | inr d ↦
              let is = cond_some (letter == 88) levels.Dead l d.1 in
              subst (λ (m : Level). letter ∷ [] ≡ level_letter m) is.1 (ap (λ (c : ℕ). c ∷ []) (eqb-true letter 88 is.0))
        ]
      ]
    ]

pub level_takes : (body : List ℕ) (l : Level) → level_body body ≡ Some l → body ≡ space ∷ level_letter l
level_takes [] l e = absurd cc
level_takes (b ∷ []) l e = absurd cc
level_takes (b ∷ letter ∷ []) l e =
    let h = where_some (b == space) (letter_level letter) l e in
    ap (λ (c : ℕ). c ∷ letter ∷ []) (eqb-true b space h.0) ∙ ap (λ (m : List ℕ). space ∷ m) (letter_level_takes letter l h.1)
level_takes (b ∷ letter ∷ other ∷ rest) l e = absurd cc

level_again : (body : List ℕ) (l : Level) → body ≡ space ∷ level_letter l → level_body body ≡ Some l
level_again body levels.Dead is = rw is refl
level_again body levels.Untrusted is = rw is refl
level_again body levels.Semitrusted is = rw is refl
level_again body levels.Trusted is = rw is refl

-- the level of such a body
pub level_value : (v : Value) (body : List ℕ) → IsLevelBody v body → (l : Level) × (v ≡ values.Level l) × (level_body body ≡ Some l)
level_value (values.Level l) body is = (l, refl, level_again body l is)
level_value v body is = absurd is

-- ---- texts

pub text_takes : (body t : List ℕ) → text_body body ≡ Some t → IsTextBody (values.Text t) body
text_takes [] t e = inr (sym (same_Some [] t e), refl)
text_takes (b ∷ bs) t e =
    let h = cond_some (b == space) bs t e in
    inl (ap (λ (c : ℕ). c ∷ bs) (eqb-true b space h.0) ∙ ap (λ (l : List ℕ). space ∷ l) h.1)

pub text_again : (body t : List ℕ) → IsTextBody (values.Text t) body → text_body body ≡ Some t
text_again body t is = elim is [ inl spelled ↦ rw spelled refl | inr none ↦ rw (none.1, none.0) refl ]

pub text_value : (v : Value) (body : List ℕ) → IsTextBody v body → (t : List ℕ) × (v ≡ values.Text t) × IsTextBody (values.Text t) body
text_value (values.Text t) body is = (t, refl, is)
text_value v body is = absurd is

-- ---- groups

abbrev spaced : List (List ℕ) → List ℕ
spaced gs = flat_map (λ g. space ∷ g) gs

spaced-onto_first : (b : ℕ) (parts : List (List ℕ)) (bs : List ℕ) → spaced parts ≡ space ∷ bs → spaced (onto_first b parts) ≡ space ∷ b ∷ bs
spaced-onto_first b [] bs e = absurd cc
spaced-onto_first b (part ∷ parts) bs e = ap (λ (l : List ℕ). space ∷ b ∷ drop 1 l) e

spaced-slice_split : (bs : List ℕ) → spaced (slice_split is_space bs) ≡ space ∷ bs
spaced-slice_split [] = refl
spaced-slice_split (b ∷ bs) =
    elim (cases_Bool (is_space b)) [
      | inl at ↦ rw (slice_split-cons_yes is_space b bs at, spaced-slice_split bs) (ap (λ (c : ℕ). space ∷ c ∷ bs) (sym (eqb-true b space at)))
      | inr other ↦ rw (slice_split-cons_no is_space b bs other) (spaced-onto_first b (slice_split is_space bs) bs (spaced-slice_split bs))
    ]

group_byte_no_space : (b : ℕ) → is_group_byte b ≡ true → is_not_space b ≡ true
group_byte_no_space b is = (and_parts (not (is_ascii_control b)) (is_not_space b) is).1

bytes_word : (bs : List ℕ) → list_all is_group_byte bs ≡ true → IsWord bs
bytes_word [] all = refl
bytes_word (b ∷ bs) all =
    let both = and_parts (is_group_byte b) (list_all is_group_byte bs) all in rw (group_byte_no_space b both.0, bytes_word bs both.1) refl

pub group_word : (g : List ℕ) → is_group g ≡ true → IsWord g
group_word [] is = refl
group_word (b ∷ bs) is = bytes_word (b ∷ bs) is

no_spaces : (g : List ℕ) → is_group g ≡ true → All (λ x. is_space x ≡ false) g
no_spaces g is k d within = not-true (is_space (get_or g k d)) (AllPass-from_list_all is_not_space g (group_word g is) k d within)

split_again : (g : List ℕ) (gs : List (List ℕ)) → is_group g ≡ true → list_all is_group gs ≡ true → slice_split is_space (g ++ spaced gs) ≡ g ∷ gs
split_again g [] is all = rw (append-nil g) (slice_split_none is_space g (no_spaces g is))
split_again g (h ∷ hs) is all =
    let both = and_parts (is_group h) (list_all is_group hs) all in
    slice_split_at is_space g space (h ++ spaced hs) (no_spaces g is) refl ∙ ap (λ (l : List (List ℕ)). g ∷ l) (split_again h hs both.0 both.1)

-- a group that stands after the first space
after_again : (stamped : Bool) (g : List ℕ) (gs : List (List ℕ)) → is_group g ≡ true → list_all is_group gs ≡ true → groups_after stamped (g ++ spaced gs) ≡ Some (g ∷ gs)
after_again stamped [] gs is all = absurd (true≢false (sym is))
after_again false (b ∷ bs) gs is all = ap all_groups (split_again (b ∷ bs) gs is all) ∙ rw (is, all) refl
after_again true (b ∷ bs) gs is all = ap all_groups (split_again (b ∷ bs) gs is all) ∙ rw (is, all) refl

group_body_again : (stamped : Bool) (gs : List (List ℕ)) → list_all is_group gs ≡ true → group_body stamped (spaced gs) ≡ Some gs
group_body_again stamped [] all = refl
group_body_again stamped (g ∷ gs) all = let both = and_parts (is_group g) (list_all is_group gs) all in after_again stamped g gs both.0 both.1

-- no group, one space and a stamp
pub record IsLeft (stamped : Bool) (gs : List (List ℕ)) (body : List ℕ) : Type 0 where
  pub at : stamped ≡ true
  pub none : gs ≡ []
  pub spaced : body ≡ space ∷ []

split_takes : (bs : List ℕ) (gs : List (List ℕ)) → all_groups (slice_split is_space bs) ≡ Some gs → IsGroupBody (values.Groups gs) (space ∷ bs)
split_takes bs gs h =
    let all = cond_some (list_all is_group (slice_split is_space bs)) (slice_split is_space bs) gs h in
    let P : List (List ℕ) → Type 0 = λ hs. IsGroupBody (values.Groups hs) (space ∷ bs) in
    subst P all.1 (all.0, sym (spaced-slice_split bs))

after_takes : (stamped : Bool) (bs : List ℕ) (gs : List (List ℕ)) → groups_after stamped bs ≡ Some gs → IsGroupBody (values.Groups gs) (space ∷ bs) ⊎ IsLeft stamped gs (space ∷ bs)
after_takes false bs gs h = inl (split_takes bs gs h)
after_takes true [] gs h = inr (record { at = refl; none = sym (same_Some [] gs h); spaced = refl })
after_takes true (b ∷ bs) gs h = inl (split_takes (b ∷ bs) gs h)

pub groups_takes : (stamped : Bool) (body : List ℕ) (gs : List (List ℕ)) → group_body stamped body ≡ Some gs → IsGroupBody (values.Groups gs) body ⊎ IsLeft stamped gs body
groups_takes stamped [] gs e =
    let P : List (List ℕ) → Type 0 = λ hs. IsGroupBody (values.Groups hs) [] in
    inl (subst P (same_Some [] gs e) (refl, refl))
groups_takes stamped (b ∷ bs) gs e =
    let h = where_some (b == space) (groups_after stamped bs) gs e in
    subst (λ (c : ℕ). IsGroupBody (values.Groups gs) (c ∷ bs) ⊎ IsLeft stamped gs (c ∷ bs)) (sym (eqb-true b space h.0)) (after_takes stamped bs gs h.1)

pub groups_value : (stamped : Bool) (v : Value) (body : List ℕ) → IsGroupBody v body → (gs : List (List ℕ)) × (v ≡ values.Groups gs) × (group_body stamped body ≡ Some gs)
groups_value stamped (values.Groups gs) body is = (gs, refl, ap (group_body stamped) is.1 ∙ group_body_again stamped gs is.0)
groups_value stamped v body is = absurd is

-- ---- a group in front

pub group_front_takes : (bytes : List ℕ) (x : List ℕ × List ℕ) → group_front bytes ≡ Some x → IsTrue (is_group x.0) × (bytes ≡ x.0 ++ x.1)
unfolding group_front
group_front_takes bytes x e =
    let n = position_or_len is_space bytes in
    let h = cond_some (is_group (take n bytes)) (take n bytes, drop n bytes) x e in
    subst (λ (y : List ℕ × List ℕ). IsTrue (is_group y.0) × (bytes ≡ y.0 ++ y.1)) h.1 (h.0, sym (take-append-drop n bytes))

pub group_front_again : (group body t : List ℕ) → is_group group ≡ true → IsTextBody (values.Text t) body → group_front (group ++ body) ≡ Some (group, body)
unfolding group_front
group_front_again group body t is says =
    let word = group_word group is in
    let n : position_or_len is_space (group ++ body) ≡ length group = elim says [
      | inl spelled ↦ rw spelled (word_len group t word)
      | inr none ↦ rw (none.1, append-nil group) (word_len-whole group word)
    ] in
    rw (n, take_at group body (length group) refl, drop_at group body (length group) refl, is) refl

-- ---- numbers

pub number_takes : (word : List ℕ) (n : ℕ) → number_of word ≡ Some n → IsNumber (values.Number n) word
unfolding number_of
number_takes word n e =
    let h = cond_some (nat_lt 0 (length word) && nat_le (length word) 9 && list_all is_ascii_digit word) (digits_value 10 word) n e in
    let outer = and_parts (nat_lt 0 (length word) && nat_le (length word) 9) (list_all is_ascii_digit word) h.0 in
    let inner = and_parts (nat_lt 0 (length word)) (nat_le (length word) 9) outer.0 in
    (ltb-true 0 (length word) inner.0, leb-true (length word) 9 inner.1, AllPass-from_list_all is_ascii_digit word outer.1, sym h.1)

number_again : (word : List ℕ) (n : ℕ) → IsNumber (values.Number n) word → number_of word ≡ Some n
unfolding number_of
number_again word n is =
    rw (lt-ltb 0 (length word) is.0, le-leb (length word) 9 is.1, list_all-from_AllPass is_ascii_digit word is.2) (ap Some (sym is.3))

pub number_value : (v : Value) (word : List ℕ) → IsNumber v word → (n : ℕ) × (v ≡ values.Number n) × (number_of word ≡ Some n)
number_value (values.Number n) word is = (n, refl, number_again word n is)
number_value v word is = absurd is
