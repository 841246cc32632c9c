-- The check of a name: UTF-8 without a newline.
use Rattle.std.proofs.Common.{inl, inr, ◌≡◌, ℕ, ◌+◌, ◌-◌, ◌<◌, ◌≤◌, true, false, cond, eqb, ltb, List, length, take, get_or, Ok, Err, IsUtf8, Contains, refl, sym, subst, ◌∙◌, arith, length-take, take-take, take_all}
use Rattle.std.specs.List.{position_or_len}
use Rattle.std.specs.Str.{IsValidUpTo}
use Rattle.std.specs.Str.Lossy.{utf8_valid_len}
use Rattle.std.proofs.lemmas.Bool.{cases_Bool, cases_lt, eqb-true, eqb-false, ltb-false, lt-ltb, le-ltb}
use Rattle.std.proofs.lemmas.Bool.Decides.{nat_tests}
use Rattle.std.proofs.lemmas.Str.{utf8_valid_len-IsUtf8, IsUtf8-between, IsCharBoundary-start, IsCharBoundary-before_ascii}
use Rattle.std.proofs.lemmas.List.{get_or-take}
use Rattle.std.proofs.lemmas.List.Sums.{fails_before_first, passes_at_first, position_or_len_is}
use Rattle.annex_base.proofs.Conditions.{if_is}
use Rattle.annex_base.proofs.Results.{err_ok}
use Rattle.annex_key.specs.declared.fault.KeyFault.TheVariants.{EmptyName, BadName}
use Rattle.annex_base.specs.Lines.{newline}
use Rattle.annex_key.specs.KeyText.{IsName}
use Rattle.annex_key.specs.Faults.{IsNameUpTo}
use Rattle.annex_base.specs.Lines.{is_newline}
use Rattle.annex_key.specs.Reading.{name_front, checked_name}
use Rattle.annex_key.proofs.Steps.{ok_is}
use Rattle.annex_key.proofs.Utf8Lemmas.{utf8_valid_len-cases}

at_newline : (b : ℕ) → is_newline b ≡ true → b ≡ newline
at_newline b is = eqb-true b newline is

-- no newline stands before the first one
no_newline : (name : List ℕ) → length name ≤ position_or_len is_newline name → ¬ Contains name newline
no_newline name long found =
    let fails = fails_before_first is_newline name found.0 newline (omega (arith, found.1)) in
    eqb-false (get_or name found.0 newline) newline fails found.2

pub whole_front : (name : List ℕ) → length name ≤ name_front name → IsName name
whole_front name whole =
    let utf8 : IsUtf8 name = elim (utf8_valid_len-cases name) [ inl is ↦ is | inr stops ↦ absurd (omega (arith, stops.short, whole)) ] in
    record { utf8 = utf8; one_line = no_newline name (omega (arith, whole)) }

pub checked_is : (total : ℕ) (name x : List ℕ) → checked_name total name ≡ Ok x → (name ≡ x) × (0 < length x) × IsName x
unfolding checked_name
checked_is total name x e =
    elim (if_is (eqb (length name) 0) (Err EmptyName) _ _ e) [
      | inl empty ↦ absurd (err_ok EmptyName x empty.1)
      | inr some ↦ elim (if_is (ltb (name_front name) (length name)) (Err (BadName (total - length name + name_front name))) (Ok name) _ some.1) [
        | inl bad ↦ absurd (err_ok (BadName (total - length name + name_front name)) x bad.1)
        | inr good ↦
            let whole : length name ≤ name_front name = ltb-false (name_front name) (length name) good.0 in
            let long : 0 < length name = omega (arith, eqb-false (length name) 0 some.0) in
            let is = ok_is name x good.1 in
            (is, subst (λ (w : List ℕ). 0 < length w) is long, subst IsName is (whole_front name whole))
      ]
    ]

pub front_whole : (name : List ℕ) → IsName name → name_front name ≡ length name
front_whole name is =
    let first : position_or_len is_newline name ≡ length name = position_or_len_is is_newline name (length name) newline (omega arith) (λ k within. other k within) (λ past. absurd (omega (arith, past))) in
    let utf8 : utf8_valid_len name ≡ length name = utf8_valid_len-IsUtf8 name is.utf8 in
    omega (arith, first, utf8) where
      other : (k : ℕ) → k < length name → is_newline (get_or name k newline) ≡ false
      other k within = elim (cases_Bool (is_newline (get_or name k newline))) [ inl yes' ↦ absurd (is.one_line (k, within, at_newline (get_or name k newline) yes')) | inr other' ↦ other' ]

pub checked_again : (total : ℕ) (name : List ℕ) → 0 < length name → IsName name → checked_name total name ≡ Ok name
unfolding checked_name
checked_again total name some is =
    let long : eqb (length name) 0 ≡ false = positive (length name) some in
    let whole : ltb (name_front name) (length name) ≡ false = le-ltb (name_front name) (length name) (omega (arith, front_whole name is)) in
    rw (long, whole) refl where
      positive : (n : ℕ) → 0 < n → eqb n 0 ≡ false
      positive n some = grind (arith, nat_tests)

-- a text stays one where it is cut before a newline
cut_before : (name : List ℕ) (p : ℕ) → IsUtf8 name → p < length name → get_or name p 0 ≡ newline → IsUtf8 (take p name)
cut_before name p is within at =
    subst (λ n. IsUtf8 (take n name)) (sub-zero p) (IsUtf8-between name 0 p is (omega arith) (IsCharBoundary-start name is) (IsCharBoundary-before_ascii name p within (omega (arith, at)))) where
      sub-zero : (n : ℕ) → n - 0 ≡ n
      sub-zero n = omega arith

-- no newline stands in a front that ends by the first one
no_newline_in : (name : List ℕ) (n : ℕ) → n ≤ position_or_len is_newline name → ¬ Contains (take n name) newline
no_newline_in name n short found =
    let within : found.0 < n = omega (arith, found.1, length-take n name) in
    let fails = fails_before_first is_newline name found.0 newline (omega arith) in
    eqb-false (get_or name found.0 newline) newline fails (sym (get_or-take n name found.0 newline within) ∙ found.2)

-- a longer front has it
newline_in : (name : List ℕ) (p m : ℕ) → p < m → p < length name → get_or name p newline ≡ newline → Contains (take m name) newline
newline_in name p m above within at =
    (p, omega (arith, length-take m name), get_or-take m name p newline above ∙ at)

-- the name up to its first newline
up_to_newline : (name : List ℕ) → IsUtf8 (take (position_or_len is_newline name) name) → position_or_len is_newline name < length name → IsNameUpTo name (position_or_len is_newline name)
up_to_newline name is within =
    let p = position_or_len is_newline name in
    let at : get_or name p newline ≡ newline = at_newline (get_or name p newline) (passes_at_first is_newline name newline within) in
    record { short = within; front = record { utf8 = is; one_line = no_newline_in name p (omega arith) }; longest = λ m above front. front.one_line (newline_in name p m above within at) }

newline_at : (name : List ℕ) → position_or_len is_newline name < length name → get_or name (position_or_len is_newline name) 0 ≡ newline
newline_at name within =
    let p = position_or_len is_newline name in at_newline (get_or name p 0) (passes_at_first is_newline name 0 within)

of_text : (name : List ℕ) → IsUtf8 name → name_front name < length name → IsNameUpTo name (name_front name)
of_text name is short =
    let p = position_or_len is_newline name in
    let whole : utf8_valid_len name ≡ length name = utf8_valid_len-IsUtf8 name is in
    let same : p ≡ name_front name = omega (arith, whole, short) in
    let within : p < length name = omega (arith, same, short) in
    subst (IsNameUpTo name) same (up_to_newline name (cut_before name p is within (newline_at name within)) within)

of_stop : (name : List ℕ) → IsValidUpTo name (utf8_valid_len name) → name_front name < length name → IsNameUpTo name (name_front name)
of_stop name stops short =
    let p = position_or_len is_newline name in
    let v = utf8_valid_len name in
    elim (cases_lt p v) [
      | inl first ↦
          let within : p < length name = omega (arith, first, stops.short) in
          let inside : p < length (take v name) = omega (arith, length-take v name, first, stops.short) in
          let at : get_or (take v name) p 0 ≡ newline = get_or-take v name p 0 first ∙ newline_at name within in
          let cut : IsUtf8 (take p (take v name)) = cut_before (take v name) p stops.front inside at in
          let same : p ≡ name_front name = omega (arith, first) in
          subst (IsNameUpTo name) same (up_to_newline name (subst IsUtf8 (take-take p v name (omega (arith, first))) cut) within)
      | inr later ↦
          let same : v ≡ name_front name = omega (arith, later) in
          subst (IsNameUpTo name) same
          (record { short = stops.short; front = record { utf8 = stops.front; one_line = no_newline_in name v later }; longest = λ m above front. stops.longest m above front.utf8 })
    ]

-- the place of a bad byte ends the longest front that is a name
pub front_longest : (name : List ℕ) → name_front name < length name → IsNameUpTo name (name_front name)
front_longest name short = elim (utf8_valid_len-cases name) [ inl is ↦ of_text name is short | inr stops ↦ of_stop name stops short ]

-- and it is the only place that does
pub front_is : (name : List ℕ) (n : ℕ) → IsNameUpTo name n → name_front name ≡ n
front_is name n up_to =
    elim (cases_lt (name_front name) (length name)) [
      | inr whole ↦ absurd (up_to.longest (length name) up_to.short (subst IsName (sym (take_all (length name) name (omega arith))) (whole_front name whole)))
      | inl short ↦
          let own = front_longest name short in
          elim (cases_lt (name_front name) n) [
            | inl below ↦ absurd (own.longest n below up_to.front)
            | inr above ↦ elim (cases_lt n (name_front name)) [
              | inl more ↦ absurd (up_to.longest (name_front name) more own.front)
              | inr less ↦ omega (arith, above, less)
            ]
          ]
    ]

pub checked_bad : (total : ℕ) (name : List ℕ) (n : ℕ) → IsNameUpTo name n → checked_name total name ≡ Err (BadName (total - length name + n))
unfolding checked_name
checked_bad total name n up_to =
    let same : name_front name ≡ n = front_is name n up_to in
    let long : eqb (length name) 0 ≡ false = positive (length name) (omega (arith, up_to.short)) in
    let short : ltb n (length name) ≡ true = lt-ltb n (length name) up_to.short in
    rw long (subst (λ m. cond (ltb m (length name)) (Err (BadName (total - length name + m))) (Ok name) ≡ Err (BadName (total - length name + n))) (sym same) (rw short refl)) where
      positive : (n : ℕ) → 0 < n → eqb n 0 ≡ false
      positive n some = grind (arith, nat_tests)
