-- A file name stands for one text, or has one first bad escape.
use Rattle.std.proofs.Common.{◌⊎◌, inl, inr, ◌≡◌, ◌≢◌, ℕ, ◌+◌, true, eqb, ◌||◌, not, List, [], ◌∷◌, ◌++◌, length, Some, None, Result, Ok, Err, IfOk, IsErrAnd, MatchResult, ◌↔◌, refl, sym, ap, subst, ◌∙◌, append_assoc, length-append, true≢false}
use Rattle.std.proofs.lemmas.Bool.{cases_Bool, eqb-true, and_parts, or_cases}
use Rattle.std.proofs.lemmas.Option.{none-some, same_Some}
use Rattle.annex_base.specs.Lines.{colon, slash}
use Rattle.annex_key.specs.declared.fault.KeyFault.{KeyFault}
use Rattle.annex_key.specs.declared.fault.KeyFault.TheVariants.{NoDashes, BadBackend, BadField, EmptyName, TooLong, BadEscape, BadName, NoMemory}
use Rattle.annex_key.specs.KeyFile.{ampersand, percent, ampersand_letter, percent_letter, colon_letter, escape_of, file_text, byte_at, after_ampersand, is_bad_escape, HasBadEscape, BreaksFile, StandsForBroken, FailsEscape}
use Rattle.annex_key.specs.KeyText.{IsKeyText}
use Rattle.annex_key.specs.Reading.{begins}
use Rattle.annex_key.specs.Faults.{Breaks}

-- what is written of a byte is read as it
pub byte_at-escaped : (b : ℕ) (rest : List ℕ) → byte_at (escape_of b ++ rest) ≡ Some (b, rest)
byte_at-escaped b rest =
    elim (cases_Bool (eqb b ampersand)) [
      | inl is ↦ rw (eqb-true b ampersand is) refl
      | inr one ↦ elim (cases_Bool (eqb b percent)) [
        | inl is ↦ rw (eqb-true b percent is) refl
        | inr two ↦ elim (cases_Bool (eqb b colon)) [
          | inl is ↦ rw (eqb-true b colon is) refl
          | inr three ↦ elim (cases_Bool (eqb b slash)) [
            | inl is ↦ rw (eqb-true b slash is) refl
            | inr four ↦ rw (one, two, three, four) (rw (one, two, three, four) refl)
          ]
        ]
      ]
    ]

after_bad : (bs : List ℕ) → not (begins ampersand_letter bs || begins percent_letter bs || begins colon_letter bs) ≡ true → after_ampersand bs ≡ None
after_bad [] bad = refl
after_bad (c ∷ cs) bad =
    elim (cases_Bool (eqb c ampersand_letter)) [
      | inl is ↦ absurd (true≢false (sym (rw is at bad)))
      | inr one ↦ elim (cases_Bool (eqb c percent_letter)) [
        | inl is ↦ absurd (true≢false (sym (rw (one, is) at bad)))
        | inr two ↦ elim (cases_Bool (eqb c colon_letter)) [
          | inl is ↦ absurd (true≢false (sym (rw (one, two, is) at bad)))
          | inr three ↦ rw (one, two, three) refl
        ]
      ]
    ]

bad_at : (b : ℕ) (bs : List ℕ) → is_bad_escape (b ∷ bs) ≡ true → byte_at (b ∷ bs) ≡ None
bad_at b bs bad =
    let P : ℕ → Type 0 = λ c. is_bad_escape (c ∷ bs) ≡ true → byte_at (c ∷ bs) ≡ None in
    elim (or_cases (eqb b colon || eqb b slash) _ bad) [
      | inl two ↦ elim (or_cases (eqb b colon) (eqb b slash) two) [
        | inl is ↦ subst P (sym (eqb-true b colon is)) (λ _. refl) bad
        | inr is ↦ subst P (sym (eqb-true b slash is)) (λ _. refl) bad
      ]
      | inr alone ↦ subst P (sym (eqb-true b ampersand (and_parts (eqb b ampersand) _ alone).0)) (λ h. after_bad bs h) bad
    ]

-- a bad escape is read as nothing
pub byte_at-bad : (bytes : List ℕ) → is_bad_escape bytes ≡ true → byte_at bytes ≡ None
byte_at-bad [] bad = absurd (true≢false (sym bad))
byte_at-bad (b ∷ bs) bad = bad_at b bs bad

-- a text's first byte is read from what begins with its file name
cons_read : (b : ℕ) (bs rest : List ℕ) → byte_at (file_text (b ∷ bs) ++ rest) ≡ Some (b, file_text bs ++ rest)
cons_read b bs rest = ap byte_at (append_assoc (escape_of b) (file_text bs) rest) ∙ byte_at-escaped b (file_text bs ++ rest)

-- two texts with one file name are one
pub one_text : (x y : List ℕ) → file_text x ≡ file_text y → x ≡ y
one_text [] [] same = refl
one_text [] (c ∷ cs) same = absurd (none-some (c, file_text cs) (ap byte_at same ∙ byte_at-escaped c (file_text cs)))
one_text (b ∷ bs) [] same = absurd (none-some (b, file_text bs) (sym (sym (byte_at-escaped b (file_text bs)) ∙ ap byte_at same)))
one_text (b ∷ bs) (c ∷ cs) same =
    let is = same_Some (b, file_text bs) (c, file_text cs) (sym (byte_at-escaped b (file_text bs)) ∙ ap byte_at same ∙ byte_at-escaped c (file_text cs)) in
    let first : b ≡ c = ap (λ (p : ℕ × List ℕ). p.0) is in
    let rest : bs ≡ cs = one_text bs cs (ap (λ (p : ℕ × List ℕ). p.1) is) in
    ap (λ d. d ∷ bs) first ∙ ap (λ (w : List ℕ). c ∷ w) rest

-- .. and it has no bad escape
pub no_bad : (front rest t : List ℕ) → file_text front ++ rest ≡ file_text t → is_bad_escape rest ≡ true → ⊥
no_bad [] rest [] same bad = true≢false (sym (ap is_bad_escape (sym same) ∙ bad))
no_bad [] rest (c ∷ cs) same bad = none-some (c, file_text cs) (sym (byte_at-bad rest bad) ∙ ap byte_at same ∙ byte_at-escaped c (file_text cs))
no_bad (b ∷ bs) rest [] same bad = none-some (b, file_text bs ++ rest) (sym (ap byte_at same) ∙ cons_read b bs rest)
no_bad (b ∷ bs) rest (c ∷ cs) same bad =
    let is = same_Some (b, file_text bs ++ rest) (c, file_text cs) (sym (cons_read b bs rest) ∙ ap byte_at same ∙ byte_at-escaped c (file_text cs)) in
    no_bad bs rest cs (ap (λ (p : ℕ × List ℕ). p.1) is) bad

-- two bad escapes that nothing bad stands before are at one place
one_place : (x a y b : List ℕ) → file_text x ++ a ≡ file_text y ++ b → is_bad_escape a ≡ true → is_bad_escape b ≡ true → length (file_text x) ≡ length (file_text y)
one_place [] a [] b same bad bad' = refl
one_place [] a (d ∷ ds) b same bad bad' = absurd (none-some (d, file_text ds ++ b) (sym (byte_at-bad a bad) ∙ ap byte_at same ∙ cons_read d ds b))
one_place (c ∷ cs) a [] b same bad bad' = absurd (none-some (c, file_text cs ++ a) (sym (byte_at-bad b bad') ∙ ap byte_at (sym same) ∙ cons_read c cs a))
one_place (c ∷ cs) a (d ∷ ds) b same bad bad' =
    let is = same_Some (c, file_text cs ++ a) (d, file_text ds ++ b) (sym (cons_read c cs a) ∙ ap byte_at same ∙ cons_read d ds b) in
    let first : length (escape_of c) ≡ length (escape_of d) = ap (λ (p : ℕ × List ℕ). length (escape_of p.0)) is in
    let rest : length (file_text cs) ≡ length (file_text ds) = one_place cs a ds b (ap (λ (p : ℕ × List ℕ). p.1) is) bad bad' in
    length-append (escape_of c) (file_text cs) ∙ ap (λ n. n + length (file_text cs)) first ∙ ap (λ n. length (escape_of d) + n) rest ∙ sym (length-append (escape_of d) (file_text ds))

-- ---- what a call answers of a file name

text_or_bad : (file text : List ℕ) (at : ℕ) → file ≡ file_text text → HasBadEscape file at → ⊥
text_or_bad file text at is h = no_bad h.front h.rest text (sym h.spelled ∙ is) h.bad

same_place : (file : List ℕ) (a b : ℕ) → HasBadEscape file a → HasBadEscape file b → a ≡ b
same_place file a b h k = h.place ∙ one_place h.front h.rest k.front k.rest (sym h.spelled ∙ k.spelled) h.bad k.bad ∙ sym k.place

only_memory : (e : KeyFault) (file text : List ℕ) → FailsEscape e file → file ≡ file_text text → e ≡ NoMemory
only_memory (BadEscape at) file text fails is = absurd (text_or_bad file text at is fails)
only_memory NoMemory file text fails is = refl
only_memory NoDashes file text fails is = absurd fails
only_memory BadBackend file text fails is = absurd fails
only_memory (BadField at) file text fails is = absurd fails
only_memory EmptyName file text fails is = absurd fails
only_memory TooLong file text fails is = absurd fails
only_memory (BadName at) file text fails is = absurd fails

first_escape : (at : ℕ) (e : KeyFault) (file : List ℕ) → HasBadEscape file at → BreaksFile e file → BadEscape at ≡ e
first_escape at (BadEscape place) file h b = ap BadEscape (same_place file at place h b)
first_escape at NoMemory file h b = absurd b
first_escape at NoDashes file h b = absurd (text_or_bad file b.0 at b.1 h)
first_escape at BadBackend file h b = absurd (text_or_bad file b.0 at b.1 h)
first_escape at (BadField place) file h b = absurd (text_or_bad file b.0 at b.1 h)
first_escape at EmptyName file h b = absurd (text_or_bad file b.0 at b.1 h)
first_escape at TooLong file h b = absurd (text_or_bad file b.0 at b.1 h)
first_escape at (BadName place) file h b = absurd (text_or_bad file b.0 at b.1 h)

escape_or_memory : (e d : KeyFault) (file : List ℕ) → FailsEscape e file → BreaksFile d file → (e ≡ d) ⊎ (e ≡ NoMemory)
escape_or_memory (BadEscape at) d file fails b = inl (first_escape at d file fails b)
escape_or_memory NoMemory d file fails b = inr refl
escape_or_memory NoDashes d file fails b = absurd fails
escape_or_memory BadBackend d file fails b = absurd fails
escape_or_memory (BadField at) d file fails b = absurd fails
escape_or_memory EmptyName d file fails b = absurd fails
escape_or_memory TooLong d file fails b = absurd fails
escape_or_memory (BadName at) d file fails b = absurd fails

pub failed_only : {A : Type 0} (P : A → Type 0) (r : Result A KeyFault) (e : KeyFault) (file text : List ℕ) → IsErrAnd r (λ d. d ≡ e) → FailsEscape e file → file ≡ file_text text → MatchResult r P (λ d. d ≡ NoMemory)
failed_only P (Ok x) e file text is fails spelled = absurd is
failed_only P (Err d) e file text is fails spelled = is ∙ only_memory e file text fails spelled

pub failed_first : {A : Type 0} (r : Result A KeyFault) (e d : KeyFault) (file : List ℕ) → IsErrAnd r (λ c. c ≡ e) → FailsEscape e file → BreaksFile d file → (r ≡ Err d) ⊎ (r ≡ Err NoMemory)
failed_first (Ok x) e d file is fails b = absurd is
failed_first (Err c) e d file is fails b =
    elim (escape_or_memory e d file fails b) [ inl same ↦ inl (ap Err (is ∙ same)) | inr memory ↦ inr (ap Err (is ∙ memory)) ]

-- a text that the file name stands for breaks what the file name does
stands : (e : KeyFault) (file text : List ℕ) → file ≡ file_text text → Breaks e text → BreaksFile e file
stands (BadEscape at) file text spelled b = absurd b
stands NoMemory file text spelled b = absurd b
stands NoDashes file text spelled b = (text, spelled, b)
stands BadBackend file text spelled b = (text, spelled, b)
stands (BadField at) file text spelled b = (text, spelled, b)
stands EmptyName file text spelled b = (text, spelled, b)
stands TooLong file text spelled b = (text, spelled, b)
stands (BadName at) file text spelled b = (text, spelled, b)

moved : (e : KeyFault) (file text : List ℕ) → file ≡ file_text text → StandsForBroken e file → Breaks e text
moved e file text spelled b = subst (Breaks e) (one_text b.0 text (sym b.1 ∙ spelled)) b.2

stands_back : (e : KeyFault) (file text : List ℕ) → file ≡ file_text text → BreaksFile e file → Breaks e text
stands_back (BadEscape at) file text spelled b = absurd (text_or_bad file text at spelled b)
stands_back NoMemory file text spelled b = absurd b
stands_back NoDashes file text spelled b = moved NoDashes file text spelled b
stands_back BadBackend file text spelled b = moved BadBackend file text spelled b
stands_back (BadField at) file text spelled b = moved (BadField at) file text spelled b
stands_back EmptyName file text spelled b = moved EmptyName file text spelled b
stands_back TooLong file text spelled b = moved TooLong file text spelled b
stands_back (BadName at) file text spelled b = moved (BadName at) file text spelled b

pub file_found : (file text : List ℕ) (r : Result (List ℕ) KeyFault) → file ≡ file_text text → IfOk r (λ k. (k ≡ text) × IsKeyText text) → IfOk r (λ k. (file ≡ file_text k) × IsKeyText k)
file_found file text (Ok k) spelled is = (spelled ∙ ap file_text (sym is.0), subst IsKeyText (sym is.0) is.1)
file_found file text (Err e) spelled is = tt

pub file_only : (file text : List ℕ) (r : Result (List ℕ) KeyFault) → file ≡ file_text text → (IsKeyText text → MatchResult r (λ k. k ≡ text) (λ e. e ≡ NoMemory))
    → (other : List ℕ) → IsKeyText other → file ≡ file_text other → MatchResult r (λ k. k ≡ other) (λ e. e ≡ NoMemory)
file_only file text r spelled only other key is =
    let same : text ≡ other = one_text text other (sym spelled ∙ is) in
    subst (λ (w : List ℕ). MatchResult r (λ k. k ≡ w) (λ e. e ≡ NoMemory)) same (only (subst IsKeyText (sym same) key))

pub file_faults : {A : Type 0} (file text : List ℕ) (r : Result A KeyFault) → file ≡ file_text text → ((e : KeyFault) → e ≢ NoMemory → (r ≡ Err e) ↔ Breaks e text)
    → (e : KeyFault) → e ≢ NoMemory → r ≡ Err e → BreaksFile e file
file_faults file text r spelled faults e other is = stands e file text spelled ((faults e other).0 is)

pub file_first : {A : Type 0} (file text : List ℕ) (r : Result A KeyFault) → file ≡ file_text text → ((e : KeyFault) → e ≢ NoMemory → (r ≡ Err e) ↔ Breaks e text)
    → (e : KeyFault) → BreaksFile e file → (r ≡ Err e) ⊎ (r ≡ Err NoMemory)
file_first file text r spelled faults e b =
    let broken = stands_back e file text spelled b in inl ((faults e (λ same. subst (λ d. Breaks d text) same broken)).1 broken)
