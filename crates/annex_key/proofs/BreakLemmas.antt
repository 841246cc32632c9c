-- The first rule that a text breaks is the fault that reading meets.
use Rattle.std.proofs.Common.{◌⊎◌, inl, inr, ◌≡◌, ◌≢◌, ℕ, ◌+◌, ◌-◌, ◌<◌, ◌^◌, Bool, true, false, eqb, ltb, ◌&&◌, is_none, List, [], ◌∷◌, ◌++◌, length, Option, Some, None, Result, Ok, Err, IfSome, refl, sym, ap, subst, ◌∙◌, append_assoc, length-append, arith, true≢false}
use Rattle.std.specs.Fmt.{decimal}
use Rattle.std.proofs.lemmas.Bool.{cases_Bool, eqb-true, lt-ltb, le-ltb, and_parts, or_cases, or_parts}
use Rattle.annex_base.specs.Lines.{dash}
use Rattle.annex_base.specs.Decimal.{number_of}
use Rattle.annex_base.proofs.Conditions.{eqb_refl}
use Rattle.annex_base.proofs.DecimalLemmas.{number_some}
use Rattle.annex_base.proofs.Options.{none_by, is_none_true, some_none}
use Rattle.annex_key.specs.declared.fault.KeyFault.{KeyFault}
use Rattle.annex_key.specs.declared.fault.KeyFault.TheVariants.{NoDashes, BadBackend, BadField, EmptyName, TooLong, BadEscape, BadName, NoMemory}
use Rattle.annex_key.specs.KeyText.{KeyParts, is_backend, size_letter, mtime_letter, chunk_size_letter, chunk_letter, field_text, chunk_text}
use Rattle.annex_base.specs.ResultSteps.{◌>>=◌}
use Rattle.annex_key.specs.Reading.{begins, comes, has_dashes, word_of, backend_at, number_at, field_at, must_at, chunk_at, checked_name, name_at, parts_at, key_at}
use Rattle.annex_key.specs.Faults.{IsNumber, Front, front_text, IsFront, may_come, HasBadLetter, HasBadNumber, HasName, HasBadName, IsTried, Breaks}
use Rattle.annex_key.proofs.NameLemmas.{checked_bad}
use Rattle.annex_key.proofs.ReadingLemmas.{backend_again, number_again, field_again, chunk_again}
use Rattle.annex_key.proofs.KeyLemmas.{named, from_chunk, from_mtime, from_size, from_backend}
use Rattle.annex_key.proofs.FaultLemmas.{is_has, has_is, regroup}

-- a word that is no number is a fault at it
bad_number : (total : ℕ) (bytes : List ℕ) → (¬ IsNumber (word_of bytes)) → number_at total bytes ≡ Err (BadField (total - length bytes))
unfolding number_at
bad_number total bytes bad =
    let none : number_of (word_of bytes) ≡ None = none_by (number_of (word_of bytes)) (λ n is. let s = number_some (word_of bytes) n is in bad (n, s.1, s.0)) in
    rw none refl

-- a bad number of a field that may stand
field_bad : (letter total : ℕ) (rest : List ℕ) → (¬ IsNumber (word_of rest)) → field_at letter total (dash ∷ letter ∷ rest) ≡ Err (BadField (total - length rest))
unfolding field_at
field_bad letter total rest bad =
    let is : eqb letter letter ≡ true = eqb_refl letter in
    let fails : number_at total rest ≡ Err (BadField (total - length rest)) = bad_number total rest bad in
    rw (is, fails) refl

chunk_size_bad : (total : ℕ) (rest : List ℕ) → (¬ IsNumber (word_of rest)) → chunk_at total (dash ∷ chunk_size_letter ∷ rest) ≡ Err (BadField (total - length rest))
unfolding chunk_at
chunk_size_bad total rest bad =
    let fails : number_at total rest ≡ Err (BadField (total - length rest)) = bad_number total rest bad in
    rw fails refl

-- after a chunk's size
chunk_at-size : (total n : ℕ) (tail : List ℕ) → n < 2 ^ 64 → begins dash tail ≡ true
    → chunk_at total (field_text chunk_size_letter (Some n) ++ tail) ≡ (must_at chunk_letter total tail >>= λ chunk. Ok (Some (n, chunk.0), chunk.1))
unfolding chunk_at
chunk_at-size total n tail small follows =
    let size : number_at total (decimal n ++ tail) ≡ Ok (n, tail) = number_again total n tail small follows in
    rw size refl

must_bad_number : (total : ℕ) (rest : List ℕ) → (¬ IsNumber (word_of rest)) → must_at chunk_letter total (dash ∷ chunk_letter ∷ rest) ≡ Err (BadField (total - length rest))
unfolding must_at
must_bad_number total rest bad = bad_number total rest bad

must_bad_letter : (total letter : ℕ) (rest : List ℕ) → eqb letter chunk_letter ≡ false → must_at chunk_letter total (dash ∷ letter ∷ rest) ≡ Err (BadField (total - length (dash ∷ letter ∷ rest) + 1))
unfolding must_at
must_bad_letter total letter rest other = rw other refl

name_bad_letter : (total letter : ℕ) (rest : List ℕ) → eqb letter dash ≡ false → name_at total (dash ∷ letter ∷ rest) ≡ Err (BadField (total - length (dash ∷ letter ∷ rest) + 1))
unfolding name_at
name_bad_letter total letter rest other = rw other refl

-- ---- reading up to a part

abbrev IsSmall : Option ℕ → Type 0
IsSmall o = IfSome o (λ n. n < 2 ^ 64)

abbrev failing : KeyFault → Result KeyParts KeyFault
failing e = Err e

up_to_size : (text backend rest : List ℕ) → text ≡ backend ++ rest → is_backend backend ≡ true → begins dash rest ≡ true → parts_at text ≡ from_backend (length text) (backend, rest)
unfolding parts_at
up_to_size text backend rest spelled is follows =
    ap (λ (r : Result (List ℕ × List ℕ) KeyFault). r >>= from_backend (length text)) (ap backend_at spelled ∙ backend_again backend rest is follows)

up_to_mtime : (total : ℕ) (backend : List ℕ) (size : Option ℕ) (rest : List ℕ) → IsSmall size → begins dash rest ≡ true → (size ≡ None → comes size_letter rest ≡ false)
    → from_backend total (backend, field_text size_letter size ++ rest) ≡ from_size total backend (size, rest)
up_to_mtime total backend size rest small follows other =
    ap (λ (r : Result (Option ℕ × List ℕ) KeyFault). r >>= from_size total backend) (field_again size_letter total size rest small follows other)

up_to_chunk : (total : ℕ) (backend : List ℕ) (size mtime : Option ℕ) (rest : List ℕ) → IsSmall mtime → begins dash rest ≡ true → (mtime ≡ None → comes mtime_letter rest ≡ false)
    → from_size total backend (size, field_text mtime_letter mtime ++ rest) ≡ from_mtime total backend size (mtime, rest)
up_to_chunk total backend size mtime rest small follows other =
    ap (λ (r : Result (Option ℕ × List ℕ) KeyFault). r >>= from_mtime total backend size) (field_again mtime_letter total mtime rest small follows other)

up_to_name : (total : ℕ) (backend : List ℕ) (size mtime : Option ℕ) (chunk : Option (ℕ × ℕ)) (rest : List ℕ) → IfSome chunk (λ c. (c.0 < 2 ^ 64) × (c.1 < 2 ^ 64)) → begins dash rest ≡ true → (chunk ≡ None → comes chunk_size_letter rest ≡ false)
    → from_mtime total backend size (mtime, chunk_text chunk ++ rest) ≡ from_chunk total backend size mtime (chunk, rest)
up_to_name total backend size mtime chunk rest small follows other =
    ap (λ (r : Result (Option (ℕ × ℕ) × List ℕ) KeyFault). r >>= from_chunk total backend size mtime) (chunk_again total chunk rest small follows other)

size_fails : (total : ℕ) (backend rest : List ℕ) → (¬ IsNumber (word_of rest)) → from_backend total (backend, dash ∷ size_letter ∷ rest) ≡ failing (BadField (total - length rest))
size_fails total backend rest bad = ap (λ (r : Result (Option ℕ × List ℕ) KeyFault). r >>= from_size total backend) (field_bad size_letter total rest bad)

mtime_fails : (total : ℕ) (backend : List ℕ) (size : Option ℕ) (rest : List ℕ) → (¬ IsNumber (word_of rest)) → from_size total backend (size, dash ∷ mtime_letter ∷ rest) ≡ failing (BadField (total - length rest))
mtime_fails total backend size rest bad = ap (λ (r : Result (Option ℕ × List ℕ) KeyFault). r >>= from_mtime total backend size) (field_bad mtime_letter total rest bad)

chunk_fails : (total : ℕ) (backend : List ℕ) (size mtime : Option ℕ) (bytes : List ℕ) (e : KeyFault) → chunk_at total bytes ≡ Err e → from_mtime total backend size (mtime, bytes) ≡ failing e
chunk_fails total backend size mtime bytes e fails = ap (λ (r : Result (Option (ℕ × ℕ) × List ℕ) KeyFault). r >>= from_chunk total backend size mtime) fails

name_fails : (total : ℕ) (backend : List ℕ) (size mtime : Option ℕ) (chunk : Option (ℕ × ℕ)) (bytes : List ℕ) (e : KeyFault) → name_at total bytes ≡ Err e → from_chunk total backend size mtime (chunk, bytes) ≡ failing e
name_fails total backend size mtime chunk bytes e fails = ap (λ (r : Result (List ℕ) KeyFault). r >>= named backend size mtime chunk) fails

-- the size and the time are there, or their letters don't come
mtime_starts : (mtime : Option ℕ) (rest : List ℕ) → begins dash rest ≡ true → begins dash (field_text mtime_letter mtime ++ rest) ≡ true
mtime_starts None rest follows = follows
mtime_starts (Some n) rest follows = refl

size_starts : (size : Option ℕ) (rest : List ℕ) → begins dash rest ≡ true → begins dash (field_text size_letter size ++ rest) ≡ true
size_starts None rest follows = follows
size_starts (Some n) rest follows = refl

size_other : (mtime : Option ℕ) (rest : List ℕ) → (mtime ≡ None → comes size_letter rest ≡ false) → comes size_letter (field_text mtime_letter mtime ++ rest) ≡ false
size_other None rest other = other refl
size_other (Some n) rest other = refl

to_chunk : (text backend : List ℕ) (size mtime : Option ℕ) (rest : List ℕ) → is_backend backend ≡ true → IsSmall size → IsSmall mtime → text ≡ backend ++ (field_text size_letter size ++ (field_text mtime_letter mtime ++ rest))
    → begins dash rest ≡ true → (mtime ≡ None → comes mtime_letter rest ≡ false) → (size ≡ None → mtime ≡ None → comes size_letter rest ≡ false)
    → parts_at text ≡ from_mtime (length text) backend size (mtime, rest)
to_chunk text backend size mtime rest is small_size small_mtime spelled follows mtimes sizes =
    let total = length text in
    let tail = field_text mtime_letter mtime ++ rest in
    let starts = mtime_starts mtime rest follows in
    up_to_size text backend (field_text size_letter size ++ tail) spelled is (size_starts size tail starts)
    ∙ up_to_mtime total backend size tail small_size starts (λ s. size_other mtime rest (sizes s))
    ∙ up_to_chunk total backend size mtime rest small_mtime follows mtimes

-- ---- the rules that may be broken

abbrev at_place : List ℕ → List ℕ → Option ℕ → Option ℕ → Option ℕ → Option ℕ → List ℕ → Type 0
at_place text backend size mtime cs c tail =
    text ≡ backend ++ (field_text size_letter size ++ (field_text mtime_letter mtime ++ (field_text chunk_size_letter cs ++ (field_text chunk_letter c ++ tail))))

and_left : (a : Bool) (o : Option ℕ) → o ≡ None → (a && is_none o) ≡ false → a ≡ false
and_left true None e h = h
and_left false None e h = refl
and_left a (Some n) e h = absurd (some_none n e)

and_left_twice : (a : Bool) (o p : Option ℕ) → o ≡ None → p ≡ None → (a && is_none o && is_none p) ≡ false → a ≡ false
and_left_twice a o p e d h = and_left a o e (and_left (a && is_none o) p d h)

pair_text : (n m : ℕ) (tail : List ℕ) → field_text chunk_size_letter (Some n) ++ (field_text chunk_letter (Some m) ++ tail) ≡ chunk_text (Some (n, m)) ++ tail
pair_text n m tail = sym (append_assoc (field_text chunk_size_letter (Some n)) (field_text chunk_letter (Some m)) tail)

chunk_alone : (m : ℕ) → (m < 2 ^ 64) × (false ≡ true) → ⊥
chunk_alone m h = true≢false (sym h.1)

letter_breaks : (text backend : List ℕ) (size mtime cs c : Option ℕ) (letter : ℕ) (rest : List ℕ) → IsFront (record { backend = backend; size = size; mtime = mtime; chunk_size = cs; chunk = c })
    → at_place text backend size mtime cs c (dash ∷ letter ∷ rest) → may_come size mtime cs c letter ≡ false → parts_at text ≡ Err (BadField (length text - length (dash ∷ letter ∷ rest) + 1))
letter_breaks text backend size mtime None (Some m) letter rest is spelled bad = absurd (chunk_alone m is.chunk)
letter_breaks text backend size mtime None None letter rest is spelled bad =
    let total = length text in
    let tail = dash ∷ letter ∷ rest in
    let fourth = or_parts _ _ bad in
    let third = or_parts _ _ fourth.0 in
    let second = or_parts (eqb letter dash) (eqb letter chunk_size_letter) third.0 in
    to_chunk text backend size mtime tail is.backend is.size is.mtime spelled refl (λ m. and_left (eqb letter mtime_letter) mtime m third.1) (λ s m. and_left_twice (eqb letter size_letter) mtime size m s fourth.1)
    ∙ up_to_name total backend size mtime None tail tt refl (λ _. second.1)
    ∙ name_fails total backend size mtime None tail (BadField (total - length tail + 1)) (name_bad_letter total letter rest second.0)
letter_breaks text backend size mtime (Some n) None letter rest is spelled bad =
    let total = length text in
    let tail = dash ∷ letter ∷ rest in
    to_chunk text backend size mtime (field_text chunk_size_letter (Some n) ++ tail) is.backend is.size is.mtime spelled refl (λ _. refl) (λ _ _. refl)
    ∙ chunk_fails total backend size mtime (field_text chunk_size_letter (Some n) ++ tail) (BadField (total - length tail + 1))
    (chunk_at-size total n tail is.chunk_size refl ∙ ap (λ (r : Result (ℕ × List ℕ) KeyFault). r >>= λ chunk. Ok (Some (n, chunk.0), chunk.1)) (must_bad_letter total letter rest bad))
letter_breaks text backend size mtime (Some n) (Some m) letter rest is spelled bad =
    let total = length text in
    let tail = dash ∷ letter ∷ rest in
    to_chunk text backend size mtime (field_text chunk_size_letter (Some n) ++ (field_text chunk_letter (Some m) ++ tail)) is.backend is.size is.mtime spelled refl (λ _. refl) (λ _ _. refl)
    ∙ ap (λ (w : List ℕ). from_mtime total backend size (mtime, w)) (pair_text n m tail)
    ∙ up_to_name total backend size mtime (Some (n, m)) tail (is.chunk_size, is.chunk.0) refl (λ e. absurd (some_none (n, m) e))
    ∙ name_fails total backend size mtime (Some (n, m)) tail (BadField (total - length tail + 1)) (name_bad_letter total letter rest bad)

-- which field it is
which : (size mtime : Option ℕ) (letter : ℕ) → may_come size mtime None None letter ≡ true → letter ≢ dash
    → (letter ≡ chunk_size_letter) ⊎ (((letter ≡ mtime_letter) × (mtime ≡ None)) ⊎ ((letter ≡ size_letter) × (mtime ≡ None) × (size ≡ None)))
which size mtime letter may field =
    elim (or_cases _ _ may) [
      | inr fourth ↦
          let p = and_parts (eqb letter size_letter && is_none mtime) (is_none size) fourth in
          let q = and_parts (eqb letter size_letter) (is_none mtime) p.0 in
          inr (inr (eqb-true letter size_letter q.0, is_none_true mtime q.1, is_none_true size p.1))
      | inl three ↦ elim (or_cases _ _ three) [
        | inr third ↦ let q = and_parts (eqb letter mtime_letter) (is_none mtime) third in inr (inl (eqb-true letter mtime_letter q.0, is_none_true mtime q.1))
        | inl two ↦ elim (or_cases (eqb letter dash) (eqb letter chunk_size_letter) two) [
          | inl first ↦ absurd (field (eqb-true letter dash first))
          | inr second ↦ inl (eqb-true letter chunk_size_letter second)
        ]
      ]
    ]

chunk_size_breaks : (text backend : List ℕ) (size mtime : Option ℕ) (rest : List ℕ) → is_backend backend ≡ true → IsSmall size → IsSmall mtime
    → at_place text backend size mtime None None (dash ∷ chunk_size_letter ∷ rest) → (¬ IsNumber (word_of rest)) → parts_at text ≡ Err (BadField (length text - length rest))
chunk_size_breaks text backend size mtime rest is small_size small_mtime spelled bad =
    to_chunk text backend size mtime (dash ∷ chunk_size_letter ∷ rest) is small_size small_mtime spelled refl (λ _. refl) (λ _ _. refl)
    ∙ chunk_fails (length text) backend size mtime (dash ∷ chunk_size_letter ∷ rest) (BadField (length text - length rest)) (chunk_size_bad (length text) rest bad)

mtime_breaks : (text backend : List ℕ) (size : Option ℕ) (rest : List ℕ) → is_backend backend ≡ true → IsSmall size
    → at_place text backend size None None None (dash ∷ mtime_letter ∷ rest) → (¬ IsNumber (word_of rest)) → parts_at text ≡ Err (BadField (length text - length rest))
mtime_breaks text backend size rest is small spelled bad =
    let tail = dash ∷ mtime_letter ∷ rest in
    up_to_size text backend (field_text size_letter size ++ tail) spelled is (size_starts size tail refl)
    ∙ up_to_mtime (length text) backend size tail small refl (λ _. refl)
    ∙ mtime_fails (length text) backend size rest bad

size_breaks : (text backend rest : List ℕ) → is_backend backend ≡ true
    → at_place text backend None None None None (dash ∷ size_letter ∷ rest) → (¬ IsNumber (word_of rest)) → parts_at text ≡ Err (BadField (length text - length rest))
size_breaks text backend rest is spelled bad =
    up_to_size text backend (dash ∷ size_letter ∷ rest) spelled is refl ∙ size_fails (length text) backend rest bad

number_breaks : (text backend : List ℕ) (size mtime cs c : Option ℕ) (letter : ℕ) (rest : List ℕ) → IsFront (record { backend = backend; size = size; mtime = mtime; chunk_size = cs; chunk = c })
    → at_place text backend size mtime cs c (dash ∷ letter ∷ rest) → may_come size mtime cs c letter ≡ true → letter ≢ dash → (¬ IsNumber (word_of rest)) → parts_at text ≡ Err (BadField (length text - length rest))
number_breaks text backend size mtime None (Some m) letter rest is spelled good field bad = absurd (chunk_alone m is.chunk)
number_breaks text backend size mtime None None letter rest is spelled good field bad =
    elim (which size mtime letter good field) [
      | inl l ↦ chunk_size_breaks text backend size mtime rest is.backend is.size is.mtime (subst (λ a. at_place text backend size mtime None None (dash ∷ a ∷ rest)) l spelled) bad
      | inr others ↦ elim others [
        | inl l ↦
            mtime_breaks text backend size rest is.backend is.size (subst (λ a. at_place text backend size None None None (dash ∷ a ∷ rest)) l.0 (subst (λ o. at_place text backend size o None None (dash ∷ letter ∷ rest)) l.1 spelled)) bad
        | inr l ↦
            size_breaks text backend rest is.backend
            (subst (λ a. at_place text backend None None None None (dash ∷ a ∷ rest)) l.0 (subst (λ o. at_place text backend o None None None (dash ∷ letter ∷ rest)) l.2 (subst (λ o. at_place text backend size o None None (dash ∷ letter ∷ rest)) l.1 spelled))) bad
      ]
    ]
number_breaks text backend size mtime (Some n) None letter rest is spelled good field bad =
    let total = length text in
    let tail = dash ∷ chunk_letter ∷ rest in
    let here : at_place text backend size mtime (Some n) None tail = subst (λ a. at_place text backend size mtime (Some n) None (dash ∷ a ∷ rest)) (eqb-true letter chunk_letter good) spelled in
    to_chunk text backend size mtime (field_text chunk_size_letter (Some n) ++ tail) is.backend is.size is.mtime here refl (λ _. refl) (λ _ _. refl)
    ∙ chunk_fails total backend size mtime (field_text chunk_size_letter (Some n) ++ tail) (BadField (total - length rest))
    (chunk_at-size total n tail is.chunk_size refl ∙ ap (λ (r : Result (ℕ × List ℕ) KeyFault). r >>= λ chunk. Ok (Some (n, chunk.0), chunk.1)) (must_bad_number total rest bad))
number_breaks text backend size mtime (Some n) (Some m) letter rest is spelled good field bad = absurd (field (eqb-true letter dash good))

name_breaks : (text backend : List ℕ) (size mtime cs c : Option ℕ) (name : List ℕ) → IsFront (record { backend = backend; size = size; mtime = mtime; chunk_size = cs; chunk = c })
    → at_place text backend size mtime cs c (dash ∷ dash ∷ name) → may_come size mtime cs c dash ≡ true → (e : KeyFault) → checked_name (length text) name ≡ Err e → parts_at text ≡ Err e
unfolding name_at
name_breaks text backend size mtime None (Some m) name is spelled good e fails = absurd (chunk_alone m is.chunk)
name_breaks text backend size mtime None None name is spelled good e fails =
    let total = length text in
    let tail = dash ∷ dash ∷ name in
    to_chunk text backend size mtime tail is.backend is.size is.mtime spelled refl (λ _. refl) (λ _ _. refl)
    ∙ up_to_name total backend size mtime None tail tt refl (λ _. refl)
    ∙ name_fails total backend size mtime None tail e fails
name_breaks text backend size mtime (Some n) None name is spelled good e fails = absurd (true≢false (sym good))
name_breaks text backend size mtime (Some n) (Some m) name is spelled good e fails =
    let total = length text in
    let tail = dash ∷ dash ∷ name in
    to_chunk text backend size mtime (field_text chunk_size_letter (Some n) ++ (field_text chunk_letter (Some m) ++ tail)) is.backend is.size is.mtime spelled refl (λ _. refl) (λ _ _. refl)
    ∙ ap (λ (w : List ℕ). from_mtime total backend size (mtime, w)) (pair_text n m tail)
    ∙ up_to_name total backend size mtime (Some (n, m)) tail (is.chunk_size, is.chunk.0) refl (λ _. refl)
    ∙ name_fails total backend size mtime (Some (n, m)) tail e fails

-- ---- all rules

tried : (text : List ℕ) → IsTried text → key_at text ≡ parts_at text
unfolding key_at
tried text t =
    let short : ltb 1024 (length text) ≡ false = le-ltb 1024 (length text) t.0 in
    let has : has_dashes text ≡ true = is_has text t.1 in
    rw (short, has) refl

regrouped : (text : List ℕ) (f : Front) (tail : List ℕ) → text ≡ front_text f ++ tail → at_place text f.backend f.size f.mtime f.chunk_size f.chunk tail
regrouped text f tail spelled =
    spelled ∙ regroup f.backend (field_text size_letter f.size) (field_text mtime_letter f.mtime) (field_text chunk_size_letter f.chunk_size) (field_text chunk_letter f.chunk) tail

letter_is : (text : List ℕ) (at : ℕ) → HasBadLetter text at → parts_at text ≡ Err (BadField at)
letter_is text at h =
    let tail = dash ∷ h.letter ∷ h.rest in
    let place : length text - length tail + 1 ≡ at = omega (arith, ap length h.spelled, length-append (front_text h.front) tail, h.place) in
    letter_breaks text h.front.backend h.front.size h.front.mtime h.front.chunk_size h.front.chunk h.letter h.rest h.is (regrouped text h.front tail h.spelled) h.bad
    ∙ ap (λ p. failing (BadField p)) place

number_is : (text : List ℕ) (at : ℕ) → HasBadNumber text at → parts_at text ≡ Err (BadField at)
number_is text at h =
    let tail = dash ∷ h.letter ∷ h.rest in
    let place : length text - length h.rest ≡ at = omega (arith, ap length h.spelled, length-append (front_text h.front) tail, h.place) in
    number_breaks text h.front.backend h.front.size h.front.mtime h.front.chunk_size h.front.chunk h.letter h.rest h.is (regrouped text h.front tail h.spelled) h.good h.field h.bad
    ∙ ap (λ p. failing (BadField p)) place

name_is : (text name : List ℕ) (place : ℕ) → HasName text name place → (e : KeyFault) → checked_name (length text) name ≡ Err e → parts_at text ≡ Err e
name_is text name place h e fails =
    name_breaks text h.front.backend h.front.size h.front.mtime h.front.chunk_size h.front.chunk name h.is (regrouped text h.front (dash ∷ dash ∷ name) h.spelled) h.good e fails

empty_is : (text : List ℕ) (place : ℕ) → HasName text [] place → parts_at text ≡ Err EmptyName
unfolding checked_name
empty_is text place h = name_is text [] place h EmptyName refl

bad_name_is : (text : List ℕ) (at : ℕ) → HasBadName text at → parts_at text ≡ Err (BadName at)
bad_name_is text at h =
    let total = length text in
    let tail = dash ∷ dash ∷ h.name in
    let place : total - length h.name + h.good ≡ at = omega (arith, ap length h.has.spelled, length-append (front_text h.has.front) tail, h.has.at, h.place) in
    name_is text h.name h.from h.has (BadName (total - length h.name + h.good)) (checked_bad total h.name h.good h.longest)
    ∙ ap (λ p. failing (BadName p)) place

backend_is : (text : List ℕ) → (¬ (is_backend (word_of text) ≡ true)) → parts_at text ≡ Err BadBackend
unfolding parts_at backend_at
backend_is text bad = elim (cases_Bool (is_backend (word_of text))) [ inl is ↦ absurd (bad is) | inr other ↦ rw other refl ]

-- the first rule that a text breaks is the fault that reading meets
pub breaks_err : (e : KeyFault) (text : List ℕ) → Breaks e text → key_at text ≡ Err e
unfolding key_at
breaks_err TooLong text b = let long : ltb 1024 (length text) ≡ true = lt-ltb 1024 (length text) b in rw long refl
breaks_err NoDashes text b =
    let short : ltb 1024 (length text) ≡ false = le-ltb 1024 (length text) b.0 in
    let none : has_dashes text ≡ false = elim (cases_Bool (has_dashes text)) [ inl has ↦ absurd (b.1 (has_is text has)) | inr none ↦ none ] in
    rw (short, none) refl
breaks_err BadBackend text b = tried text b.0 ∙ backend_is text b.1
breaks_err (BadField at) text b = tried text b.0 ∙ elim b.1 [ inl letter ↦ letter_is text at letter | inr number ↦ number_is text at number ]
breaks_err EmptyName text b = tried text b.0 ∙ empty_is text b.1 b.2
breaks_err (BadName at) text b = tried text b.0 ∙ bad_name_is text at b.1
breaks_err (BadEscape at) text b = absurd b
breaks_err NoMemory text b = absurd b
