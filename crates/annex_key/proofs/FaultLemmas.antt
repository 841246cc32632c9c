-- The first fault that reading meets is the first rule that the text breaks.
use Rattle.std.proofs.Common.{inl, inr, ◌≡◌, ◌≢◌, ℕ, ◌+◌, ◌-◌, ◌<◌, ◌≤◌, ◌^◌, Bool, true, false, eqb, ltb, ◌&&◌, List, [], ◌∷◌, ◌++◌, length, drop, is_none, Option, Some, None, Ok, Err, IfSome, refl, sym, ap, subst, ◌∙◌, append_assoc, length-append, arith, true≢false}
use Rattle.std.proofs.lemmas.Bool.{eqb-true, ltb-true, ltb-false, and_parts, or_from, or_cases}
use Rattle.std.proofs.lemmas.List.{nil_from_length}
use Rattle.annex_base.specs.Lines.{dash}
use Rattle.annex_base.specs.Decimal.{number_of}
use Rattle.annex_base.proofs.DecimalLemmas.{number_is}
use Rattle.annex_base.proofs.Conditions.{if_is}
use Rattle.annex_base.proofs.Results.{bind_err, bind_ok, err_ok, guard_err, ok_err}
use Rattle.annex_key.specs.declared.fault.KeyFault.{KeyFault}
use Rattle.annex_key.specs.declared.fault.KeyFault.TheVariants.{NoDashes, BadBackend, BadField, EmptyName, TooLong, BadName}
use Rattle.annex_key.specs.KeyText.{KeyParts, is_backend, size_letter, mtime_letter, chunk_size_letter, chunk_letter, field_text, chunk_text}
use Rattle.annex_base.specs.ResultSteps.{◌>>=◌}
use Rattle.annex_base.proofs.Options.{none_and_some}
use Rattle.annex_key.specs.Reading.{begins, comes, has_dashes, is_dash, word_of, after_word, backend_at, number_at, field_at, must_at, chunk_at, name_front, checked_name, name_at, parts_at, key_at}
use Rattle.annex_key.specs.Faults.{HasDashes, IsNumber, Front, front_text, IsFront, may_follow, HasName, IsTried, Breaks}
use Rattle.annex_key.proofs.Steps.{ok_is, err_is, option_err, comes_is}
use Rattle.annex_key.proofs.WordLemmas.{IsLive, has_dashes-letter}
use Rattle.annex_key.proofs.NameLemmas.{front_longest}
use Rattle.annex_key.proofs.ReadingLemmas.{backend_takes, backend_live, number_takes, number_live, field_takes, chunk_takes}
use Rattle.annex_key.proofs.KeyLemmas.{named, from_chunk, from_mtime, from_size, from_backend, has_dashes-append}

-- ---- two dashes

pub has_is : (text : List ℕ) → has_dashes text ≡ true → HasDashes text
has_is [] has = absurd (true≢false (sym has))
has_is (b ∷ bs) has =
    elim (or_cases (eqb b dash && begins dash bs) (has_dashes bs) has) [
      | inl here ↦
          record { front = []; rest = drop 1 bs; is = both_dashes b bs here }
      | inr later ↦ let more = has_is bs later in record { front = b ∷ more.front; rest = more.rest; is = ap (λ (w : List ℕ). b ∷ w) more.is }
    ] where
      both_dashes : (b : ℕ) (bs : List ℕ) → (eqb b dash && begins dash bs) ≡ true → b ∷ bs ≡ dash ∷ dash ∷ drop 1 bs
      both_dashes b [] h = absurd (true≢false (sym (and_parts (eqb b dash) false h).1))
      both_dashes b (c ∷ cs) h = let p = and_parts (eqb b dash) (eqb c dash) h in rw (eqb-true b dash p.0, eqb-true c dash p.1) refl

pub is_has : (text : List ℕ) → HasDashes text → has_dashes text ≡ true
is_has text has = ap has_dashes has.is ∙ has_dashes-append has.front (dash ∷ dash ∷ has.rest) refl

-- ---- where each reader fails

pub number_err : (total : ℕ) (bytes : List ℕ) (e : KeyFault) → number_at total bytes ≡ Err e → (BadField (total - length bytes) ≡ e) × (¬ IsNumber (word_of bytes))
unfolding number_at
number_err total bytes e h =
    let o = option_err (number_of (word_of bytes)) (λ n. (n, after_word bytes)) (BadField (total - length bytes)) e h in
    (o.1, λ is. none_and_some (number_of (word_of bytes)) is.0 o.0 (ap number_of is.2 ∙ number_is is.0 is.1))

field_err : (letter total : ℕ) (bytes : List ℕ) (e : KeyFault) → field_at letter total bytes ≡ Err e → (comes letter bytes ≡ true) × (number_at total (drop 2 bytes) ≡ Err e)
unfolding field_at
field_err letter total bytes e h =
    elim (if_is (comes letter bytes) _ _ _ h) [
      | inl took ↦ elim (bind_err (number_at total (drop 2 bytes)) (λ n. Ok (Some n.0, n.1)) e took.1) [
        | inl failed ↦ (took.0, failed)
        | inr went ↦ absurd (ok_err e (Some went.0.0, went.0.1) went.2)
      ]
      | inr left ↦ absurd (ok_err e (None, bytes) left.1)
    ]

field_live : (letter total : ℕ) (bytes : List ℕ) (x : Option ℕ × List ℕ) → field_at letter total bytes ≡ Ok x → is_dash letter ≡ false → IsLive bytes → IsLive x.1
unfolding field_at
field_live letter total bytes x e other alive =
    let P : Option ℕ × List ℕ → Type 0 = λ y. IsLive y.1 in
    elim (if_is (comes letter bytes) _ _ _ e) [
      | inl took ↦
          let b = bind_ok (number_at total (drop 2 bytes)) (λ n. Ok (Some n.0, n.1)) x took.1 in
          subst P (ok_is (Some b.0.0, b.0.1) x b.2)
          (number_live total (drop 2 bytes) b.0 b.1 (sym (has_dashes-letter letter (drop 2 bytes) other) ∙ ap has_dashes (sym (comes_is letter bytes took.0)) ∙ alive.has))
      | inr left ↦ subst P (ok_is (None, bytes) x left.1) alive
    ]

-- a field that wasn't there: nothing was read, and its letter doesn't come
field_none : (letter total : ℕ) (bytes : List ℕ) (x : Option ℕ × List ℕ) → field_at letter total bytes ≡ Ok x → x.0 ≡ None → comes letter x.1 ≡ false
unfolding field_at
field_none letter total bytes x e none =
    elim (if_is (comes letter bytes) _ _ _ e) [
      | inl took ↦
          let b = bind_ok (number_at total (drop 2 bytes)) (λ n. Ok (Some n.0, n.1)) x took.1 in
          absurd (none_and_some x.0 b.0.0 none (sym (ap (λ (y : Option ℕ × List ℕ). y.0) (ok_is (Some b.0.0, b.0.1) x b.2))))
      | inr left ↦ subst (λ (y : Option ℕ × List ℕ). comes letter y.1 ≡ false) (ok_is (None, bytes) x left.1) left.0
    ]

-- .. so what came before doesn't come either
field_same : (letter total : ℕ) (bytes : List ℕ) (x : Option ℕ × List ℕ) → field_at letter total bytes ≡ Ok x → x.0 ≡ None → bytes ≡ x.1
unfolding field_at
field_same letter total bytes x e none =
    elim (if_is (comes letter bytes) _ _ _ e) [
      | inl took ↦
          let b = bind_ok (number_at total (drop 2 bytes)) (λ n. Ok (Some n.0, n.1)) x took.1 in
          absurd (none_and_some x.0 b.0.0 none (sym (ap (λ (y : Option ℕ × List ℕ). y.0) (ok_is (Some b.0.0, b.0.1) x b.2))))
      | inr left ↦ ap (λ (y : Option ℕ × List ℕ). y.1) (ok_is (None, bytes) x left.1)
    ]

chunk_live : (total : ℕ) (bytes : List ℕ) (x : Option (ℕ × ℕ) × List ℕ) → chunk_at total bytes ≡ Ok x → IsLive bytes → IsLive x.1
unfolding chunk_at must_at
chunk_live total bytes x e alive =
    let P : Option (ℕ × ℕ) × List ℕ → Type 0 = λ y. IsLive y.1 in
    elim (if_is (comes chunk_size_letter bytes) _ _ _ e) [
      | inl took ↦
          let a = bind_ok (number_at total (drop 2 bytes)) (λ size. must_at chunk_letter total size.1 >>= λ chunk. Ok (Some (size.0, chunk.0), chunk.1)) x took.1 in
          let b = bind_ok (must_at chunk_letter total a.0.1) (λ chunk. Ok (Some (a.0.0, chunk.0), chunk.1)) x a.2 in
          let first = number_live total (drop 2 bytes) a.0 a.1 (sym (has_dashes-letter chunk_size_letter (drop 2 bytes) refl) ∙ ap has_dashes (sym (comes_is chunk_size_letter bytes took.0)) ∙ alive.has) in
          subst P (ok_is (Some (a.0.0, b.0.0), b.0.1) x b.2)
          (elim (if_is (comes chunk_letter a.0.1) _ (Err (BadField (total - length a.0.1 + 1))) _ b.1) [
            | inl second ↦ number_live total (drop 2 a.0.1) b.0 second.1 (sym (has_dashes-letter chunk_letter (drop 2 a.0.1) refl) ∙ ap has_dashes (sym (comes_is chunk_letter a.0.1 second.0)) ∙ first.has)
            | inr left ↦ absurd (err_ok (BadField (total - length a.0.1 + 1)) b.0 left.1)
          ])
      | inr left ↦ subst P (ok_is (None, bytes) x left.1) alive
    ]

chunk_none : (total : ℕ) (bytes : List ℕ) (x : Option (ℕ × ℕ) × List ℕ) → chunk_at total bytes ≡ Ok x → x.0 ≡ None → (comes chunk_size_letter x.1 ≡ false) × (bytes ≡ x.1)
unfolding chunk_at
chunk_none total bytes x e none =
    elim (if_is (comes chunk_size_letter bytes) _ _ _ e) [
      | inl took ↦
          let a = bind_ok (number_at total (drop 2 bytes)) (λ size. must_at chunk_letter total size.1 >>= λ chunk. Ok (Some (size.0, chunk.0), chunk.1)) x took.1 in
          let b = bind_ok (must_at chunk_letter total a.0.1) (λ chunk. Ok (Some (a.0.0, chunk.0), chunk.1)) x a.2 in
          absurd (none_and_some x.0 (a.0.0, b.0.0) none (sym (ap (λ (y : Option (ℕ × ℕ) × List ℕ). y.0) (ok_is (Some (a.0.0, b.0.0), b.0.1) x b.2))))
      | inr left ↦
          let is = ok_is (None, bytes) x left.1 in
          (subst (λ (y : Option (ℕ × ℕ) × List ℕ). comes chunk_size_letter y.1 ≡ false) is left.0, ap (λ (y : Option (ℕ × ℕ) × List ℕ). y.1) is)
    ]

-- ---- what each failure means

pub regroup : (a b c d e t : List ℕ) → (a ++ (b ++ (c ++ (d ++ e)))) ++ t ≡ a ++ (b ++ (c ++ (d ++ (e ++ t))))
regroup a b c d e t = simp append_assoc

number_fault : (text : List ℕ) (f : Front) → IsFront f → (letter : ℕ) (bytes : List ℕ) → text ≡ front_text f ++ bytes → comes letter bytes ≡ true → letter ≢ dash → may_follow f letter ≡ true
    → (e : KeyFault) → number_at (length text) (drop 2 bytes) ≡ Err e → IsTried text → Breaks e text
number_fault text f is letter bytes spelled comes' field good e h tried =
    let n = number_err (length text) (drop 2 bytes) e h in
    let front : bytes ≡ dash ∷ letter ∷ drop 2 bytes = comes_is letter bytes comes' in
    let all : text ≡ front_text f ++ (dash ∷ letter ∷ drop 2 bytes) = spelled ∙ ap (λ (w : List ℕ). front_text f ++ w) front in
    let place : length text - length (drop 2 bytes) ≡ length (front_text f) + 2 = omega (arith, ap length all, length-append (front_text f) (dash ∷ letter ∷ drop 2 bytes)) in
    subst (λ d. Breaks d text) n.0 (tried, inr (record { front = f; is = is; letter = letter; rest = drop 2 bytes; spelled = all; field = field; good = good; bad = n.1; place = place }))

letter_fault : (text : List ℕ) (f : Front) → IsFront f → (bytes : List ℕ) → text ≡ front_text f ++ bytes → (alive : IsLive bytes) → may_follow f alive.letter ≡ false
    → (e : KeyFault) → BadField (length text - length bytes + 1) ≡ e → IsTried text → Breaks e text
letter_fault text f is bytes spelled alive bad e told tried =
    let all : text ≡ front_text f ++ (dash ∷ alive.letter ∷ alive.more) = spelled ∙ ap (λ (w : List ℕ). front_text f ++ w) alive.is in
    let place : length text - length bytes + 1 ≡ length (front_text f) + 1 = omega (arith, ap length spelled, length-append (front_text f) bytes) in
    subst (λ d. Breaks d text) told (tried, inl (record { front = f; is = is; letter = alive.letter; rest = alive.more; spelled = all; bad = bad; place = place }))

-- the letter that comes
comes_live : (letter : ℕ) (bytes : List ℕ) (alive : IsLive bytes) → comes letter bytes ≡ eqb alive.letter letter
comes_live letter bytes alive = ap (comes letter) alive.is

must_fault : (text : List ℕ) (f : Front) → IsFront f → (bytes : List ℕ) → text ≡ front_text f ++ bytes → IsLive bytes
    → ((letter : ℕ) → may_follow f letter ≡ eqb letter chunk_letter) → (e : KeyFault) → must_at chunk_letter (length text) bytes ≡ Err e → IsTried text → Breaks e text
unfolding must_at
must_fault text f is bytes spelled alive only e h tried =
    elim (if_is (comes chunk_letter bytes) _ (Err (BadField (length text - length bytes + 1))) _ h) [
      | inl took ↦ number_fault text f is chunk_letter bytes spelled took.0 (λ same. absurd (omega (arith, same))) (only chunk_letter) e took.1 tried
      | inr left ↦ letter_fault text f is bytes spelled alive (only alive.letter ∙ sym (comes_live chunk_letter bytes alive) ∙ left.0) e (err_is (ℕ × List ℕ) (BadField (length text - length bytes + 1)) e left.1) tried
    ]

-- ---- a front of what was read

abbrev chunk_size_of : Option (ℕ × ℕ) → Option ℕ
chunk_size_of None = None
chunk_size_of (Some c) = Some c.0

abbrev chunk_number_of : Option (ℕ × ℕ) → Option ℕ
chunk_number_of None = None
chunk_number_of (Some c) = Some c.1

abbrev front_of : List ℕ → Option ℕ → Option ℕ → Option (ℕ × ℕ) → Front
front_of backend size mtime chunk = record { backend = backend; size = size; mtime = mtime; chunk_size = chunk_size_of chunk; chunk = chunk_number_of chunk }

front_of-is : (backend : List ℕ) (size mtime : Option ℕ) (chunk : Option (ℕ × ℕ)) → is_backend backend ≡ true → IfSome size (λ n. n < 2 ^ 64) → IfSome mtime (λ n. n < 2 ^ 64) → IfSome chunk (λ c. (c.0 < 2 ^ 64) × (c.1 < 2 ^ 64))
    → IsFront (front_of backend size mtime chunk)
front_of-is backend size mtime None is small_size small_mtime small = record { backend = is; size = small_size; mtime = small_mtime; chunk_size = tt; chunk = tt }
front_of-is backend size mtime (Some c) is small_size small_mtime small = record { backend = is; size = small_size; mtime = small_mtime; chunk_size = small.0; chunk = (small.1, refl) }

chunk_fields : (chunk : Option (ℕ × ℕ)) → field_text chunk_size_letter (chunk_size_of chunk) ++ field_text chunk_letter (chunk_number_of chunk) ≡ chunk_text chunk
chunk_fields None = refl
chunk_fields (Some c) = refl

-- the text of a front and what follows it
front_of-text : (backend : List ℕ) (size mtime : Option ℕ) (chunk : Option (ℕ × ℕ)) (t : List ℕ)
    → backend ++ (field_text size_letter size ++ (field_text mtime_letter mtime ++ (chunk_text chunk ++ t))) ≡ front_text (front_of backend size mtime chunk) ++ t
front_of-text backend size mtime chunk t =
    let a = field_text size_letter size in
    let b = field_text mtime_letter mtime in
    let c = field_text chunk_size_letter (chunk_size_of chunk) in
    let d = field_text chunk_letter (chunk_number_of chunk) in
    let split : chunk_text chunk ++ t ≡ c ++ (d ++ t) = ap (λ (w : List ℕ). w ++ t) (sym (chunk_fields chunk)) ∙ append_assoc c d t in
    ap (λ (w : List ℕ). backend ++ (a ++ (b ++ w))) split ∙ sym (regroup backend a b c d t)

name_may : (backend : List ℕ) (size mtime : Option ℕ) (chunk : Option (ℕ × ℕ)) → may_follow (front_of backend size mtime chunk) dash ≡ true
name_may backend size mtime None = refl
name_may backend size mtime (Some c) = refl

and_none : (a : Bool) (o : Option ℕ) → (o ≡ None → a ≡ false) → (a && is_none o) ≡ false
and_none a None other = rw (other refl) refl
and_none true (Some n) other = refl
and_none false (Some n) other = refl

and_none_twice : (a : Bool) (o p : Option ℕ) → (o ≡ None → p ≡ None → a ≡ false) → (a && is_none o && is_none p) ≡ false
and_none_twice a o (Some n) other = always (a && is_none o) where
  always : (b : Bool) → (b && false) ≡ false
  always true = refl
  always false = refl
and_none_twice a o None other = always (a && is_none o) (and_none a o (λ p. other p refl)) where
  always : (b : Bool) → b ≡ false → (b && true) ≡ false
  always b is = rw is refl

-- a letter that was tried at each part that wasn't there
name_may_not : (backend : List ℕ) (size mtime : Option ℕ) (chunk : Option (ℕ × ℕ)) (letter : ℕ) → eqb letter dash ≡ false
    → (chunk ≡ None → eqb letter chunk_size_letter ≡ false) → (chunk ≡ None → mtime ≡ None → eqb letter mtime_letter ≡ false) → (chunk ≡ None → mtime ≡ None → size ≡ None → eqb letter size_letter ≡ false)
    → may_follow (front_of backend size mtime chunk) letter ≡ false
name_may_not backend size mtime (Some c) letter name chunks mtimes sizes = name
name_may_not backend size mtime None letter name chunks mtimes sizes =
    or_from _ _ (or_from _ _ (or_from _ _ name (chunks refl)) (and_none (eqb letter mtime_letter) mtime (mtimes refl))) (and_none_twice (eqb letter size_letter) mtime size (sizes refl))

-- ---- the name

checked_fault : (text name : List ℕ) (place : ℕ) → HasName text name place → place ≡ length text - length name → (e : KeyFault) → checked_name (length text) name ≡ Err e → IsTried text → Breaks e text
unfolding checked_name
checked_fault text name place has at e h tried =
    elim (if_is (eqb (length name) 0) (Err EmptyName) _ _ h) [
      | inl empty ↦
          let none : name ≡ [] = nil_from_length name (eqb-true (length name) 0 empty.0) in
          subst (λ d. Breaks d text) (err_is (List ℕ) EmptyName e empty.1) (tried, place, subst (λ (w : List ℕ). HasName text w place) none has)
      | inr some ↦ elim (if_is (ltb (name_front name) (length name)) (Err (BadName (length text - length name + name_front name))) (Ok name) _ some.1) [
        | inl bad ↦
            let from : length text - length name + name_front name ≡ place + name_front name = omega (arith, at) in
            subst (λ d. Breaks d text) (err_is (List ℕ) (BadName (length text - length name + name_front name)) e bad.1)
            (tried, record { name = name; from = place; has = has; good = name_front name; longest = front_longest name (ltb-true (name_front name) (length name) bad.0); place = from })
        | inr good ↦ absurd (ok_err e name good.1)
      ]
    ]

name_fault : (text : List ℕ) (backend : List ℕ) (size mtime : Option ℕ) (chunk : Option (ℕ × ℕ)) → IsFront (front_of backend size mtime chunk) → (bytes : List ℕ) → text ≡ front_text (front_of backend size mtime chunk) ++ bytes → IsLive bytes
    → (chunk ≡ None → comes chunk_size_letter bytes ≡ false) → (chunk ≡ None → mtime ≡ None → comes mtime_letter bytes ≡ false) → (chunk ≡ None → mtime ≡ None → size ≡ None → comes size_letter bytes ≡ false)
    → (e : KeyFault) → name_at (length text) bytes ≡ Err e → IsTried text → Breaks e text
unfolding name_at
name_fault text backend size mtime chunk is bytes spelled alive chunks mtimes sizes e h tried =
    let f = front_of backend size mtime chunk in
    elim (if_is (comes dash bytes) _ (Err (BadField (length text - length bytes + 1))) _ h) [
      | inl took ↦
          let name = drop 2 bytes in
          let all : text ≡ front_text f ++ (dash ∷ dash ∷ name) = spelled ∙ ap (λ (w : List ℕ). front_text f ++ w) (comes_is dash bytes took.0) in
          let place : length (front_text f) + 2 ≡ length text - length name = omega (arith, ap length all, length-append (front_text f) (dash ∷ dash ∷ name)) in
          checked_fault text name (length (front_text f) + 2) (record { front = f; is = is; good = name_may backend size mtime chunk; spelled = all; at = refl }) place e took.1 tried
      | inr left ↦
          let letter = alive.letter in
          let by : (l : ℕ) → comes l bytes ≡ false → eqb letter l ≡ false = λ l other. sym (comes_live l bytes alive) ∙ other in
          letter_fault text f is bytes spelled alive
          (name_may_not backend size mtime chunk letter (by dash left.0) (λ c. by chunk_size_letter (chunks c)) (λ c m. by mtime_letter (mtimes c m)) (λ c m s. by size_letter (sizes c m s)))
          e (err_is (List ℕ) (BadField (length text - length bytes + 1)) e left.1) tried
    ]

-- ---- the chunk

chunk_fault : (text : List ℕ) (backend : List ℕ) (size mtime : Option ℕ) → IsFront (front_of backend size mtime None) → (bytes : List ℕ) → text ≡ front_text (front_of backend size mtime None) ++ bytes → IsLive bytes
    → (e : KeyFault) → chunk_at (length text) bytes ≡ Err e → IsTried text → Breaks e text
unfolding chunk_at
chunk_fault text backend size mtime is bytes spelled alive e h tried =
    let total = length text in
    let f = front_of backend size mtime None in
    elim (if_is (comes chunk_size_letter bytes) _ _ _ h) [
      | inl took ↦ elim (bind_err (number_at total (drop 2 bytes)) (λ n. must_at chunk_letter total n.1 >>= λ chunk. Ok (Some (n.0, chunk.0), chunk.1)) e took.1) [
        | inl failed ↦ number_fault text f is chunk_size_letter bytes spelled took.0 (λ same. absurd (omega (arith, same))) refl e failed tried
        | inr went ↦ elim (bind_err (must_at chunk_letter total went.0.1) (λ chunk. Ok (Some (went.0.0, chunk.0), chunk.1)) e went.2) [
          | inl failed ↦
              let t = number_takes total (drop 2 bytes) went.0 went.1 in
              let g : Front = record { backend = backend; size = size; mtime = mtime; chunk_size = Some went.0.0; chunk = None } in
              let is_g : IsFront g = record { backend = is.backend; size = is.size; mtime = is.mtime; chunk_size = t.1; chunk = tt } in
              let rest : bytes ≡ field_text chunk_size_letter (Some went.0.0) ++ went.0.1 = comes_is chunk_size_letter bytes took.0 ∙ ap (λ (w : List ℕ). dash ∷ chunk_size_letter ∷ w) t.0 in
              let all : text ≡ front_text g ++ went.0.1 =
              spelled ∙ ap (λ (w : List ℕ). front_text f ++ w) rest
              ∙ regroup backend (field_text size_letter size) (field_text mtime_letter mtime) [] [] (field_text chunk_size_letter (Some went.0.0) ++ went.0.1)
              ∙ sym (regroup backend (field_text size_letter size) (field_text mtime_letter mtime) (field_text chunk_size_letter (Some went.0.0)) [] went.0.1) in
              let more = number_live total (drop 2 bytes) went.0 went.1 (sym (has_dashes-letter chunk_size_letter (drop 2 bytes) refl) ∙ ap has_dashes (sym (comes_is chunk_size_letter bytes took.0)) ∙ alive.has) in
              must_fault text g is_g went.0.1 all more (λ letter. refl) e failed tried
          | inr found ↦ absurd (ok_err e (Some (went.0.0, found.0.0), found.0.1) found.2)
        ]
      ]
      | inr left ↦ absurd (ok_err e (None, bytes) left.1)
    ]

-- ---- all parts

backend_fault : (text : List ℕ) (e : KeyFault) → backend_at text ≡ Err e → IsTried text → Breaks e text
unfolding backend_at
backend_fault text e failed tried =
    let g = guard_err (is_backend (word_of text)) BadBackend e (word_of text, after_word text) failed in
    subst (λ d. Breaks d text) g.1 (tried, λ is. true≢false (sym is ∙ g.0))

abbrev IsSmall : Option ℕ → Type 0
IsSmall o = IfSome o (λ n. n < 2 ^ 64)

after_mtime : (text backend : List ℕ) (size mtime : Option ℕ) (bytes : List ℕ) → is_backend backend ≡ true → IsSmall size → IsSmall mtime
    → text ≡ backend ++ (field_text size_letter size ++ (field_text mtime_letter mtime ++ bytes)) → IsLive bytes
    → (mtime ≡ None → comes mtime_letter bytes ≡ false) → (mtime ≡ None → size ≡ None → comes size_letter bytes ≡ false)
    → (e : KeyFault) → from_mtime (length text) backend size (mtime, bytes) ≡ Err e → IsTried text → Breaks e text
after_mtime text backend size mtime bytes is small_size small_mtime spelled alive mtimes sizes e h tried =
    let total = length text in
    elim (bind_err (chunk_at total bytes) (from_chunk total backend size mtime) e h) [
      | inl failed ↦ chunk_fault text backend size mtime (front_of-is backend size mtime None is small_size small_mtime tt) bytes (spelled ∙ front_of-text backend size mtime None bytes) alive e failed tried
      | inr went ↦
          let chunk = went.0.0 in
          let rest = went.0.1 in
          let t = chunk_takes total bytes went.0 went.1 in
          let all : text ≡ front_text (front_of backend size mtime chunk) ++ rest = spelled ∙ ap (λ (w : List ℕ). backend ++ (field_text size_letter size ++ (field_text mtime_letter mtime ++ w))) t.0 ∙ front_of-text backend size mtime chunk rest in
          elim (bind_err (name_at total rest) (named backend size mtime chunk) e went.2) [
            | inl failed ↦
                name_fault text backend size mtime chunk (front_of-is backend size mtime chunk is small_size small_mtime t.1) rest all (chunk_live total bytes went.0 went.1 alive)
                (λ c. (chunk_none total bytes went.0 went.1 c).0)
                (λ c m. subst (λ (w : List ℕ). comes mtime_letter w ≡ false) (chunk_none total bytes went.0 went.1 c).1 (mtimes m))
                (λ c m s. subst (λ (w : List ℕ). comes size_letter w ≡ false) (chunk_none total bytes went.0 went.1 c).1 (sizes m s))
                e failed tried
            | inr found ↦ absurd (ok_err e (record { backend = backend; size = size; mtime = mtime; chunk = chunk; name = found.0 }) found.2)
          ]
    ]

after_size : (text backend : List ℕ) (size : Option ℕ) (bytes : List ℕ) → is_backend backend ≡ true → IsSmall size
    → text ≡ backend ++ (field_text size_letter size ++ bytes) → IsLive bytes → (size ≡ None → comes size_letter bytes ≡ false)
    → (e : KeyFault) → from_size (length text) backend (size, bytes) ≡ Err e → IsTried text → Breaks e text
after_size text backend size bytes is small_size spelled alive sizes e h tried =
    let total = length text in
    elim (bind_err (field_at mtime_letter total bytes) (from_mtime total backend size) e h) [
      | inl failed ↦
          let g = field_err mtime_letter total bytes e failed in
          number_fault text (front_of backend size None None) (front_of-is backend size None None is small_size tt tt) mtime_letter bytes (spelled ∙ front_of-text backend size None None bytes) g.0 (λ same. absurd (omega (arith, same))) refl e g.1 tried
      | inr went ↦
          let t = field_takes mtime_letter total bytes went.0 went.1 in
          after_mtime text backend size went.0.0 went.0.1 is small_size t.1
          (spelled ∙ ap (λ (w : List ℕ). backend ++ (field_text size_letter size ++ w)) t.0)
          (field_live mtime_letter total bytes went.0 went.1 refl alive)
          (λ m. field_none mtime_letter total bytes went.0 went.1 m)
          (λ m s. subst (λ (w : List ℕ). comes size_letter w ≡ false) (field_same mtime_letter total bytes went.0 went.1 m) (sizes s))
          e went.2 tried
    ]

after_backend : (text backend bytes : List ℕ) → is_backend backend ≡ true → text ≡ backend ++ bytes → IsLive bytes
    → (e : KeyFault) → from_backend (length text) (backend, bytes) ≡ Err e → IsTried text → Breaks e text
after_backend text backend bytes is spelled alive e h tried =
    let total = length text in
    elim (bind_err (field_at size_letter total bytes) (from_size total backend) e h) [
      | inl failed ↦
          let g = field_err size_letter total bytes e failed in
          number_fault text (front_of backend None None None) (front_of-is backend None None None is tt tt tt) size_letter bytes (spelled ∙ front_of-text backend None None None bytes) g.0 (λ same. absurd (omega (arith, same))) refl e g.1 tried
      | inr went ↦
          let t = field_takes size_letter total bytes went.0 went.1 in
          after_size text backend went.0.0 went.0.1 is t.1
          (spelled ∙ ap (λ (w : List ℕ). backend ++ w) t.0)
          (field_live size_letter total bytes went.0 went.1 refl alive)
          (λ s. field_none size_letter total bytes went.0 went.1 s)
          e went.2 tried
    ]

parts_err : (text : List ℕ) (e : KeyFault) → has_dashes text ≡ true → parts_at text ≡ Err e → IsTried text → Breaks e text
unfolding parts_at
parts_err text e has h tried =
    elim (bind_err (backend_at text) (from_backend (length text)) e h) [
      | inl failed ↦ backend_fault text e failed tried
      | inr a ↦ let t = backend_takes text a.0 a.1 in after_backend text a.0.0 a.0.1 t.1 t.0 (backend_live text a.0 a.1 has) e a.2 tried
    ]

-- the fault that reading meets is the first rule that the text breaks
pub key_err : (text : List ℕ) (e : KeyFault) → key_at text ≡ Err e → Breaks e text
unfolding key_at
key_err text e h =
    elim (if_is (ltb 1024 (length text)) (Err TooLong) _ _ h) [
      | inl long ↦ subst (λ d. Breaks d text) (err_is KeyParts TooLong e long.1) (ltb-true 1024 (length text) long.0)
      | inr short ↦
          let within : length text ≤ 1024 = ltb-false 1024 (length text) short.0 in
          elim (if_is (has_dashes text) _ (Err NoDashes) _ short.1) [
            | inl has ↦ parts_err text e has.0 has.1 (within, has_is text has.0)
            | inr left ↦ subst (λ d. Breaks d text) (err_is KeyParts NoDashes e left.1) (within, λ has. true≢false (sym (is_has text has) ∙ left.0))
          ]
    ]
