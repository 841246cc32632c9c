-- Each reader: what it reads is spelled so, what is spelled so is read, and where it fails.
use Rattle.std.proofs.Common.{inl, inr, ◌≡◌, ℕ, ◌+◌, ◌-◌, ◌<◌, ◌^◌, true, false, eqb, List, ◌∷◌, ◌++◌, length, drop, Option, Some, None, Ok, Err, IfSome, refl, sym, ap, subst, ◌∙◌, append_assoc, arith}
use Rattle.std.specs.Fmt.{decimal}
use Rattle.annex_base.specs.Lines.{dash}
use Rattle.annex_base.specs.Decimal.{number_of}
use Rattle.annex_base.proofs.DecimalLemmas.{number_is, number_some}
use Rattle.annex_base.proofs.Conditions.{if_is}
use Rattle.annex_base.proofs.Results.{bind_ok, err_ok, guard_ok}
use Rattle.annex_key.specs.declared.fault.KeyFault.TheVariants.{BadBackend, BadField}
use Rattle.annex_key.specs.KeyText.{is_backend, chunk_size_letter, chunk_letter, field_text, chunk_text, IsName}
use Rattle.annex_base.specs.ResultSteps.{◌>>=◌}
use Rattle.annex_key.specs.Reading.{begins, comes, has_dashes, word_of, after_word, backend_at, number_at, field_at, must_at, chunk_at, name_at}
use Rattle.annex_key.proofs.Steps.{ok_is, option_ok, comes_is}
use Rattle.annex_key.proofs.WordLemmas.{word_and_rest, word_again, decimal_no_dash, backend_no_dash, IsLive, live_after_word}
use Rattle.annex_key.proofs.NameLemmas.{checked_is, checked_again}

-- ---- the backend

pub backend_takes : (bytes : List ℕ) (x : List ℕ × List ℕ) → backend_at bytes ≡ Ok x → (bytes ≡ x.0 ++ x.1) × (is_backend x.0 ≡ true)
unfolding backend_at
backend_takes bytes x e =
    let g = guard_ok (is_backend (word_of bytes)) BadBackend (word_of bytes, after_word bytes) x e in
    subst (λ (y : List ℕ × List ℕ). (bytes ≡ y.0 ++ y.1) × (is_backend y.0 ≡ true)) g.1 (word_and_rest bytes, g.0)

pub backend_live : (bytes : List ℕ) (x : List ℕ × List ℕ) → backend_at bytes ≡ Ok x → has_dashes bytes ≡ true → IsLive x.1
unfolding backend_at
backend_live bytes x e has =
    let g = guard_ok (is_backend (word_of bytes)) BadBackend (word_of bytes, after_word bytes) x e in
    subst (λ (y : List ℕ × List ℕ). IsLive y.1) g.1 (live_after_word bytes has)

pub backend_again : (backend rest : List ℕ) → is_backend backend ≡ true → begins dash rest ≡ true → backend_at (backend ++ rest) ≡ Ok (backend, rest)
unfolding backend_at
backend_again backend rest is follows =
    let w = word_again backend rest (backend_no_dash backend is) follows in
    let word : word_of (backend ++ rest) ≡ backend = w.0 in
    let after : after_word (backend ++ rest) ≡ rest = w.1 in
    rw (word, after, is) refl

-- ---- a number, of a text of a given length

pub number_takes : (total : ℕ) (bytes : List ℕ) (x : ℕ × List ℕ) → number_at total bytes ≡ Ok x → (bytes ≡ decimal x.0 ++ x.1) × (x.0 < 2 ^ 64)
unfolding number_at
number_takes total bytes x e =
    let o = option_ok (number_of (word_of bytes)) (λ n. (n, after_word bytes)) (BadField (total - length bytes)) x e in
    let is = number_some (word_of bytes) o.0 o.1 in
    subst (λ (y : ℕ × List ℕ). (bytes ≡ decimal y.0 ++ y.1) × (y.0 < 2 ^ 64)) o.2
    (word_and_rest bytes ∙ ap (λ (w : List ℕ). w ++ after_word bytes) is.0, is.1)

pub number_live : (total : ℕ) (bytes : List ℕ) (x : ℕ × List ℕ) → number_at total bytes ≡ Ok x → has_dashes bytes ≡ true → IsLive x.1
unfolding number_at
number_live total bytes x e has =
    let o = option_ok (number_of (word_of bytes)) (λ n. (n, after_word bytes)) (BadField (total - length bytes)) x e in
    subst (λ (y : ℕ × List ℕ). IsLive y.1) o.2 (live_after_word bytes has)

pub number_again : (total n : ℕ) (rest : List ℕ) → n < 2 ^ 64 → begins dash rest ≡ true → number_at total (decimal n ++ rest) ≡ Ok (n, rest)
unfolding number_at
number_again total n rest small follows =
    let w = word_again (decimal n) rest (decimal_no_dash n small) follows in
    let word : word_of (decimal n ++ rest) ≡ decimal n = w.0 in
    let after : after_word (decimal n ++ rest) ≡ rest = w.1 in
    rw (word, after, number_is n small) refl

-- ---- a field that may stand here

abbrev IsSmall : Option ℕ → Type 0
IsSmall o = IfSome o (λ n. n < 2 ^ 64)

pub field_takes : (letter total : ℕ) (bytes : List ℕ) (x : Option ℕ × List ℕ) → field_at letter total bytes ≡ Ok x → (bytes ≡ field_text letter x.0 ++ x.1) × IsSmall x.0
unfolding field_at
field_takes letter total bytes x e =
    elim (if_is (comes letter bytes) _ _ _ e) [
      | inl took ↦
          let b = bind_ok (number_at total (drop 2 bytes)) (λ n. Ok (Some n.0, n.1)) x took.1 in
          let t = number_takes total (drop 2 bytes) b.0 b.1 in
          subst (λ (y : Option ℕ × List ℕ). (bytes ≡ field_text letter y.0 ++ y.1) × IsSmall y.0) (ok_is (Some b.0.0, b.0.1) x b.2)
          (comes_is letter bytes took.0 ∙ ap (λ (w : List ℕ). dash ∷ letter ∷ w) t.0, t.1)
      | inr left ↦ subst (λ (y : Option ℕ × List ℕ). (bytes ≡ field_text letter y.0 ++ y.1) × IsSmall y.0) (ok_is (None, bytes) x left.1) (refl, tt)
    ]

pub field_again : (letter total : ℕ) (o : Option ℕ) (rest : List ℕ) → IsSmall o → begins dash rest ≡ true → (o ≡ None → comes letter rest ≡ false) → field_at letter total (field_text letter o ++ rest) ≡ Ok (o, rest)
unfolding field_at
field_again letter total None rest small follows other = rw (other refl) refl
field_again letter total (Some n) rest small follows other =
    let is : eqb letter letter ≡ true = search_eqb letter in
    let number : number_at total (decimal n ++ rest) ≡ Ok (n, rest) = number_again total n rest small follows in
    rw (is, number) refl where
      search_eqb : (a : ℕ) → eqb a a ≡ true
      search_eqb a = grind arith

-- ---- a chunk size and a chunk

pub must_takes : (letter total : ℕ) (bytes : List ℕ) (x : ℕ × List ℕ) → must_at letter total bytes ≡ Ok x → (bytes ≡ field_text letter (Some x.0) ++ x.1) × (x.0 < 2 ^ 64)
unfolding must_at
must_takes letter total bytes x e =
    elim (if_is (comes letter bytes) _ (Err (BadField (total - length bytes + 1))) _ e) [
      | inl took ↦
          let t = number_takes total (drop 2 bytes) x took.1 in
          (comes_is letter bytes took.0 ∙ ap (λ (w : List ℕ). dash ∷ letter ∷ w) t.0, t.1)
      | inr left ↦ absurd (err_ok (BadField (total - length bytes + 1)) x left.1)
    ]

pub must_again : (letter total n : ℕ) (rest : List ℕ) → n < 2 ^ 64 → begins dash rest ≡ true → must_at letter total (field_text letter (Some n) ++ rest) ≡ Ok (n, rest)
unfolding must_at
must_again letter total n rest small follows =
    let is : eqb letter letter ≡ true = same letter in
    let number : number_at total (decimal n ++ rest) ≡ Ok (n, rest) = number_again total n rest small follows in
    rw (is, number) refl where
      same : (a : ℕ) → eqb a a ≡ true
      same a = grind arith

abbrev AreSmall : Option (ℕ × ℕ) → Type 0
AreSmall o = IfSome o (λ c. (c.0 < 2 ^ 64) × (c.1 < 2 ^ 64))

pub chunk_takes : (total : ℕ) (bytes : List ℕ) (x : Option (ℕ × ℕ) × List ℕ) → chunk_at total bytes ≡ Ok x → (bytes ≡ chunk_text x.0 ++ x.1) × AreSmall x.0
unfolding chunk_at
chunk_takes total bytes x e =
    let P : Option (ℕ × ℕ) × List ℕ → Type 0 = λ y. (bytes ≡ chunk_text y.0 ++ y.1) × AreSmall y.0 in
    elim (if_is (comes chunk_size_letter bytes) _ _ _ e) [
      | inl took ↦
          let a = bind_ok (number_at total (drop 2 bytes)) (λ size. must_at chunk_letter total size.1 >>= λ chunk. Ok (Some (size.0, chunk.0), chunk.1)) x took.1 in
          let b = bind_ok (must_at chunk_letter total a.0.1) (λ chunk. Ok (Some (a.0.0, chunk.0), chunk.1)) x a.2 in
          let t = number_takes total (drop 2 bytes) a.0 a.1 in
          let u = must_takes chunk_letter total a.0.1 b.0 b.1 in
          subst P (ok_is (Some (a.0.0, b.0.0), b.0.1) x b.2)
          (comes_is chunk_size_letter bytes took.0 ∙ ap (λ (w : List ℕ). dash ∷ chunk_size_letter ∷ w) (t.0 ∙ ap (λ (w : List ℕ). decimal a.0.0 ++ w) u.0 ∙ sym (append_assoc (decimal a.0.0) (field_text chunk_letter (Some b.0.0)) b.0.1)), (t.1, u.1))
      | inr left ↦ subst P (ok_is (None, bytes) x left.1) (refl, tt)
    ]

pub chunk_again : (total : ℕ) (o : Option (ℕ × ℕ)) (rest : List ℕ) → AreSmall o → begins dash rest ≡ true → (o ≡ None → comes chunk_size_letter rest ≡ false) → chunk_at total (chunk_text o ++ rest) ≡ Ok (o, rest)
unfolding chunk_at
chunk_again total None rest small follows other = rw (other refl) refl
chunk_again total (Some c) rest small follows other =
    let tail = field_text chunk_letter (Some c.1) ++ rest in
    let regrouped : (decimal c.0 ++ field_text chunk_letter (Some c.1)) ++ rest ≡ decimal c.0 ++ tail = append_assoc (decimal c.0) (field_text chunk_letter (Some c.1)) rest in
    let size : number_at total (decimal c.0 ++ tail) ≡ Ok (c.0, tail) = number_again total c.0 tail small.0 refl in
    let chunk : must_at chunk_letter total tail ≡ Ok (c.1, rest) = must_again chunk_letter total c.1 rest small.1 follows in
    rw (regrouped, size) (rw chunk refl)

-- ---- the name

pub name_takes : (total : ℕ) (bytes name : List ℕ) → name_at total bytes ≡ Ok name → (bytes ≡ dash ∷ dash ∷ name) × (0 < length name) × IsName name
unfolding name_at
name_takes total bytes name e =
    elim (if_is (comes dash bytes) _ (Err (BadField (total - length bytes + 1))) _ e) [
      | inl took ↦
          let c = checked_is total (drop 2 bytes) name took.1 in
          (comes_is dash bytes took.0 ∙ ap (λ (w : List ℕ). dash ∷ dash ∷ w) c.0, c.1, c.2)
      | inr left ↦ absurd (err_ok (BadField (total - length bytes + 1)) name left.1)
    ]

pub name_again : (total : ℕ) (name : List ℕ) → 0 < length name → IsName name → name_at total (dash ∷ dash ∷ name) ≡ Ok name
unfolding name_at
name_again total name some is = checked_again total name some is
