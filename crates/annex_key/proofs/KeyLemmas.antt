-- What is read is spelled so, and what is spelled so is read.
use Rattle.std.proofs.Common.{inl, inr, ◌≡◌, ℕ, ◌≤◌, true, false, ltb, List, [], ◌∷◌, ◌++◌, length, Option, Some, None, Result, Ok, Err, refl, sym, ap, subst, ◌∙◌}
use Rattle.std.proofs.lemmas.Bool.{ltb-false, le-ltb, or_right}
use Rattle.annex_base.specs.Lines.{dash}
use Rattle.annex_base.proofs.Conditions.{if_is}
use Rattle.annex_base.proofs.Results.{bind_ok, err_ok}
use Rattle.annex_key.specs.declared.fault.KeyFault.{KeyFault}
use Rattle.annex_key.specs.declared.fault.KeyFault.TheVariants.{NoDashes, TooLong}
use Rattle.annex_key.specs.KeyText.{KeyParts, IsKey, IsKeyText, key_text, size_letter, mtime_letter, field_text, chunk_text}
use Rattle.annex_base.specs.ResultSteps.{◌>>=◌}
use Rattle.annex_key.specs.Reading.{begins, comes, has_dashes, backend_at, field_at, chunk_at, name_at, parts_at, key_at}
use Rattle.annex_key.proofs.Steps.{ok_is}
use Rattle.annex_key.proofs.ReadingLemmas.{backend_takes, field_takes, chunk_takes, name_takes, backend_again, field_again, chunk_again, name_again}

-- after the backend, after the size, after the time, after the chunk
abbrev pub tail4 : KeyParts → List ℕ
tail4 k = dash ∷ dash ∷ k.name

abbrev pub tail3 : KeyParts → List ℕ
tail3 k = chunk_text k.chunk ++ tail4 k

abbrev pub tail2 : KeyParts → List ℕ
tail2 k = field_text mtime_letter k.mtime ++ tail3 k

abbrev pub tail1 : KeyParts → List ℕ
tail1 k = field_text size_letter k.size ++ tail2 k

abbrev pub named : List ℕ → Option ℕ → Option ℕ → Option (ℕ × ℕ) → List ℕ → Result KeyParts KeyFault
named backend size mtime chunk name = Ok (record { backend = backend; size = size; mtime = mtime; chunk = chunk; name = name })

abbrev pub from_chunk : ℕ → List ℕ → Option ℕ → Option ℕ → Option (ℕ × ℕ) × List ℕ → Result KeyParts KeyFault
from_chunk total backend size mtime chunk = name_at total chunk.1 >>= named backend size mtime chunk.0

abbrev pub from_mtime : ℕ → List ℕ → Option ℕ → Option ℕ × List ℕ → Result KeyParts KeyFault
from_mtime total backend size mtime = chunk_at total mtime.1 >>= from_chunk total backend size mtime.0

abbrev pub from_size : ℕ → List ℕ → Option ℕ × List ℕ → Result KeyParts KeyFault
from_size total backend size = field_at mtime_letter total size.1 >>= from_mtime total backend size.0

abbrev pub from_backend : ℕ → List ℕ × List ℕ → Result KeyParts KeyFault
from_backend total backend = field_at size_letter total backend.1 >>= from_size total backend.0

parts_along : (bytes : List ℕ) (y k : KeyParts) → y ≡ k → IsKey y → bytes ≡ key_text y → IsKey k × (bytes ≡ key_text k)
parts_along bytes y k same is spelled = (subst IsKey same is, spelled ∙ ap key_text same)

pub parts_take : (bytes : List ℕ) (k : KeyParts) → length bytes ≤ 1024 → parts_at bytes ≡ Ok k → IsKey k × (bytes ≡ key_text k)
unfolding parts_at
parts_take bytes k short e =
    let total = length bytes in
    let a = bind_ok (backend_at bytes) (from_backend total) k e in
    let b = bind_ok (field_at size_letter total a.0.1) (from_size total a.0.0) k a.2 in
    let c = bind_ok (field_at mtime_letter total b.0.1) (from_mtime total a.0.0 b.0.0) k b.2 in
    let d = bind_ok (chunk_at total c.0.1) (from_chunk total a.0.0 b.0.0 c.0.0) k c.2 in
    let f = bind_ok (name_at total d.0.1) (named a.0.0 b.0.0 c.0.0 d.0.0) k d.2 in
    let t0 = backend_takes bytes a.0 a.1 in
    let t1 = field_takes size_letter total a.0.1 b.0 b.1 in
    let t2 = field_takes mtime_letter total b.0.1 c.0 c.1 in
    let t3 = chunk_takes total c.0.1 d.0 d.1 in
    let t4 = name_takes total d.0.1 f.0 f.1 in
    let made : KeyParts = record { backend = a.0.0; size = b.0.0; mtime = c.0.0; chunk = d.0.0; name = f.0 } in
    let spelled : bytes ≡ key_text made =
    t0.0 ∙ ap (λ (w : List ℕ). a.0.0 ++ w) (t1.0 ∙ ap (λ (w : List ℕ). field_text size_letter b.0.0 ++ w) (t2.0 ∙ ap (λ (w : List ℕ). field_text mtime_letter c.0.0 ++ w) (t3.0 ∙ ap (λ (w : List ℕ). chunk_text d.0.0 ++ w) t4.0))) in
    let is : IsKey made = record { backend = t0.1; size = t1.1; mtime = t2.1; chunk = t3.1; some_name = t4.1; name = t4.2; short = subst (λ (w : List ℕ). length w ≤ 1024) spelled short } in
    parts_along bytes made k (ok_is made k f.2) is spelled

pub key_takes : (bytes : List ℕ) (k : KeyParts) → key_at bytes ≡ Ok k → IsKey k × (bytes ≡ key_text k)
unfolding key_at
key_takes bytes k e =
    elim (if_is (ltb 1024 (length bytes)) (Err TooLong) _ _ e) [
      | inl long ↦ absurd (err_ok TooLong k long.1)
      | inr short ↦ elim (if_is (has_dashes bytes) _ (Err NoDashes) _ short.1) [
        | inl has ↦ parts_take bytes k (ltb-false 1024 (length bytes) short.0) has.1
        | inr left ↦ absurd (err_ok NoDashes k left.1)
      ]
    ]

pub chunk_starts : (o : Option (ℕ × ℕ)) (name : List ℕ) → (begins dash (chunk_text o ++ dash ∷ dash ∷ name) ≡ true) × (comes mtime_letter (chunk_text o ++ dash ∷ dash ∷ name) ≡ false) × (comes size_letter (chunk_text o ++ dash ∷ dash ∷ name) ≡ false)
chunk_starts None name = (refl, refl, refl)
chunk_starts (Some c) name = (refl, refl, refl)

pub mtime_starts : (m : Option ℕ) (o : Option (ℕ × ℕ)) (name : List ℕ) → (begins dash (field_text mtime_letter m ++ (chunk_text o ++ dash ∷ dash ∷ name)) ≡ true) × (comes size_letter (field_text mtime_letter m ++ (chunk_text o ++ dash ∷ dash ∷ name)) ≡ false)
mtime_starts None o name = let c = chunk_starts o name in (c.0, c.2)
mtime_starts (Some n) o name = (refl, refl)

pub size_starts : (s m : Option ℕ) (o : Option (ℕ × ℕ)) (name : List ℕ) → begins dash (field_text size_letter s ++ (field_text mtime_letter m ++ (chunk_text o ++ dash ∷ dash ∷ name))) ≡ true
size_starts None m o name = (mtime_starts m o name).0
size_starts (Some n) m o name = refl

pub parts_again : (k : KeyParts) → IsKey k → parts_at (key_text k) ≡ Ok k
unfolding parts_at
parts_again k is =
    let total = length (key_text k) in
    let a : backend_at (k.backend ++ tail1 k) ≡ Ok (k.backend, tail1 k) = backend_again k.backend (tail1 k) is.backend (size_starts k.size k.mtime k.chunk k.name) in
    let m = mtime_starts k.mtime k.chunk k.name in
    let c = chunk_starts k.chunk k.name in
    let b : field_at size_letter total (tail1 k) ≡ Ok (k.size, tail2 k) = field_again size_letter total k.size (tail2 k) is.size m.0 (λ _. m.1) in
    let d : field_at mtime_letter total (tail2 k) ≡ Ok (k.mtime, tail3 k) = field_again mtime_letter total k.mtime (tail3 k) is.mtime c.0 (λ _. c.1) in
    let f : chunk_at total (tail3 k) ≡ Ok (k.chunk, tail4 k) = chunk_again total k.chunk (tail4 k) is.chunk refl (λ _. refl) in
    let g : name_at total (tail4 k) ≡ Ok k.name = name_again total k.name is.some_name is.name in
    ap (λ (r : Result (List ℕ × List ℕ) KeyFault). r >>= from_backend total) a
    ∙ ap (λ (r : Result (Option ℕ × List ℕ) KeyFault). r >>= from_size total k.backend) b
    ∙ ap (λ (r : Result (Option ℕ × List ℕ) KeyFault). r >>= from_mtime total k.backend k.size) d
    ∙ ap (λ (r : Result (Option (ℕ × ℕ) × List ℕ) KeyFault). r >>= from_chunk total k.backend k.size k.mtime) f
    ∙ ap (λ (r : Result (List ℕ) KeyFault). r >>= named k.backend k.size k.mtime k.chunk) g

pub has_dashes-append : (front rest : List ℕ) → has_dashes rest ≡ true → has_dashes (front ++ rest) ≡ true
has_dashes-append [] rest has = has
has_dashes-append (b ∷ bs) rest has = or_right _ _ (has_dashes-append bs rest has)

pub key_again : (k : KeyParts) → IsKey k → key_at (key_text k) ≡ Ok k
unfolding key_at
key_again k is =
    let short : ltb 1024 (length (key_text k)) ≡ false = le-ltb 1024 (length (key_text k)) is.short in
    let has : has_dashes (key_text k) ≡ true =
    has_dashes-append k.backend (tail1 k) (has_dashes-append (field_text size_letter k.size) (tail2 k) (has_dashes-append (field_text mtime_letter k.mtime) (tail3 k) (has_dashes-append (chunk_text k.chunk) (tail4 k) refl))) in
    let read : parts_at (key_text k) ≡ Ok k = parts_again k is in
    rw (short, has, read) refl

-- a key's text is read, and what is read is a key's text
pub text_takes : (text : List ℕ) (k : KeyParts) → key_at text ≡ Ok k → IsKeyText text
text_takes text k e = let is = key_takes text k e in record { parts = k; key = is.0; spelled = is.1 }

pub text_again : (text : List ℕ) (is : IsKeyText text) → key_at text ≡ Ok is.parts
text_again text is = ap key_at is.spelled ∙ key_again is.parts is.key

-- a text is that of one key at most
pub one_key : (j k : KeyParts) → IsKey j → IsKey k → key_text j ≡ key_text k → j ≡ k
one_key j k is_j is_k same = ok_is j k (sym (key_again j is_j) ∙ ap key_at same ∙ key_again k is_k)
