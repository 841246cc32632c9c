-- A key without its chunk: what stands around the chunk's fields is its text.
use Rattle.std.proofs.Common.{◌≡◌, ℕ, ◌+◌, ◌-◌, ◌≤◌, List, ◌++◌, length, take, drop, Option, Result, Ok, Err, refl, sym, ap, subst, ◌∙◌, append_assoc, length-append, arith}
use Rattle.std.proofs.lemmas.List.{take_at}
use Rattle.annex_key.specs.declared.fault.KeyFault.{KeyFault}
use Rattle.annex_key.specs.KeyText.{KeyParts, IsKey, IsKeyText, key_text, without_chunk, size_letter, mtime_letter, field_text, chunk_text}
use Rattle.annex_base.specs.ResultSteps.{◌>>=◌}
use Rattle.annex_key.specs.Reading.{field_at, chunk_at, key_at, around_chunk}
use Rattle.annex_key.specs.View.{size_in, size_or_fault, IsKeyed, unchunked_text, chunkless, name_part}
use Rattle.annex_key.proofs.Steps.{ok_is}
use Rattle.annex_key.proofs.ReadingLemmas.{backend_again, field_again, chunk_again}
use Rattle.annex_key.proofs.KeyLemmas.{tail1, tail2, tail3, tail4, chunk_starts, mtime_starts, size_starts, text_again, key_again}
use Rattle.annex_key.proofs.AnswerLemmas.{keyed_is, name_part-key}

-- what stands before the chunk's fields
abbrev front : KeyParts → List ℕ
front k = k.backend ++ (field_text size_letter k.size ++ field_text mtime_letter k.mtime)

regroup : (a b c t : List ℕ) → (a ++ (b ++ c)) ++ t ≡ a ++ (b ++ (c ++ t))
regroup a b c t = simp append_assoc

front-text : (k : KeyParts) (t : List ℕ) → front k ++ t ≡ k.backend ++ (field_text size_letter k.size ++ (field_text mtime_letter k.mtime ++ t))
front-text k t = regroup k.backend (field_text size_letter k.size) (field_text mtime_letter k.mtime) t

abbrev found : List ℕ → List ℕ → Option (ℕ × ℕ) × List ℕ → Result (List ℕ × List ℕ) KeyFault
found text rest chunk = Ok (take (length text - length rest) text, chunk.1)

abbrev from_mtime : List ℕ → Option ℕ × List ℕ → Result (List ℕ × List ℕ) KeyFault
from_mtime text mtime = chunk_at (length text) mtime.1 >>= found text mtime.1

abbrev from_size : List ℕ → Option ℕ × List ℕ → Result (List ℕ × List ℕ) KeyFault
from_size text size = field_at mtime_letter (length text) size.1 >>= from_mtime text

abbrev from_backend : List ℕ → List ℕ × List ℕ → Result (List ℕ × List ℕ) KeyFault
from_backend text backend = field_at size_letter (length text) backend.1 >>= from_size text

around_key : (k : KeyParts) → IsKey k → around_chunk (key_text k) ≡ Ok (front k, tail4 k)
unfolding around_chunk
around_key k is =
    let text = key_text k in
    let total = length text in
    let m = mtime_starts k.mtime k.chunk k.name in
    let c = chunk_starts k.chunk k.name in
    let cut : take (length text - length (tail3 k)) text ≡ front k =
    ap (λ (w : List ℕ). take (length w - length (tail3 k)) w) (sym (front-text k (tail3 k)))
    ∙ take_at (front k) (tail3 k) (length (front k ++ tail3 k) - length (tail3 k)) (omega (arith, length-append (front k) (tail3 k))) in
    ap (λ (r : Result (List ℕ × List ℕ) KeyFault). r >>= from_backend text) (backend_again k.backend (tail1 k) is.backend (size_starts k.size k.mtime k.chunk k.name))
    ∙ ap (λ (r : Result (Option ℕ × List ℕ) KeyFault). r >>= from_size text) (field_again size_letter total k.size (tail2 k) is.size m.0 (λ _. m.1))
    ∙ ap (λ (r : Result (Option ℕ × List ℕ) KeyFault). r >>= from_mtime text) (field_again mtime_letter total k.mtime (tail3 k) is.mtime c.0 (λ _. c.1))
    ∙ ap (λ (r : Result (Option (ℕ × ℕ) × List ℕ) KeyFault). r >>= found text (tail3 k)) (chunk_again total k.chunk (tail4 k) is.chunk refl (λ _. refl))
    ∙ ap (λ (w : List ℕ). Ok (w, tail4 k)) cut

-- a key stays one without its chunk
without_chunk-is : (k : KeyParts) → IsKey k → IsKey (without_chunk k)
without_chunk-is k is =
    let whole : length (key_text k) ≡ length (front k) + (length (chunk_text k.chunk) + length (tail4 k)) =
    ap length (sym (front-text k (tail3 k))) ∙ length-append (front k) (tail3 k) ∙ ap (λ n. length (front k) + n) (length-append (chunk_text k.chunk) (tail4 k)) in
    let less : length (key_text (without_chunk k)) ≡ length (front k) + length (tail4 k) =
    ap length (sym (front-text k (tail4 k))) ∙ length-append (front k) (tail4 k) in
    record { backend = is.backend; size = is.size; mtime = is.mtime; chunk = tt; some_name = is.some_name; name = is.name; short = omega (arith, whole, less, is.short) }

pub unchunked_text-key : (k : KeyParts) (text : List ℕ) → IsKey k → text ≡ key_text k → unchunked_text text ≡ key_text (without_chunk k)
unchunked_text-key k text is spelled = ap (chunkless text) (ap key_at spelled ∙ key_again k is)

-- the text around the chunk, of a key's text
around_is : (text : List ℕ) (is : IsKeyText text) → around_chunk text ≡ Ok (front is.parts, tail4 is.parts)
around_is text is = ap around_chunk is.spelled ∙ around_key is.parts is.key

pub around_never : (text : List ℕ) (e : KeyFault) → IsKeyText text → around_chunk text ≡ Err e → ⊥
around_never text e is h = never (front is.parts, tail4 is.parts) e (sym (around_is text is) ∙ h) where
  never : (x : List ℕ × List ℕ) (e : KeyFault) → Ok x ≡ Err e → ⊥
  never x e h = cc

pub around_joins : (text : List ℕ) (x : List ℕ × List ℕ) → IsKeyText text → around_chunk text ≡ Ok x → x.0 ++ x.1 ≡ unchunked_text text
around_joins text x is h =
    let k = is.parts in
    let same : (front k, tail4 k) ≡ x = ok_is (front k, tail4 k) x (sym (around_is text is) ∙ h) in
    ap (λ (y : List ℕ × List ℕ). y.0 ++ y.1) (sym same) ∙ front-text k (tail4 k) ∙ sym (unchunked_text-key k text is.key is.spelled)

pub unchunked_keyed : (text : List ℕ) (size : Option ℕ) → IsKeyed text size → IsKeyed (unchunked_text text) size
unchunked_keyed text size keyed =
    let is = keyed_is text size keyed in
    let k = is.parts in
    let read : key_at text ≡ Ok k = text_again text is in
    ap size_or_fault (unchunked_text-key k text is.key is.spelled)
    ∙ ap size_in (key_again (without_chunk k) (without_chunk-is k is.key))
    ∙ sym (ap size_in read) ∙ keyed

-- a slice of a key's text has the text's length at most
pub keyed_short : (text slice : List ℕ) (size : Option ℕ) → IsKeyed text size → slice ≡ text → length slice ≤ 1024
keyed_short text slice size keyed same =
    let is = keyed_is text size keyed in subst (λ (w : List ℕ). length w ≤ 1024) (sym (same ∙ is.spelled)) is.key.short

pub keyed_never : (text slice : List ℕ) (size : Option ℕ) (e : KeyFault) → IsKeyed text size → slice ≡ text → around_chunk slice ≡ Err e → ⊥
keyed_never text slice size e keyed same h = around_never text e (keyed_is text size keyed) (ap around_chunk (sym same) ∙ h)

-- what is joined of what stands around the chunk
pub keyed_joins : (text slice : List ℕ) (size : Option ℕ) (x : List ℕ × List ℕ) (out : List ℕ) → IsKeyed text size → slice ≡ text → around_chunk slice ≡ Ok x → out ≡ x.0 ++ x.1 → out ≡ unchunked_text text
keyed_joins text slice size x out keyed same h is = is ∙ around_joins text x (keyed_is text size keyed) (ap around_chunk (sym same) ∙ h)

-- what stands after the chunk is two dashes and the name
around_name : (text : List ℕ) (x : List ℕ × List ℕ) → IsKeyText text → around_chunk text ≡ Ok x → (2 ≤ length x.1) × (drop 2 x.1 ≡ name_part text)
around_name text x is h =
    let k = is.parts in
    let same : (front k, tail4 k) ≡ x = ok_is (front k, tail4 k) x (sym (around_is text is) ∙ h) in
    let name : drop 2 (tail4 k) ≡ name_part text = sym (name_part-key k text is.key is.spelled) in
    let long : 2 ≤ length (tail4 k) = omega arith in
    subst (λ (y : List ℕ × List ℕ). (2 ≤ length y.1) × (drop 2 y.1 ≡ name_part text)) same (long, name)

pub keyed_name : (text slice : List ℕ) (size : Option ℕ) (x : List ℕ × List ℕ) → IsKeyed text size → slice ≡ text → around_chunk slice ≡ Ok x → (2 ≤ length x.1) × (drop 2 x.1 ≡ name_part text)
keyed_name text slice size x keyed same h = around_name text x (keyed_is text size keyed) (ap around_chunk (sym same) ∙ h)
