-- A key's text has one line.
use Rattle.std.proofs.Common.{◌≡◌, ℕ, true, false, List, [], ◌∷◌, Option, Some, None, refl, sym, ap, subst, arith}
use Rattle.std.specs.Prelude.{◌==◌, ◌↔◌, nat_le, ◌&&◌, Result, Ok, Err}
use Rattle.std.specs.List.{list_all}
use Rattle.std.specs.Fmt.{decimal}
use Rattle.std.proofs.lemmas.Bool.{and_parts}
use Rattle.std.proofs.lemmas.Bool.Decides.{nat_tests}
use Rattle.annex_base.specs.Lines.{newline, is_not_newline, IsOneLine, dash}
use Rattle.annex_base.proofs.Lists.{list_all_weaker}
use Rattle.annex_base.proofs.Lines.{one_line-nil, one_line-append, one_line-cons, one_line-by_test, one_line-decimal}
use Rattle.annex_key.specs.declared.fault.KeyFault.{KeyFault}
use Rattle.annex_key.specs.KeyText.{KeyParts, IsKeyText, field_text, chunk_text, is_backend, is_backend_byte, is_upper, size_letter, mtime_letter, chunk_size_letter, chunk_letter}
use Rattle.annex_key.specs.Reading.{key_at}
use Rattle.annex_key.specs.View.{first_fault, fault_in}
use Rattle.annex_key.proofs.KeyLemmas.{text_takes, text_again}

field_line : (letter : ℕ) (o : Option ℕ) → (letter == newline) ≡ false → IsOneLine (field_text letter o)
field_line letter None other = one_line-nil
field_line letter (Some n) other = one_line-cons dash (letter ∷ decimal n) refl (one_line-cons letter (decimal n) other (one_line-decimal n))

chunk_line : (o : Option (ℕ × ℕ)) → IsOneLine (chunk_text o)
chunk_line None = one_line-nil
chunk_line (Some c) = one_line-append (field_text chunk_size_letter (Some c.0)) (field_text chunk_letter (Some c.1)) (field_line chunk_size_letter (Some c.0) refl) (field_line chunk_letter (Some c.1) refl)

byte_line : (b : ℕ) → is_backend_byte b ≡ true → is_not_newline b ≡ true
byte_line b is = grind (arith, nat_tests)

upper_line : (b : ℕ) → is_upper b ≡ true → (b == newline) ≡ false
upper_line b is = grind (arith, nat_tests)

backend_line : (bs : List ℕ) → is_backend bs ≡ true → IsOneLine bs
backend_line [] is = one_line-nil
backend_line (b ∷ bs) is =
    let front = and_parts (is_upper b && list_all is_backend_byte bs) (nat_le _ 31) is in
    let both = and_parts (is_upper b) (list_all is_backend_byte bs) front.0 in
    one_line-cons b bs (upper_line b both.0) (one_line-by_test bs (list_all_weaker is_backend_byte is_not_newline byte_line bs both.1))

pub key_line : (text : List ℕ) → IsKeyText text → IsOneLine text
key_line text is =
    let k = is.parts in
    subst IsOneLine (sym is.spelled)
    (one_line-append k.backend _ (backend_line k.backend is.key.backend)
    (one_line-append (field_text size_letter k.size) _ (field_line size_letter k.size refl)
    (one_line-append (field_text mtime_letter k.mtime) _ (field_line mtime_letter k.mtime refl)
    (one_line-append (chunk_text k.chunk) _ (chunk_line k.chunk)
    (one_line-cons dash (dash ∷ k.name) refl (one_line-cons dash k.name refl is.key.name.one_line))))))

-- a text has no fault exactly where it is a key's
pub sound_text : (text : List ℕ) → (first_fault text ≡ None) ↔ IsKeyText text
sound_text text = (λ none. go (key_at text) refl none, λ is. ap fault_in (text_again text is))
  where
    go : (r : Result KeyParts KeyFault) → key_at text ≡ r → fault_in r ≡ None → IsKeyText text
    go (Ok k) is none = text_takes text k is
    go (Err e) is none = absurd cc
