-- What a call answers of a text, from the first fault that it tells.
use Rattle.std.proofs.Common.{inl, inr, ◌≡◌, ◌≢◌, ◌↔◌, ℕ, List, Option, Some, None, Result, Ok, Err, IfOk, IsErrAnd, MatchResult, refl, sym, ap, ◌∙◌}
use Rattle.annex_base.proofs.Results.{bind_err, bind_ok, ok_err}
use Rattle.annex_key.specs.declared.fault.KeyFault.{KeyFault}
use Rattle.annex_key.specs.declared.fault.KeyFault.TheVariants.{NoDashes, BadBackend, BadField, EmptyName, TooLong, BadEscape, BadName, NoMemory}
use Rattle.annex_key.specs.KeyText.{KeyParts, IsKey, IsKeyText, key_text}
use Rattle.annex_key.specs.Reading.{key_at}
use Rattle.annex_key.specs.Faults.{Breaks}
use Rattle.annex_key.specs.View.{size_in, size_or_fault, IsKeyed, fault_in, first_fault, of_text, told_fault, size_part, backend_part, name_part, name_in, or_none}
use Rattle.annex_key.proofs.WordLemmas.{word_again, backend_no_dash}
use Rattle.annex_key.proofs.KeyLemmas.{text_takes, text_again, key_again, tail1, size_starts}
use Rattle.annex_key.proofs.FaultLemmas.{key_err}
use Rattle.annex_key.proofs.BreakLemmas.{breaks_err}

-- a field that belongs to a text is that of a key
pub keyed_is : (text : List ℕ) (size : Option ℕ) → IsKeyed text size → IsKeyText text
keyed_is text size keyed = let k = bind_ok (key_at text) (λ k. Ok k.size) size keyed in text_takes text k.0 k.1

pub size_err : (text : List ℕ) (e : KeyFault) → size_or_fault text ≡ Err e → key_at text ≡ Err e
size_err text e h =
    elim (bind_err (key_at text) (λ k. Ok k.size) e h) [
      | inl failed ↦ failed
      | inr went ↦ absurd (ok_err e went.0.size went.2)
    ]

-- what breaks a rule isn't want of memory
broken : (e : KeyFault) (text : List ℕ) → Breaks e text → of_text e ≡ Some e
broken NoDashes text b = refl
broken BadBackend text b = refl
broken (BadField at) text b = refl
broken EmptyName text b = refl
broken TooLong text b = refl
broken (BadEscape at) text b = refl
broken (BadName at) text b = refl
broken NoMemory text b = absurd b

of_text_is : (e : KeyFault) → e ≢ NoMemory → of_text e ≡ Some e
of_text_is NoDashes other = refl
of_text_is BadBackend other = refl
of_text_is (BadField at) other = refl
of_text_is EmptyName other = refl
of_text_is TooLong other = refl
of_text_is (BadEscape at) other = refl
of_text_is (BadName at) other = refl
of_text_is NoMemory other = absurd (other refl)

of_text_back : (d e : KeyFault) → of_text d ≡ Some e → d ≡ e
of_text_back NoDashes e h = cc
of_text_back BadBackend e h = cc
of_text_back (BadField at) e h = cc
of_text_back EmptyName e h = cc
of_text_back TooLong e h = cc
of_text_back (BadEscape at) e h = cc
of_text_back (BadName at) e h = cc
of_text_back NoMemory e h = absurd cc

of_text_none : (d : KeyFault) → of_text d ≡ None → d ≡ NoMemory
of_text_none NoDashes h = absurd cc
of_text_none BadBackend h = absurd cc
of_text_none (BadField at) h = absurd cc
of_text_none EmptyName h = absurd cc
of_text_none TooLong h = absurd cc
of_text_none (BadEscape at) h = absurd cc
of_text_none (BadName at) h = absurd cc
of_text_none NoMemory h = refl

-- a fault of a text is told
pub told : (text : List ℕ) (e : KeyFault) → key_at text ≡ Err e → of_text e ≡ first_fault text
told text e h = broken e text (key_err text e h) ∙ sym (ap fault_in h)

fault_err : (r : Result KeyParts KeyFault) (e : KeyFault) → fault_in r ≡ Some e → r ≡ Err e
fault_err (Ok k) e h = absurd cc
fault_err (Err d) e h = cc

fault_ok : (r : Result KeyParts KeyFault) → fault_in r ≡ None → (k : KeyParts) × (r ≡ Ok k)
fault_ok (Ok k) h = (k, refl)
fault_ok (Err d) h = absurd cc

no_fault : (text : List ℕ) → first_fault text ≡ None → IsKeyText text
no_fault text h = let k = fault_ok (key_at text) h in text_takes text k.0 k.1

pub found : {A : Type 0} (P : A → Type 0) (text : List ℕ) (r : Result A KeyFault) → IfOk r P → told_fault r ≡ first_fault text → IfOk r (λ k. P k × IsKeyText text)
found P text (Ok k) is exact = (is, no_fault text (sym exact))
found P text (Err e) is exact = tt

pub only : {A : Type 0} (P : A → Type 0) (text : List ℕ) (r : Result A KeyFault) → IfOk r P → told_fault r ≡ first_fault text → IsKeyText text → MatchResult r P (λ e. e ≡ NoMemory)
only P text (Ok k) is exact key = is
only P text (Err e) is exact key = of_text_none e (exact ∙ ap fault_in (text_again text key))

told_back : {A : Type 0} (r : Result A KeyFault) (e : KeyFault) → told_fault r ≡ Some e → r ≡ Err e
told_back (Ok k) e h = absurd cc
told_back (Err d) e h = ap Err (of_text_back d e h)

pub faults : {A : Type 0} (text : List ℕ) (r : Result A KeyFault) → told_fault r ≡ first_fault text → (e : KeyFault) → e ≢ NoMemory → (r ≡ Err e) ↔ Breaks e text
faults text r exact e other = (
  λ is. key_err text e (fault_err (key_at text) e (sym exact ∙ ap told_fault is ∙ of_text_is e other)),
  λ b. told_back r e (exact ∙ ap fault_in (breaks_err e text b)),
)

-- ---- the parts of a key

pub backend_part-key : (k : KeyParts) (text : List ℕ) → IsKey k → text ≡ key_text k → backend_part text ≡ k.backend
backend_part-key k text is spelled =
    ap backend_part spelled ∙ (word_again k.backend (tail1 k) (backend_no_dash k.backend is.backend) (size_starts k.size k.mtime k.chunk k.name)).0

pub size_part-key : (k : KeyParts) (text : List ℕ) → IsKey k → text ≡ key_text k → size_part text ≡ k.size
size_part-key k text is spelled = ap size_part spelled ∙ ap (λ (r : Result KeyParts KeyFault). or_none (size_in r)) (key_again k is)

pub name_part-key : (k : KeyParts) (text : List ℕ) → IsKey k → text ≡ key_text k → name_part text ≡ k.name
name_part-key k text is spelled = ap name_part spelled ∙ ap name_in (key_again k is)

-- a fault that is handed on is told
pub handed_on : {A : Type 0} (r : Result A KeyFault) (text : List ℕ) (e : KeyFault) → IsErrAnd r (λ d. d ≡ e) → size_or_fault text ≡ Err e → told_fault r ≡ first_fault text
handed_on (Ok x) text e is h = absurd is
handed_on (Err d) text e is h = ap of_text is ∙ told text e (size_err text e h)
