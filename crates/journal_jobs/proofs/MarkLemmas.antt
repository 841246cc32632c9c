-- Marks that follow each other.
use Rattle.std.proofs.Common.{◌≡◌, ℕ, List, [], ◌++◌, Option, Some, None, refl, sym, ap, ◌∙◌, append_assoc}
use Rattle.std.specs.Option.{option_and_then}
use Rattle.annex_base.specs.OptionSteps.{◌>>=◌}
use Rattle.annex_base.proofs.Options.{bind_some}
use Rattle.script_words.specs.Marks.{behind_mark}
use Rattle.script_words.proofs.ContentLemmas.{mark_found, mark_written}

-- two steps that find the same find alike
alike : {A : Type 0} (o p : Option A) → ((x : A) → o ≡ Some x → p ≡ Some x) → ((x : A) → p ≡ Some x → o ≡ Some x) → o ≡ p
alike (Some x) p there back = sym (there x refl)
alike None None there back = refl
alike None (Some y) there back = back y refl

-- nothing follows, whatever was found
pub none_after : {A B : Type 0} (o : Option A) → option_and_then {T = A} {U = B} (λ x. None) o ≡ None
none_after None = refl
none_after (Some x) = refl

-- an empty mark stands before each text
pub unmarked : (bytes : List ℕ) → behind_mark [] bytes ≡ Some bytes
unmarked bytes = mark_found [] bytes

-- one mark and then another are a mark
pub behind_more : (mark more bytes : List ℕ) → behind_mark (mark ++ more) bytes ≡ (behind_mark mark bytes >>= behind_mark more)
behind_more mark more bytes = alike (behind_mark (mark ++ more) bytes) (behind_mark mark bytes >>= behind_mark more)
    (λ rest e.
    let spelled : bytes ≡ mark ++ (more ++ rest) = mark_written (mark ++ more) bytes rest e ∙ append_assoc mark more rest in
    rw (spelled, mark_found mark (more ++ rest), mark_found more rest) refl)
    (λ rest e.
    let h = bind_some (behind_mark mark bytes) (behind_mark more) rest e in
    let spelled : bytes ≡ (mark ++ more) ++ rest = mark_written mark bytes h.0 h.1 ∙ ap (λ (l : List ℕ). mark ++ l) (mark_written more h.0 rest h.2) ∙ sym (append_assoc mark more rest) in
    rw (spelled, mark_found (mark ++ more) rest) refl)
