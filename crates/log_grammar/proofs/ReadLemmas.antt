-- What a reading says of the line.
use Rattle.std.proofs.Common.{◌≡◌, ◌↔◌, ℕ, Bool, false, IsTrue, true≢false, List, Option, Some, None, Result, Ok, Err, IfOk, IfSome, ap, sym, ◌∙◌}
use Rattle.std.proofs.lemmas.Option.{same_Some, none-some}
use Rattle.log_grammar.specs.declared.entry.LogKind.{LogKind}
use Rattle.log_grammar.specs.declared.entry.Entry.{Entry}
use Rattle.log_grammar.specs.LineText.{IsLine}
use Rattle.log_grammar.specs.Reading.{entry_of}
use Rattle.log_grammar.proofs.FormLemmas.{entry_takes, entry_again}

pub read_found : {E : Type 0} (kind : LogKind) (line : List ℕ) (r : Result (Option Entry) E) → IfOk r (λ o. o ≡ entry_of kind line) → IfOk r (λ o. IfSome o (λ e. IsLine kind line e))
read_found kind line (Ok (Some e)) h = entry_takes kind line e (sym h)
read_found kind line (Ok None) h = tt
read_found kind line (Err x) h = tt

pub read_only : {E : Type 0} (kind : LogKind) (line : List ℕ) (r : Result (Option Entry) E) (e : Entry) → IsLine kind line e → IfOk r (λ o. o ≡ entry_of kind line) → IfOk r (λ o. o ≡ Some e)
read_only kind line (Ok o) e is h = h ∙ entry_again kind line e is
read_only kind line (Err x) e is h = tt

-- the line is in the grammar with this entry exactly where it is read so
pub read_as : (kind : LogKind) (line : List ℕ) (e back : Entry) (b : Bool) → Some back ≡ entry_of kind line → (IsTrue b ↔ (back ≡ e)) → IsTrue b ↔ IsLine kind line e
read_as kind line e back b read same = (
  λ is. entry_takes kind line e (sym read ∙ ap Some (same.0 is)),
  λ is. same.1 (same_Some back e (read ∙ entry_again kind line e is)),
)

pub read_nothing : (kind : LogKind) (line : List ℕ) (e : Entry) → None ≡ entry_of kind line → IsTrue false ↔ IsLine kind line e
read_nothing kind line e read = (λ is. absurd (true≢false (sym is)), λ is. absurd (none-some e (read ∙ entry_again kind line e is)))
