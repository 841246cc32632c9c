-- The text of a number begins with a digit.
use Rattle.std.proofs.Common.{◌≡◌, ℕ, ◌<◌, ◌^◌, true, false, List, [], ◌∷◌, ◌++◌, None, refl, sym, ap, subst, ◌∙◌}
use Rattle.std.specs.List.{list_all}
use Rattle.std.specs.Fmt.{decimal}
use Rattle.std.specs.Char.{is_ascii_digit}
use Rattle.std.proofs.lemmas.Bool.{and_parts}
use Rattle.std.proofs.lemmas.List.{append-nil}
use Rattle.annex_base.proofs.Lists.{cons_first}
use Rattle.annex_base.proofs.Numbers.{decimal-all}
use Rattle.annex_base.proofs.Options.{none_by}
use Rattle.script_words.specs.Marks.{behind_mark}
use Rattle.script_words.proofs.ContentLemmas.{mark_written}
use Rattle.script_words.proofs.NumberLemmas.{decimal_filled}

apart : (b : ℕ) (mark digits rest tail : List ℕ) → is_ascii_digit b ≡ false → list_all is_ascii_digit digits ≡ true → ([] ≡ digits → ⊥) → digits ++ tail ≡ (b ∷ mark) ++ rest → ⊥
apart b mark [] rest tail other all some e = some refl
apart b mark (d ∷ ds) rest tail other all some e =
    let first : d ≡ b = cons_first d b (ds ++ tail) (mark ++ rest) e in
    let both = and_parts (is_ascii_digit d) (list_all is_ascii_digit ds) all in
    let clash : true ≡ false = sym both.0 ∙ ap is_ascii_digit first ∙ other in absurd cc

-- no mark that begins with another byte stands before it
pub no_number_before : (b : ℕ) (mark : List ℕ) → is_ascii_digit b ≡ false → (n : ℕ) → n < 2 ^ 64 → (tail : List ℕ) → behind_mark (b ∷ mark) (decimal n ++ tail) ≡ None
no_number_before b mark other n small tail = none_by (behind_mark (b ∷ mark) (decimal n ++ tail))
    (λ rest e. apart b mark (decimal n) rest tail other (decimal-all is_ascii_digit (λ d is. is) n) (decimal_filled n small) (mark_written (b ∷ mark) (decimal n ++ tail) rest e))

pub no_number : (b : ℕ) (mark : List ℕ) → is_ascii_digit b ≡ false → (n : ℕ) → n < 2 ^ 64 → behind_mark (b ∷ mark) (decimal n) ≡ None
no_number b mark other n small = subst (λ l. behind_mark (b ∷ mark) l ≡ None) (append-nil (decimal n)) (no_number_before b mark other n small [])
