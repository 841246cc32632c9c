-- The next word of groups.
use Rattle.std.proofs.Common.{◌≡◌, ℕ, zero, suc, ◌+◌, ◌-◌, ◌<◌, true, List, [], ◌∷◌, ◌++◌, refl, sym, arith}
use Rattle.log_lines.specs.LineText.{is_group}
use Rattle.script_words.specs.Places.{Cursor, LineWord}
use Rattle.script_words.specs.Words.{next_word, behind}
use Rattle.script_words.specs.declared.words.NextWord.{NextWord}
use Rattle.script_words.specs.declared.words.NextWord.TheVariants.{Word}
use Rattle.script_forms.specs.Steps.{group_by, groups_in}

pub groups_more : (n m : ℕ) (groups next_groups : List (List ℕ)) (at next : Cursor) (w : LineWord) → n ≡ m + 1 → Word w ≡ next_word at.line at.place → is_group w.text ≡ true → next ≡ behind at (Word w) → next_groups ≡ groups ++ w.text ∷ [] → groups_in m next_groups next ≡ groups_in n groups at
groups_more zero m groups next_groups at next w more found holds cursor added = absurd (omega arith)
groups_more (suc n) m groups next_groups at next w more found holds cursor added =
    let same : m ≡ n = omega arith in
    rw (same, added, cursor, sym found, holds) refl
