-- Sets of lines that a compaction leaves, and the paths of a branch.
use Rattle.std.proofs.Common.{ℕ, List, [], ◌∷◌, not}
use Rattle.std.specs.Map.{keys_of}
use Rattle.std.proofs.lemmas.List.Kept.{IsStrictlySortedBy-filter}
use Rattle.annex_base.specs.ByteOrder.{text_cmp}
use Rattle.annex_base.specs.Lists.{Each}
use Rattle.annex_base.proofs.Lists.{Each-filter}
use Rattle.annex_base.proofs.TextOrder.{order_nil}
use Rattle.log_lines.specs.declared.entry.LogKind.{LogKind}
use Rattle.log_lines.specs.Newest.{current_lines, is_outdated}
use Rattle.union_merge.specs.Branch.{Files}
use Rattle.union_merge.specs.LineSet.{IsLine, IsLineSet}

pub paths_are_lines : (files : Files) → Each (λ f. IsLine f.0 × IsLineSet f.1) files → Each IsLine (keys_of files)
paths_are_lines [] each = tt
paths_are_lines (f ∷ files) each = (each.0.0, paths_are_lines files each.1)

pub no_lines : IsLineSet []
no_lines = record { sorted = order_nil; each = tt }

pub current_set : (kind : LogKind) (lines : List (List ℕ)) → IsLineSet lines → IsLineSet (current_lines kind lines)
current_set kind lines set = record {
  sorted = IsStrictlySortedBy-filter text_cmp (λ line. not (is_outdated kind lines line)) lines set.sorted;
  each = Each-filter IsLine (λ line. not (is_outdated kind lines line)) lines set.each;
}
