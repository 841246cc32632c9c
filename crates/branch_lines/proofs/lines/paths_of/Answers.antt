-- What the proof of `lines::paths_of` needs beside the tactics.
use Rattle.std.proofs.Common.{List, ℕ, sym, subst}
use Rattle.annex_base.specs.Lists.{Each}
use Rattle.union_merge.specs.LineSet.{IsLine}
use Rattle.branch_lines.proofs.SetLemmas.{paths_are_lines}
use Rattle.branch_lines.proofs.lines.paths_of.Goals as goal

pub returns-clause-lines : goal.returns-clause-lines
returns-clause-lines c = subst (λ (xs : List (List ℕ)). Each IsLine xs) (sym c.in_ok-paths.ensures) (paths_are_lines c.args.branch.now c.files.ensures.branch.each)
