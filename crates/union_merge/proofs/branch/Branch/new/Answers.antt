-- What the proof of `branch::Branch::new` needs beside the tactics.
use Rattle.std.proofs.Common.{sym, subst}
use Rattle.union_merge.specs.Branch.{IsBranch}
use Rattle.union_merge.specs.FileView.{files_of}
use Rattle.union_merge.proofs.BranchLemmas.{empty-is_branch}
use Rattle.union_merge.proofs.branch.Branch.new.Goals as goal

pub invariant_of-result : goal.invariant_of-result
invariant_of-result c = subst (λ es. IsBranch (files_of es)) (sym c.new.ensures.empty) empty-is_branch
