-- What the proof of `branch::Branch::take_off` needs beside the tactics.
use Rattle.std.proofs.Common.{sym, subst}
use Rattle.union_merge.specs.Branch.{IsBranch}
use Rattle.union_merge.specs.FileView.{files_of}
use Rattle.union_merge.proofs.UndoneLemmas.{without_file-is_branch}
use Rattle.union_merge.proofs.branch.Branch.take_off.Goals as goal

pub invariant_of-self : goal.invariant_of-self
invariant_of-self c = subst IsBranch (sym c.take_off.ensures) (without_file-is_branch (files_of c.self.inside.files.entries) c.args.path.now c.self.invariant)
