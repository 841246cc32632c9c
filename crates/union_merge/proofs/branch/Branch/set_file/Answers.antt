-- What the proof of `branch::Branch::set_file` needs beside the tactics.
use Rattle.std.proofs.Common.{sym, subst}
use Rattle.union_merge.specs.Branch.{IsBranch}
use Rattle.union_merge.specs.FileView.{files_of}
use Rattle.union_merge.proofs.BranchLemmas.{with_file-is_branch}
use Rattle.union_merge.proofs.branch.Branch.set_file.Goals as goal

pub invariant_of-self : goal.invariant_of-self
invariant_of-self c = subst IsBranch (sym c.set_lines.ensures) (with_file-is_branch (files_of c.self.inside.files.entries) c.args.path.now c.args.lines c.self.invariant c.requires.line c.lines.ensures.set)
