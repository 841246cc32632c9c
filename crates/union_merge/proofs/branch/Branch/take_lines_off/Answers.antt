-- What the proof of `branch::Branch::take_lines_off` needs beside the tactics.
use Rattle.std.proofs.Common.{sym, subst}
use Rattle.union_merge.specs.Branch.{IsBranch, lines_at}
use Rattle.union_merge.specs.FileView.{files_of}
use Rattle.union_merge.specs.LineSet.{difference}
use Rattle.union_merge.proofs.BranchLemmas.{lines_at-is_set, with_file-is_branch}
use Rattle.union_merge.proofs.DifferenceLemmas.{difference-is_set}
use Rattle.union_merge.proofs.branch.Branch.take_lines_off.Goals as goal

pub invariant_of-self : goal.invariant_of-self
invariant_of-self c =
    let files = files_of c.self.inside.files.entries in
    let own = lines_at files c.args.path.now in
    subst IsBranch (sym c.take_lines.ensures)
    (with_file-is_branch files c.args.path.now (difference own c.args.lines.now) c.self.invariant c.requires.line
    (difference-is_set own c.args.lines.now (lines_at-is_set files c.args.path.now c.self.invariant.each)))
