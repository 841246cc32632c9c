-- What the proof of `branch::Branch::replace_file` needs beside the tactics.
use Rattle.std.proofs.Common.{ap, sym, subst, refl}
use Rattle.union_merge.specs.Branch.{IsBranch}
use Rattle.union_merge.specs.FileView.{files_of}
use Rattle.union_merge.proofs.BranchLemmas.{with_file-is_branch}
use Rattle.union_merge.proofs.ViewLemmas.{file_is}
use Rattle.union_merge.proofs.branch.Branch.replace_file.Goals as goal

pub invariant_of-self-2 : goal.invariant_of-self-2
invariant_of-self-2 c =
    subst IsBranch (sym (file_is (files_of c.self.inside.files.entries) (files_of c.put.new.files.entries) c.self.inside.files.entries c.in_ok-copy.copy c.args.lines c.args.path.now (ap files_of c.in_ok-put.ensures.ok) refl c.in_ok-copy.ensures.items))
    (with_file-is_branch (files_of c.self.inside.files.entries) c.args.path.now c.args.lines c.self.invariant c.requires c.lines-2.ensures.set)

pub returns-clause-ok : goal.returns-clause-ok
returns-clause-ok c =
    file_is c.args.self.now (files_of c.put.new.files.entries) c.self.inside.files.entries c.in_ok-copy.copy c.args.lines c.args.path.now (ap files_of c.in_ok-put.ensures.ok) c.self.view_is c.in_ok-copy.ensures.items
