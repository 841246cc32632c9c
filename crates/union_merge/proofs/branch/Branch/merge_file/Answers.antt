-- What the proof of `branch::Branch::merge_file` needs beside the tactics.
use Rattle.std.proofs.Common.{◌∙◌, sym, ap, subst, rules}
use Rattle.union_merge.specs.LineSet.{union}
use Rattle.union_merge.specs.Branch.{Files, IsBranch, or_none, with_file, merged_file}
use Rattle.union_merge.specs.FileView.{files_of}
use Rattle.union_merge.proofs.SetLemmas.{union-nil}
use Rattle.union_merge.proofs.BranchLemmas.{merged_file-is_branch}
use Rattle.union_merge.proofs.branch.Branch.merge_file.Goals as goal

pub invariant_of-self-then-branch : goal.invariant_of-self-then-branch
invariant_of-self-then-branch c =
    subst IsBranch (sym (c.in_ok-merge_into.ensures.there c.if-branch.true))
    (merged_file-is_branch (files_of c.self.inside.files.entries) c.args.path.now c.args.lines.now c.self.invariant c.requires c.lines.ensures.set)

pub returns-clause-ok : goal.returns-clause-ok
returns-clause-ok c =
    let missing = c.in_ok-merge_into.ensures.missing (search rules) in
    c.in_ok-replace_file.ensures.ok ∙ ap (λ (w : Files). with_file w c.args.path.now c.in_ok-lines.lines) missing.1
    ∙ ap (with_file (files_of c.self.inside.files.entries) c.args.path.now)
    (c.in_ok-lines.ensures.value ∙ sym (union-nil c.args.lines.now c.in_ok-lines.ensures.set.sorted) ∙ ap (λ o. union (or_none o) c.args.lines.now) (sym missing.0))
    ∙ ap (λ (w : Files). merged_file w c.args.path.now c.args.lines.now) c.self.view_is
