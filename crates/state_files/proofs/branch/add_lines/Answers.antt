-- What the proof of `branch::add_lines` needs beside the tactics.
use Rattle.std.proofs.Common.{◌∙◌, [], ap}
use Rattle.union_merge.specs.LineSet.{union}
use Rattle.union_merge.specs.Branch.{merged_file}
use Rattle.state_files.proofs.BranchLemmas.{merged_once}
use Rattle.state_files.proofs.branch.add_lines.Goals as goal

pub returns-clause-ok : goal.returns-clause-ok
returns-clause-ok c =
    let laws = c.unions_have_the_lines_of_both.ensures in
    c.in_ok-merge_file.ensures.ok
    ∙ ap (merged_file c.args.branch.now c.args.path.now) (c.from_lines-set.ensures ∙ ap (union []) c.in_ok-copies.ensures)
    ∙ merged_once laws.set laws.associates c.args.branch.now c.args.path.now c.args.lines.now
    (c.files_are_changed_alone.ensures.set c.args.branch.now c.args.path.now c.files.ensures.branch) c.requires.lines
