-- What the proof of `trees::Trees::paths` needs beside the tactics.
use Rattle.std.proofs.Common.{List, [], ap, sym, ◌∙◌}
use Rattle.annex_key.specs.Tree.{paths_of}
use Rattle.run_data.specs.declared.run.TreeMark.{TreeMark}
use Rattle.run_paths.specs.Paths.{with_marks}
use Rattle.step_rules.proofs.Marks.{tree_then}
use Rattle.step_rules.proofs.Rules.{ok_map}
use Rattle.step_rules.proofs.trees.Trees.paths.Goals as goal

pub returns-clause-value : goal.returns-clause-value
returns-clause-value c = ok_map c.paths.result _ _ (λ paths are.
    let key = c.args.key.now in
    are ∙ ap (λ (ms : List TreeMark). paths_of (with_marks [] ms) key) c.split_at.ensures.front
    ∙ sym (ap (λ tree. paths_of tree key) (tree_then c.args.place c.passed-passed.result c.args.self.now.marks.now c.passed-passed.ensures.before c.passed-passed.ensures.later))) c.paths.ensures.value
