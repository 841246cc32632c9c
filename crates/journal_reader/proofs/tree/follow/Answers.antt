-- What the proof of `tree::follow` needs beside the tactics.
use Rattle.std.proofs.Common.{ℕ, List, ap, ◌∙◌, arith}
use Rattle.annex_key.specs.Tree.{with_key}
use Rattle.journal_reading.specs.Lines.{tree_from}
use Rattle.journal_reader.proofs.TreeLemmas.{tree_more}
use Rattle.journal_reader.proofs.tree.follow.Goals as goal

pub loop-mark-preserved : goal.loop-mark-preserved
loop-mark-preserved c = λ n later.
    tree_more (tree_from c.args.tree.now c.args.marks.now n) c.loop-mark.tree c.set.new.self c.loop-mark.left.now c.in-Some.after.now c.in-Some.mark.now n
    (c.loop-mark.invariant n later) c.in-Some.ensures.cases.0 (omega arith)
    (c.in_ok-set.ensures.ok ∙ ap (λ (path : List ℕ). with_key c.loop-mark.tree path c.in-Some.mark.now.key) c.bytes.ensures)
