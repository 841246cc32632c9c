-- What the proof of `item::is_in_ranges` needs beside the tactics.
use Rattle.std.proofs.Common.{◌∙◌, inl, inr}
use Rattle.glob_match.proofs.SetLemmas.{in_ranges_step, outside}
use Rattle.glob_match.specs.Glob.{in_ranges}
use Rattle.glob_match.proofs.item.is_in_ranges.Goals as goal
use Rattle.glob_match.proofs.item.is_in_ranges.Goals.{else-first-c-via-then-first-c+else-c-last, else-first-c-via-else-first-c}

pub loop-first-preserved : goal.loop-first-preserved
loop-first-preserved c =
    c.loop-first.invariant
    ∙ (in_ranges_step c.loop-first.rest.now c.args.c c.in-Some.first c.in-Some.last c.in-Some.after.now c.in-Some.ensures
    ∙ elim c.else-first-c.branch [
      | else-first-c-via-then-first-c+else-c-last w ↦ outside c.in-Some.first c.in-Some.last c.args.c (in_ranges c.in-Some.after.now c.args.c) (inr w.if-c-last.false)
      | else-first-c-via-else-first-c w ↦ outside c.in-Some.first c.in-Some.last c.args.c (in_ranges c.in-Some.after.now c.args.c) (inl w.if-first-c.false)
    ])
