-- What the proof of `walk::items_match` needs beside the tactics.
use Rattle.std.proofs.Common.{rules, ◌∙◌, sym, ap, length, arith}
use Rattle.std.specs.Str.{chars}
use Rattle.glob_match.specs.Walk.{segment_at, find_at}
use Rattle.glob_match.proofs.WalkLemmas.{segment_resumes, find_resumes, none_resumes, segment_continues, find_continues, rests_at_run}
use Rattle.glob_match.proofs.walk.items_match.Goals as goal

pub returns-in_default : goal.returns-in_default
returns-in_default c =
    let items = c.args.items.now in
    let text = chars c.args.text.now in
    sym (segment_resumes items text ∙ none_resumes (segment_at items text) c.in_default.ensures)

pub loop-after-init : goal.loop-after-init
loop-after-init c =
    let k = segment_continues c.args.items.now (chars c.args.text.now) (c.in-Some.items.now, chars c.in-Some.text.now) c.in-Some.ensures in
    (k.same, k.stop, search rules)

pub returns-in_default-find_segment : goal.returns-in_default-find_segment
returns-in_default-find_segment c =
    let after = c.in-Some-split_first.after.now in
    let text = chars c.loop-after.text.now in
    let run = rests_at_run c.loop-after.items.now c.in-Some-split_first.field-0-0.now after text c.in-Some-split_first.ensures.cases.0 c.loop-after.invariant.1 in
    sym (find_resumes after text ∙ none_resumes (find_at after text) c.in_default-find_segment.ensures) ∙ (sym run ∙ c.loop-after.invariant.0)

pub loop-after-smaller : goal.loop-after-smaller
loop-after-smaller c =
    let k = find_continues c.in-Some-split_first.after.now (chars c.loop-after.text.now) (c.in-Some-find_segment.next.now, chars c.in-Some-find_segment.rest.now) c.in-Some-find_segment.ensures in
    omega (arith, k.fewer, ap length c.in-Some-split_first.ensures.cases.0)

pub loop-after-preserved : goal.loop-after-preserved
loop-after-preserved c =
    let after = c.in-Some-split_first.after.now in
    let text = chars c.loop-after.text.now in
    let k = find_continues after text (c.in-Some-find_segment.next.now, chars c.in-Some-find_segment.rest.now) c.in-Some-find_segment.ensures in
    let run = rests_at_run c.loop-after.items.now c.in-Some-split_first.field-0-0.now after text c.in-Some-split_first.ensures.cases.0 c.loop-after.invariant.1 in
    (k.same ∙ (sym run ∙ c.loop-after.invariant.0), k.stop, search rules)
