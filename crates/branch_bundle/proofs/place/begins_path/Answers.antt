-- What the proof of `place::begins_path` needs beside the tactics.
use Rattle.std.proofs.Common.{rules, ap, sym, not, eqb}
use Rattle.branch_bundle.proofs.FillLemmas.{Each-from_reads}
use Rattle.branch_bundle.proofs.TestLemmas.{path_free_test, path_one_test, path_cut_test, path_below_test}
use Rattle.branch_bundle.proofs.place.begins_path.Goals as goal

pub returns-then-count-ne1 : goal.returns-then-count-ne1
returns-then-count-ne1 c =
    path_free_test c.args.count c.args.before.now c.args.text.now c.is_before_filled.result (Each-from_reads c.args.before.now (λ i. search rules)) c.in_default.ensures c.if-count-ne1.true c.is_before_filled.ensures

pub returns-else-count-ne1 : goal.returns-else-count-ne1
returns-else-count-ne1 c =
    path_one_test c.args.count c.args.before.now c.args.text.now _ (Each-from_reads c.args.before.now (λ i. search rules)) c.in_default.ensures c.if-count-ne1.false (ap (λ n. not (eqb n 1)) c.if-count-ne1.false)

pub returns-then-is_before : goal.returns-then-is_before
returns-then-is_before c =
    path_cut_test c.args.count c.args.before.now c.args.text.now c.in-Some.path.now c.in-Some.lines.now c.begins_lines.result c.in-Some.ensures (sym c.if-is_before.ensures) c.begins_lines.ensures

pub returns-else-is_before : goal.returns-else-is_before
returns-else-is_before c =
    path_below_test c.args.count c.args.before.now c.args.text.now c.in-Some.path.now c.in-Some.lines.now c.is_before.result c.in-Some.ensures (sym c.if-is_before.ensures) c.if-is_before.false
