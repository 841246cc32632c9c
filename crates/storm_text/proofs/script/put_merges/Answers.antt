-- What the proof of `script::put_merges` needs beside the tactics.
use Rattle.std.proofs.Common.{◌≡◌, ℕ, ◌-◌, ◌++◌, ap, ◌∙◌, arith}
use Rattle.std.specs.List.{flat_map, range_with_len}
use Rattle.storm_script.specs.Storm.{merge_line}
use Rattle.storm_text.proofs.Drawn.{line_more}
use Rattle.storm_text.proofs.script.put_merges.Goals as goal

pub loop-repo-preserved : goal.loop-repo-preserved
loop-repo-preserved c = line_more merge_line 1 c.loop-repo.repo c.args.out.now.items c.loop-repo.out.items _ (omega arith) c.loop-repo.invariant c.in_ok-put_merge_line.ensures

pub returns : goal.returns
returns c =
    let last : c.loop-repo.repo ≡ 8 = omega arith in
    c.loop-repo.invariant ∙ ap (λ (n : ℕ). c.args.out.now.items ++ flat_map merge_line (range_with_len 1 (n - 1))) last
