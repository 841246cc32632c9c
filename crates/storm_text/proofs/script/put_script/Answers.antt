-- What the proof of `script::put_script` needs beside the tactics.
use Rattle.std.proofs.Common.{ℕ, ◌++◌, ap, ◌∙◌, codes}
use Rattle.std.specs.List.{flat_map, range_with_len}
use Rattle.storm_script.specs.Storm.{haves, merge_line, repo_line, settle_line, times}
use Rattle.storm_text.proofs.Drawn.{six}
use Rattle.storm_text.proofs.script.put_script.Goals as goal

pub returns : goal.returns
returns c =
    let had = haves c.args.contents 0 c.args.draws.now.state in
    let ran = c.in_ok-put_times.ensures ∙ ap (λ (x : ℕ). c.put_merges.new.out.items ++ times c.args.jobs 1 x) c.in_ok-put_haves.ensures.state in
    six c.args.out.now.items (flat_map repo_line (range_with_len 0 8)) had.text (codes "numcopies s0 2\n") (flat_map merge_line (range_with_len 1 7)) (times c.args.jobs 1 had.state)
    settle_line c.put_repos.new.out.items c.put_haves.new.out.items c.extend_from_slice.new.self.items c.put_merges.new.out.items c.put_times.new.out.items
    c.put_settle_line.new.out.items c.in_ok-put_repos.ensures c.in_ok-put_haves.ensures.text c.in_ok-extend_from_slice.ensures.items c.in_ok-put_merges.ensures ran
    c.in_ok-put_settle_line.ensures
