-- What holds at each turn of the loops of `script::put_merges`.
use Rattle.std.proofs.Common.{◌≡◌, ◌++◌, ◌-◌}
use Rattle.std.specs.List.{flat_map, range_with_len}
use Rattle.storm_script.specs.Storm.{merge_line}
use Rattle.storm_text.proofs.script.put_merges.Given as goal

abbrev pub invariant-loop-repo : goal.invariant-loop-repo
invariant-loop-repo l = l.out.items ≡ l.fn.out.items ++ flat_map merge_line (range_with_len 1 (l.repo - 1))
