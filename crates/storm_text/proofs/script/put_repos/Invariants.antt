-- What holds at each turn of the loops of `script::put_repos`.
use Rattle.std.proofs.Common.{◌≡◌, ◌++◌, ◌-◌}
use Rattle.std.specs.List.{flat_map, range_with_len}
use Rattle.storm_script.specs.Storm.{repo_line}
use Rattle.storm_text.proofs.script.put_repos.Given as goal

abbrev pub invariant-loop-repo : goal.invariant-loop-repo
invariant-loop-repo l = l.out.items ≡ l.fn.out.items ++ flat_map repo_line (range_with_len 0 (l.repo - 0))
