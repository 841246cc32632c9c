-- What holds at each turn of the loops of `numbers::number_of_paths`.
use Rattle.std.proofs.Common.{◌≡◌, None, map, take}
use Rattle.std.specs.Option.{option_copied}
use Rattle.glob_match.specs.Numbers.{number_of_path}
use Rattle.trust_groups.specs.Globs.{greatest}
use Rattle.trust_groups.specs.Reads.{entries_or_none}
use Rattle.trust_groups.specs.Settings.{patterns_of}
use Rattle.trust_groups.proofs.numbers.number_of_paths.Given as goal

-- the greatest number of the paths so far
abbrev pub invariant-loop-path : goal.invariant-loop-path
invariant-loop-path l = l.found ≡ greatest None (map (number_of_path l.whole (patterns_of (entries_or_none (option_copied l.index)))) (take l.path-index l.paths))
