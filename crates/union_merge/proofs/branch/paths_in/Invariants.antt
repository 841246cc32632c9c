-- What holds at each turn of the loops of `branch::paths_in`.
use Rattle.std.proofs.Common.{◌≡◌, ◌++◌, map}
use Rattle.std.specs.Map.{keys_of}
use Rattle.union_merge.specs.FileView.{files_of}
use Rattle.union_merge.proofs.branch.paths_in.Given as goal

-- the paths so far and those that are left are all
abbrev pub invariant-loop-path : goal.invariant-loop-path
invariant-loop-path l = l.paths.items ++ map (λ p. p.items) l.path-iterator ≡ keys_of (files_of l.files.entries)
