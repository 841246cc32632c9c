-- What holds at each turn of the loops of `index::copies`.
use Rattle.std.proofs.Common.{◌≡◌, ◌++◌}
use Rattle.annex_key.proofs.index.copies.Given as goal

-- the paths so far and those that are left are all
abbrev pub invariant-loop-path : goal.invariant-loop-path
invariant-loop-path l = l.out.items ++ l.path-iterator ≡ l.paths.keys
