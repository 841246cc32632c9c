-- What holds at each turn of the loops of `tree::copies`.
use Rattle.std.proofs.Common.{◌≡◌, ◌++◌}
use Rattle.std.specs.Map.{values_of}
use Rattle.annex_key.proofs.tree.copies.Given as goal

-- the keys so far and those that are left are all
abbrev pub invariant-loop-key : goal.invariant-loop-key
invariant-loop-key l = l.out.items ++ l.key-iterator ≡ values_of l.keys.entries
