-- What holds at each turn of the loop of `records::told`.
use Rattle.std.proofs.Common.{◌≡◌, ◌++◌}
use Rattle.run_audit.specs.Changes.{told_of}
use Rattle.run_audit.proofs.records.told.Given as goal

-- what is told so far, and of the keys that are left, is all
abbrev pub invariant-loop-key : goal.invariant-loop-key
invariant-loop-key l = l.keys.items ++ told_of l.key-iterator ≡ told_of l.kept.entries
