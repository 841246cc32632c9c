-- What holds at each turn of the loop of `running::add_copies`.
use Rattle.std.proofs.Common.{◌≡◌, ◌++◌, take}
use Rattle.fleet_entries.proofs.running.add_copies.Given as goal

abbrev pub invariant-loop-entry : goal.invariant-loop-entry
invariant-loop-entry l = l.entries ≡ l.initial.entries ++ take l.entry-index l.made
