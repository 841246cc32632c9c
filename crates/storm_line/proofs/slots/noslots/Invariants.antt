-- What holds at each turn of the loops of `slots::noslots`.
use Rattle.std.proofs.Common.{◌≡◌, ◌≤◌, ◌+◌, length}
use Rattle.std.specs.Slice.Iter.{iter_rest}
use Rattle.std.specs.Iterator.Adapters.{zip_first, zip_second}
use Rattle.storm_line.specs.Counts.{noslots_from}
use Rattle.storm_line.proofs.slots.noslots.Given as goal

abbrev pub invariant-loop-command : goal.invariant-loop-command
invariant-loop-command l = (noslots_from l.run 0 l.script l.run.marks ≡ l.count + noslots_from l.run l.from (iter_rest (zip_first l.command-iterator)) (iter_rest (zip_second l.command-iterator)))
    × (l.count + length (iter_rest (zip_first l.command-iterator)) ≤ length l.script)
