-- What holds at each turn of the loops of `holds::recovered`.
use Rattle.content_lock.specs.Indexed.{IsRecovered}
use Rattle.content_lock.proofs.holds.recovered.Given as goal

-- the map has the holds of the records so far
abbrev pub invariant-loop-stored : goal.invariant-loop-stored
invariant-loop-stored l = IsRecovered l.now l.yielded l.by_number.entries
