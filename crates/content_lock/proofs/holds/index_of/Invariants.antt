-- What holds at each turn of the loops of `holds::index_of`.
use Rattle.std.proofs.Common.{◌≡◌, ◌++◌, List, ℕ}
use Rattle.std.specs.Map.{values_of}
use Rattle.content_lock.specs.Indexed.{listed_at}
use Rattle.content_lock.proofs.IndexedLemmas.{numbers_on}
use Rattle.content_lock.proofs.holds.index_of.Given as goal

-- the numbers so far and those of the holds that are left are all
abbrev pub invariant-loop-hold : goal.invariant-loop-hold
invariant-loop-hold l = (key : List ℕ) → listed_at l.numbers.entries key ++ numbers_on key l.hold-iterator ≡ numbers_on key (values_of l.by_number.entries)
