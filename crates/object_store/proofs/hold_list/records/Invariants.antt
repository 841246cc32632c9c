-- What holds at each turn of the loops of `hold_list::records`.
use Rattle.std.proofs.Common.{◌≡◌, ◌++◌}
use Rattle.object_store.specs.HoldList.{records_of}
use Rattle.object_store.specs.Stores.{AreEarly}
use Rattle.object_store.proofs.hold_list.records.Given as goal

-- the records so far and those that are left are all
abbrev pub invariant-loop-number : goal.invariant-loop-number
invariant-loop-number l = record {
  value : l.out.items ++ records_of l.number-iterator ≡ records_of l.holds.entries;
  early : AreEarly l.out.items;
}
