-- So many stores, each of them empty, of which no call is to fail.
use Rattle.std.proofs.Common.{◌≡◌, Some, length, All}
use Rattle.object_store.specs.ByKey.{bytes_at, part_at}
use Rattle.object_store.specs.CallCounts.{calls_left}
use Rattle.object_store.specs.HoldList.{records_of}
use Rattle.object_store.specs.declared.memory.MemoryKeeper.{MemoryKeeper}
use Rattle.fleet_entries.specs.Stored.{HasNothing, store_view}
use Rattle.driver_model.specs.Driver.{at_first}
use Rattle.fleet_entries.specs.Stores.{IsStoreOf}
use Rattle.fleet_run.proofs.declaring.memory_keepers.Given as goal

abbrev pub invariant-loop-made : goal.invariant-loop-made
invariant-loop-made l = record {
  count : length l.keepers.items ≡ l._made;
  empty : All (λ (k : MemoryKeeper). HasNothing (Some (bytes_at k.contents.entries)) (Some (part_at k.parts.entries)) (Some (records_of k.holds.entries)) (Some (bytes_at k.files.entries))) l.keepers.items;
  tells : All (λ (k : MemoryKeeper). IsStoreOf at_first 0 (store_view (Some (bytes_at k.contents.entries)) (Some (part_at k.parts.entries)) (Some (calls_left k.failures.left)) k.failures.count)) l.keepers.items;
}
