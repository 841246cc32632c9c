-- One more empty store.
use Rattle.std.proofs.Common.{◌≡◌, ◌+◌, ◌∷◌, [], List, Option, Some, None, ℕ, length, All, refl, sym, ap, subst, ◌∙◌}
use Rattle.std.proofs.lemmas.List.{length-append}
use Rattle.std.proofs.lemmas.List.Elements.{All-push}
use Rattle.std.proofs.lemmas.Option.{same_Some}
use Rattle.annex_base.specs.declared.kinds.Call.{Call}
use Rattle.object_store.specs.ByKey.{bytes_at, part_at}
use Rattle.object_store.specs.CallCounts.{calls_left}
use Rattle.object_store.specs.HoldList.{records_of}
use Rattle.object_store.specs.Stores.{Contents, Files, Parts}
use Rattle.object_store.specs.declared.keeper.HoldRecord.{HoldRecord}
use Rattle.object_store.specs.declared.memory.MemoryKeeper.{MemoryKeeper}
use Rattle.fleet_entries.specs.Stored.{HasNothing, store_view}
use Rattle.driver_model.specs.Driver.{at_first, part_at as driver_part}
use Rattle.fleet_entries.specs.Stores.{IsStoreOf, IsTold, content_in, waiting_fails}
use Rattle.fleet_run.proofs.declaring.memory_keepers.Goals as goal

is_empty : (cs : Option Contents) (ps : Option Parts) (rs : Option (List HoldRecord)) (fs : Option Files) → cs ≡ Some (λ key. None) → ps ≡ Some (λ key. []) → rs ≡ Some [] → fs ≡ Some (λ path. None) → HasNothing cs ps rs fs
is_empty cs ps rs fs contents parts records files = record {
  contents = λ c e key. ap (λ (f : Contents). f key) (sym (same_Some (λ k. None) c (sym contents ∙ e)));
  parts = λ p e key. ap (λ (f : Parts). f key) (sym (same_Some (λ k. []) p (sym parts ∙ e)));
  records = λ r e. sym (same_Some [] r (sym records ∙ e));
  files = λ f e path. ap (λ (g : Files). g path) (sym (same_Some (λ k. None) f (sym files ∙ e)));
}

is_first : (cs : Option Contents) (ps : Option Parts) (ns : Option (Call → ℕ)) (faults : ℕ) → cs ≡ Some (λ key. None) → ps ≡ Some (λ key. []) → ns ≡ Some (λ call. 0) → IsStoreOf at_first 0 (store_view cs ps ns faults)
is_first cs ps ns faults contents parts failing = record {
  contents = subst (λ (o : Option Contents). IsTold o (λ c. (key : List ℕ) → c key ≡ content_in at_first 0 key)) (sym contents) (λ key. refl);
  parts = subst (λ (o : Option Parts). IsTold o (λ p. (key : List ℕ) → p key ≡ driver_part at_first 0 key)) (sym parts) (λ key. refl);
  failing = subst (λ (o : Option (Call → ℕ)). IsTold o (λ n. (call : Call) → n call ≡ waiting_fails at_first 0 call)) (sym failing) (λ call. refl);
}

abbrev Empty : MemoryKeeper → Type 0
Empty k = HasNothing (Some (bytes_at k.contents.entries)) (Some (part_at k.parts.entries)) (Some (records_of k.holds.entries)) (Some (bytes_at k.files.entries))

abbrev TellsFirst : MemoryKeeper → Type 0
TellsFirst k = IsStoreOf at_first 0 (store_view (Some (bytes_at k.contents.entries)) (Some (part_at k.parts.entries)) (Some (calls_left k.failures.left)) k.failures.count)

pub loop-made-preserved : goal.loop-made-preserved
loop-made-preserved c =
    let k = c.in_ok-new.field-0 in
    let is = c.in_ok-new.ensures in
    let items = c.in_ok-push.ensures.items in
    record {
      count = ap length items ∙ (length-append c.loop-made.keepers.items (k ∷ []) ∙ ap (λ n. n + 1) c.loop-made.invariant.count);
      empty = subst (All Empty) (sym items) (All-push Empty c.loop-made.keepers.items k c.loop-made.invariant.empty
          (is_empty (Some (bytes_at k.contents.entries)) (Some (part_at k.parts.entries)) (Some (records_of k.holds.entries)) (Some (bytes_at k.files.entries)) is.contents is.parts is.records is.files));
      tells = subst (All TellsFirst) (sym items) (All-push TellsFirst c.loop-made.keepers.items k c.loop-made.invariant.tells
          (is_first (Some (bytes_at k.contents.entries)) (Some (part_at k.parts.entries)) (Some (calls_left k.failures.left)) k.failures.count is.contents is.parts is.failing));
    }
