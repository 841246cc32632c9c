-- What calls of a ledger leave to fail.
use Rattle.std.proofs.Common.{◌≡◌, List, [], Result, Ok, Err, refl, ◌∙◌}
use Rattle.std.specs.Option.{option_map}
use Rattle.annex_base.specs.declared.kinds.Call.{Call}
use Rattle.annex_base.specs.declared.kinds.Call.TheVariants as calls
use Rattle.node_past.specs.declared.refused.NodeRefused.{NodeRefused}
use Rattle.node_past.specs.declared.refused.NodeRefused.TheVariants as refusals
use Rattle.content_lock.specs.CallsMade.{fewer}
use Rattle.node_ledger.specs.Debts.{failed_put}
use Rattle.node_past.specs.Calls.{Makes}
use Rattle.node_past.proofs.CallLemmas.{Failing, makes_none, stops_early}

-- ---- what is left to fail

pub makes_left : (made : List Call) (r : Result (Unit {0}) NodeRefused) (before after : Failing) → Makes made calls.PutFile r before after → after ≡ option_map (fewer (failed_put r)) before
makes_left made (Ok x) before after it = it.left
makes_left made (Err refusals.Full) before after it = it ∙ (makes_none before before refl).left
makes_left made (Err refusals.StoreFault) before after it = it.left
makes_left made (Err (refusals.BadBundle at)) before after it = it ∙ (makes_none before before refl).left
makes_left made (Err refusals.NoMemory) before after it = it ∙ (makes_none before before refl).left

pub left_early : (e : NodeRefused) (failing : Failing) → (e ≡ refusals.StoreFault → ⊥) → failing ≡ option_map (fewer (failed_put (Err e))) failing
left_early e failing well = makes_left [] (Err e) failing failing (stops_early [] calls.PutFile e failing failing well refl)
