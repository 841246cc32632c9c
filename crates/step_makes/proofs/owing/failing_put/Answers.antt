-- What the proof of `owing::failing_put` needs beside the tactics.
use Rattle.std.proofs.Common.{sym, ap, None, Some, ◌∙◌, ◌∷◌, if◌then◌else◌, []}
use Rattle.annex_base.specs.Calls.{same_call}
use Rattle.annex_base.specs.declared.kinds.Call.TheVariants.{PutFile}
use Rattle.run_data.specs.declared.entry.EntryKind.{EntryKind}
use Rattle.step_makes.proofs.OwingLemmas.{no_fault, or_no}
use Rattle.node_model.specs.Look.{failing_call}
use Rattle.step_judging.specs.Telling.{failed_call}
use Rattle.step_makes.proofs.owing.failing_put.Goals as goal

pub returns-in-Fault : goal.returns-in-Fault
returns-in-Fault c = c.failing_if.ensures ∙ (λ i. if (c.same_call.ensures ∙ sym (or_no (same_call c.in-Fault.call PutFile))) i then Some c.in-Fault.call else None) ∙ ap (λ (k : EntryKind). failing_call (failed_call k) (PutFile ∷ [])) (sym c.in-Fault.is)

pub returns-in_default : goal.returns-in_default
returns-in_default c = no_fault c.args.kind.now c.in_default.not-Fault
