-- What the proof of `writing::write_file` needs beside the tactics.
use Rattle.std.proofs.Common.{List, ℕ, Some, option_map, ◌∙◌, ap, ◌∷◌, []}
use Rattle.annex_base.specs.declared.kinds.Call.TheVariants.{PutFile}
use Rattle.object_store.specs.Stores.{Files, with_at}
use Rattle.node_past.proofs.PastLemmas.{adds_after, fails_after}
use Rattle.store_entries.specs.declared.writing.Draft.{Draft}
use Rattle.node_past.proofs.CallLemmas.{makes_early}
use Rattle.store_entries.proofs.writing.write_file.Goals as goal

pub returns-in-Ok-clause-past : goal.returns-in-Ok-clause-past
returns-in-Ok-clause-past g c = adds_after c.args.kind c.args.lines c.args.past.now c.drafted.new.past c.put.new.past c.drafted.ensures.same c.in-Ok.ensures.past

pub returns-in-Ok-clause-files : goal.returns-in-Ok-clause-files
returns-in-Ok-clause-files g c =
    c.in-Ok.ensures.files ∙ ap (λ (v : List ℕ). option_map (λ (f : Files). with_at f c.args.path.now (Some v)) (g.K.Keeper.files c.args.keeper.now)) (c.deref.ensures.value ∙ c.in_ok-draft.ensures.bytes)

pub returns-in-Err-clause-err : goal.returns-in-Err-clause-err
returns-in-Err-clause-err g c = fails_after c.args.by c.in-Err.refused PutFile c.args.past.now c.drafted.new.past c.put.new.past c.drafted.ensures.same c.in-Err.ensures.err

pub returns-in-Err-clause-err_branch : goal.returns-in-Err-clause-err_branch
returns-in-Err-clause-err_branch g c = c.put_back.ensures ∙ c.in_ok-draft.ensures.undo

pub returns-in_err-draft-clause-calls : goal.returns-in_err-draft-clause-calls
returns-in_err-draft-clause-calls g c = makes_early {Y = Draft} (PutFile ∷ []) PutFile c.from_residual.result c.in_err-draft.field-0.0 (g.K.Keeper.failing c.args.keeper.now) c.from_residual.ensures.1 c.in_err-draft.ensures.no_fault
