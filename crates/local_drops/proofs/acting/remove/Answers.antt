-- What the removal does and leaves.
use Rattle.std.proofs.Common.{[], ◌∷◌, None, Some, refl, sym, ap, ◌∙◌}
use Rattle.annex_base.specs.declared.kinds.Call.TheVariants as calls
use Rattle.run_data.specs.declared.entry.By.TheVariants.{Job as by_job}
use Rattle.run_data.specs.declared.entry.EntryKind.TheVariants.{Gone}
use Rattle.node_model.specs.Look.{failed_in}
use Rattle.drop_phases.specs.declared.phase.Phase.TheVariants as phases
use Rattle.drop_phases.specs.Worker.{Worker}
use Rattle.drop_phases.specs.Doing.{removes_now}
use Rattle.drop_phases.specs.Leaving.{store}
use Rattle.drop_phases.proofs.Callings.{makes_failed, makes_last, over_is}
use Rattle.local_drops.proofs.Removals.{removed_did}
use Rattle.local_drops.proofs.acting.remove.Goals as goal

pub returns-in-Ok-clause-does : goal.returns-in-Ok-clause-does
returns-in-Ok-clause-does g c = λ x.
    let next = c.go_to.ensures ∙ ap (λ (u : Worker). record u { phase = phases.Removed }) c.take_token.ensures.bare in
    removed_did x c.args.table.now c.remove.new.self
    (store (g.K.Keeper.contents c.args.keeper.now) (g.K.Keeper.records c.args.keeper.now) (g.K.Keeper.faults c.args.keeper.now)) (store (g.K.Keeper.contents c.remove.new.keeper) (g.K.Keeper.records c.remove.new.keeper) (g.K.Keeper.faults c.remove.new.keeper))
    c.args.worker.now c.go_to.new.self c.in-Bar.bar c.quietly.result (sym c.take_token.ensures.token ∙ c.in-Bar.is) c.requires.owns c.quietly.ensures.1 c.in-Ok.ensures.holds c.in-Ok.ensures.records c.in-Ok.ensures.later
    (c.quietly.ensures.0 ∙ (λ i. Gone (by_job ((c.number.ensures ∙ ap (λ (u : Worker). u.number) next) i)) ((c.in_ok-key.ensures ∙ c.key.ensures) i))) next c.in-Ok.ensures.after c.in-Ok.ensures.gone

pub returns-in-Ok-clause-calls : goal.returns-in-Ok-clause-calls
returns-in-Ok-clause-calls g c = λ x.
    over_is x (g.K.Keeper.contents c.args.keeper.now) c.args.table.now c.args.worker.now removes_now (calls.Remove ∷ []) None (g.K.Keeper.failing c.args.keeper.now) (g.K.Keeper.failing c.remove.new.keeper) c.quietly.result
    (λ k told rest. refl) (ap failed_in c.quietly.ensures.0) (makes_last calls.Remove (g.K.Keeper.failing c.args.keeper.now) (g.K.Keeper.failing c.remove.new.keeper) c.in-Ok.ensures.failing)

pub returns-in-Err-clause-calls : goal.returns-in-Err-clause-calls
returns-in-Err-clause-calls g c = λ x.
    over_is x (g.K.Keeper.contents c.args.keeper.now) c.args.table.now c.args.worker.now removes_now (calls.Remove ∷ []) (Some calls.Remove) (g.K.Keeper.failing c.args.keeper.now) (g.K.Keeper.failing c.remove.new.keeper) c.fail.result
    (λ k told rest. refl) (ap failed_in c.fail.ensures.says.0) (makes_failed calls.Remove [] (g.K.Keeper.failing c.args.keeper.now) (g.K.Keeper.failing c.remove.new.keeper) c.in-Err.ensures.failing)
