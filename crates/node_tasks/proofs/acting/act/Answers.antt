-- The step of a transfer needs no clock and no settings; and what it hands on to goes on from there.
use Rattle.std.proofs.Common.{ℕ, sym, subst}
use Rattle.std.specs.Prelude.{IfOk}
use Rattle.annex_base.specs.Settings.{Settings}
use Rattle.trust_groups.specs.View.{settings_of}
use Rattle.node_model.specs.Clocks.{ClockSet}
use Rattle.transfer_turns.specs.Steps.{seen}
use Rattle.node_tasks.specs.declared.acted.Output.{Output}
use Rattle.node_tasks.specs.declared.readiness.Told.{Told}
use Rattle.node_tasks.specs.declared.readiness.Told.TheVariants as tolds
use Rattle.node_tasks.specs.declared.task.Task.{Task}
use Rattle.node_tasks.specs.declared.task.Task.TheVariants as tasks
use Rattle.node_tasks.specs.Acting.{Acts, Leaves, Makes}
use Rattle.node_tasks.proofs.Transfers.{at, handed}
use Rattle.node_tasks.proofs.acting.act.Goals as goal

pub returns-in-Arrival-told-clause-acts : goal.returns-in-Arrival-told-clause-acts
returns-in-Arrival-told-clause-acts g c =
    let place = c.args.place.now in
    let ends = c.args.ends.now in
    let contents = g.K.Keeper.contents c.args.keeper.now in
    let parts = g.K.Keeper.parts c.args.keeper.now in
    let w = c.in-Transfers.job in
    let next = c.hand_on.result in
    let x = c.in-Arrival-told.arrival in
    let settings = settings_of c.args.settings.now in
    subst (λ (t : Task). IfOk c.transfer_step-made.result (Acts place c.args.clock ends settings c.args.time c.args.number contents parts c.args.table.now t next c.args.told)) (sym c.in-Transfers.is)
    (subst (λ (told : Told). IfOk c.transfer_step-made.result (Acts place c.args.clock ends settings c.args.time c.args.number contents parts c.args.table.now (tasks.Transfers w) next told)) (sym c.in-Arrival-told.is)
    (handed (λ (t : Task) (clock : ClockSet) (s : Settings) (time number : ℕ) (out : Output). Acts place clock ends s time number contents parts c.args.table.now (tasks.Transfers w) t (tolds.Arrival x) out) c.transfer_step-made.new.job next
    c.args.clock settings c.args.time c.args.number c.transfer_step-made.result c.hand_on.ensures c.transfer_step-made.ensures.acts))

pub returns-in-Arrival-told-clause-calls : goal.returns-in-Arrival-told-clause-calls
returns-in-Arrival-told-clause-calls g c =
    let place = c.args.place.now in
    let ends = c.args.ends.now in
    let contents = g.K.Keeper.contents c.args.keeper.now in
    let parts = g.K.Keeper.parts c.args.keeper.now in
    let before = g.K.Keeper.failing c.args.keeper.now in
    let after = g.K.Keeper.failing c.transfer_step-made.new.keeper in
    let w = c.in-Transfers.job in
    let x = c.in-Arrival-told.arrival in
    let settings = settings_of c.args.settings.now in
    subst (λ (t : Task). IfOk c.transfer_step-made.result (Makes place c.args.clock ends settings c.args.time c.args.number contents parts c.args.table.now before after t c.args.told)) (sym c.in-Transfers.is)
    (subst (λ (told : Told). IfOk c.transfer_step-made.result (Makes place c.args.clock ends settings c.args.time c.args.number contents parts c.args.table.now before after (tasks.Transfers w) told)) (sym c.in-Arrival-told.is)
    (at (λ (clock : ClockSet) (s : Settings) (time number : ℕ) (out : Output). Makes place clock ends s time number contents parts c.args.table.now before after (tasks.Transfers w) (tolds.Arrival x) out) c.args.clock settings c.args.time c.args.number c.transfer_step-made.result c.transfer_step-made.ensures.calls))

pub returns-in-Arrival-told-clause-leaves : goal.returns-in-Arrival-told-clause-leaves
returns-in-Arrival-told-clause-leaves g c =
    let place = c.args.place.now in
    let was = c.args.keeper.now in
    let now = c.transfer_step-made.new.keeper in
    let before = seen (g.K.Keeper.contents was) (g.K.Keeper.parts was) (g.K.Keeper.records was) (g.K.Keeper.files was) (g.K.Keeper.faults was) (g.K.Keeper.failing was) in
    let after = seen (g.K.Keeper.contents now) (g.K.Keeper.parts now) (g.K.Keeper.records now) (g.K.Keeper.files now) (g.K.Keeper.faults now) (g.K.Keeper.failing now) in
    let next = c.hand_on.result in
    subst (λ (t : Task). Leaves place c.args.number c.args.table.now c.transfer_step-made.new.table before after t next c.args.told c.transfer_step-made.result) (sym c.in-Transfers.is)
    (subst (λ (told : Told). Leaves place c.args.number c.args.table.now c.transfer_step-made.new.table before after (tasks.Transfers c.in-Transfers.job) next told c.transfer_step-made.result) (sym c.in-Arrival-told.is)
    (c.transfer_step-made.ensures.leaves next c.args.number c.hand_on.ensures))
