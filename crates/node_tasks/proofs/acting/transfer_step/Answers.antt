-- The transfer's step, whichever job it hands on to.
use Rattle.std.proofs.Common.{Result, refl, sym, subst}
use Rattle.std.proofs.lemmas.Result.{err_from_is_err_and}
use Rattle.annex_base.specs.declared.memory.NoMemory.{NoMemory}
use Rattle.transfer_turns.specs.Steps.{seen}
use Rattle.node_transfers.specs.declared.job.TransferJob.{TransferJob}
use Rattle.node_tasks.specs.declared.acted.Output.{Output}
use Rattle.node_tasks.specs.declared.readiness.Told.TheVariants as tolds
use Rattle.node_tasks.specs.declared.task.Task.TheVariants as tasks
use Rattle.node_tasks.specs.Acting.{Leaves}
use Rattle.node_tasks.proofs.Transfers.{transfer_acts, transfer_leaves, transfer_makes, transfer_stays}
use Rattle.node_tasks.proofs.acting.transfer_step.Goals as goal

pub returns-clause-acts : goal.returns-clause-acts
returns-clause-acts g c = λ next hands clock settings time number.
    let w' : TransferJob = record { worker = c.step.new.worker; paths = c.args.job.now.paths } in
    transfer_acts c.args.place.now clock c.args.ends.now settings time number (g.K.Keeper.contents c.args.keeper.now) (g.K.Keeper.parts c.args.keeper.now) c.args.table.now c.args.job.now c.args.arrival.now w' next c.in_ok-made.made c.is_end-ended.result
    c.is_end-ended.ensures c.in_ok-made.ensures.keeps.leaves.number hands (rw (c.number.ensures.same, c.count.ensures.count, c.as_ref.ensures.value) at c.in_ok-made.ensures.step)

pub returns-clause-calls : goal.returns-clause-calls
returns-clause-calls g c = λ clock settings time number.
    transfer_makes c.args.place.now clock c.args.ends.now settings time number (g.K.Keeper.contents c.args.keeper.now) (g.K.Keeper.parts c.args.keeper.now) c.args.table.now c.args.job.now c.args.arrival.now
    (g.K.Keeper.failing c.args.keeper.now) (g.K.Keeper.failing c.step.new.keeper) c.in_ok-made.made c.is_end-ended.result (rw (c.number.ensures.same, c.count.ensures.count, c.as_ref.ensures.value) at c.in_ok-made.ensures.calls)

pub returns-clause-leaves : goal.returns-clause-leaves
returns-clause-leaves g c = λ next number hands.
    let was = c.args.keeper.now in
    let now = c.step.new.keeper in
    let w' : TransferJob = record { worker = c.step.new.worker; paths = c.args.job.now.paths } in
    transfer_leaves c.args.place.now c.args.ends.now c.args.table.now c.step.new.table
    (seen (g.K.Keeper.contents was) (g.K.Keeper.parts was) (g.K.Keeper.records was) (g.K.Keeper.files was) (g.K.Keeper.faults was) (g.K.Keeper.failing was))
    (seen (g.K.Keeper.contents now) (g.K.Keeper.parts now) (g.K.Keeper.records now) (g.K.Keeper.files now) (g.K.Keeper.faults now) (g.K.Keeper.failing now))
    c.args.job.now w' c.requires.task c.args.arrival.now c.in_ok-made.made c.requires.owns.0 (rw (c.number.ensures.same, c.count.ensures.count, c.as_ref.ensures.value) at c.in_ok-made.ensures.keeps) refl
    c.is_end-ended.result c.is_end-ended.ensures next number hands

pub returns-in_err-made-clause-leaves : goal.returns-in_err-made-clause-leaves
returns-in_err-made-clause-leaves g c = λ next number hands.
    let was = c.args.keeper.now in
    let now = c.step.new.keeper in
    let w' : TransferJob = record { worker = c.step.new.worker; paths = c.args.job.now.paths } in
    let before = seen (g.K.Keeper.contents was) (g.K.Keeper.parts was) (g.K.Keeper.records was) (g.K.Keeper.files was) (g.K.Keeper.faults was) (g.K.Keeper.failing was) in
    let after = seen (g.K.Keeper.contents now) (g.K.Keeper.parts now) (g.K.Keeper.records now) (g.K.Keeper.files now) (g.K.Keeper.faults now) (g.K.Keeper.failing now) in
    let failed = err_from_is_err_and c.from_residual.result c.from_residual.ensures.1 in
    subst (λ (r : Result Output NoMemory). Leaves c.args.place.now number c.args.table.now c.step.new.table before after (tasks.Transfers c.args.job.now) next (tolds.Arrival c.args.arrival.now) r) (sym failed.1)
    (transfer_stays c.args.place.now c.args.ends.now c.args.table.now c.step.new.table before after c.args.job.now w' c.requires.task next hands refl c.in_err-made.ensures.keeps)
