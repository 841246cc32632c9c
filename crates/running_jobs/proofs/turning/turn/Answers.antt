-- The job out of the list, and back.
use Rattle.std.proofs.Common.{◌+◌, ◌∷◌, ◌++◌, [], length, take, drop, refl, sym, ap, subst, ◌∙◌, append_assoc, arith}
use Rattle.std.proofs.lemmas.List.{length-take-le}
use Rattle.std.proofs.lemmas.Option.{slice_get_read}
use Rattle.annex_base.specs.Lists.{Each}
use Rattle.annex_base.proofs.Lists.{Each-middle}
use Rattle.annex_base.proofs.Results.{OnErr-always}
use Rattle.transfer_turns.specs.Steps.{seen}
use Rattle.node_tasks.specs.declared.task.Task.{Task}
use Rattle.node_tasks.specs.Owing.{Owes}
use Rattle.node_tasks.specs.Tasks.{IsTask, OwnsOf}
use Rattle.running_jobs.specs.Changes.{task_after}
use Rattle.running_jobs.proofs.Placing.{put_there, read_there, taken_there}
use Rattle.running_jobs.proofs.Staying.{stays_here}
use Rattle.running_jobs.proofs.turning.turn.Goals as goal

pub act-task-requires-clause-task : goal.act-task-requires-clause-task
act-task-requires-clause-task g c =
    let was = c.args.running.now.items in
    Each-middle (IsTask c.args.place.now) (take c.args.found.index was) c.take_out-task.result (drop (c.args.found.index + 1) was) (subst (Each (IsTask c.args.place.now)) c.take_out-task.ensures.was c.requires.tasks)

pub act-task-requires-clause-owns : goal.act-task-requires-clause-owns
act-task-requires-clause-owns g c =
    let was = c.args.running.now.items in
    Each-middle (OwnsOf c.args.table.now) (take c.args.found.index was) c.take_out-task.result (drop (c.args.found.index + 1) was) (subst (Each (OwnsOf c.args.table.now)) c.take_out-task.ensures.was c.requires.owns)

pub act-task-requires-clause-told : goal.act-task-requires-clause-told
act-task-requires-clause-told g c =
    c.requires.told c.take_out-task.result (taken_there c.args.running.now.items c.args.found.index c.take_out-task.result c.requires.there c.take_out-task.ensures.was)

pub returns-in-Ok-clause-changes : goal.returns-in-Ok-clause-changes
returns-in-Ok-clause-changes g c =
    let was = c.args.running.now.items in
    let index = c.args.found.index in
    record {
      front = take index was;
      back = drop (index + 1) was;
      t = c.take_out-task.result;
      t' = c.act-task.result.0;
      mid = c.act-task.new.table;
      place = length-take-le index was (omega (arith, c.requires.there));
      was_is = c.take_out-task.ensures.was;
      now_is = put_there was c.take_out-task.new.running.items c.settle.new.running.items (task_after c.in-Ok.out.ended c.act-task.result.0) index c.requires.there c.take_out-task.ensures.now c.settle.ensures.list;
      job = c.number-job.ensures;
      slot = c.slot-slot.ensures;
      takes = c.takes-takes.ensures;
      owes = subst (λ (t : Task). Owes c.args.ends.now t c.args.found.told c.in_ok-owes.owes) (read_there was index c.index.result.now c.take_out-task.result c.requires.there c.index.ensures c.take_out-task.ensures.was)
          (c.in_ok-owes.ensures c.args.ends.now (c.requires.told c.index.result.now (slice_get_read was (length was) index c.index.result.now refl c.requires.there c.index.ensures)));
      acts = rw c.in-Ok.is at c.act-task.ensures.acts;
      makes = rw c.in-Ok.is at c.act-task.ensures.calls;
      leaves = rw c.in-Ok.is at c.act-task.ensures.leaves;
      settled = c.settle.ensures.settles;
    }

pub returns-in_err-owes-clause-err : goal.returns-in_err-owes-clause-err
returns-in_err-owes-clause-err g c =
    let was = c.args.keeper.now in
    OnErr-always _ c.from_residual.result
    (stays_here c.args.running.now.items c.args.table.now (seen (g.K.Keeper.contents was) (g.K.Keeper.parts was) (g.K.Keeper.records was) (g.K.Keeper.files was) (g.K.Keeper.faults was) (g.K.Keeper.failing was)))

pub returns-in-Err-clause-err : goal.returns-in-Err-clause-err
returns-in-Err-clause-err g c =
    let was = c.args.running.now.items in
    let index = c.args.found.index in
    let left = rw c.in-Err.is at c.act-task.ensures.leaves in
    record {
      jobs = put_there was c.take_out-task.new.running.items c.put_back.new.running.items (c.act-task.result.0 ∷ []) index c.requires.there c.take_out-task.ensures.now (c.put_back.ensures ∙ sym (append_assoc (take index c.take_out-task.new.running.items) (c.act-task.result.0 ∷ []) (drop index c.take_out-task.new.running.items)))
          ∙ (ap (λ (t : Task). take index was ++ t ∷ drop (index + 1) was) left.task ∙ sym c.take_out-task.ensures.was);
      table = left.table;
      contents = left.contents;
      parts = left.parts;
      records = left.records;
      files = left.files;
      later = left.later;
      failing = left.failing;
    }
