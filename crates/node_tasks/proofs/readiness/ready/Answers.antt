-- What a drop or a transfer is told.
use Rattle.std.proofs.Common.{Some, None, sym, subst}
use Rattle.std.specs.Prelude.{length}
use Rattle.node_drops.specs.Feeds as drops_told
use Rattle.node_transfers.specs.Ready as transfers
use Rattle.node_tasks.specs.declared.readiness.Told.TheVariants.{Arrival, Feed}
use Rattle.node_tasks.specs.declared.task.Task.{Task}
use Rattle.node_tasks.specs.Telling.{Answers}
use Rattle.node_tasks.proofs.Seeing.{drop_answers, transfer_answers}
use Rattle.node_tasks.proofs.readiness.ready.Goals as goal

pub returns-in-Some-clause-answers : goal.returns-in-Some-clause-answers
returns-in-Some-clause-answers c =
    let place = c.args.place.now in
    subst (λ (t : Task). Answers place c.args.clock c.args.ends.now c.args.time t (Some (Feed c.in-Some.feed))) (sym c.in-Drops.is)
    (drop_answers place c.args.clock c.args.ends.now c.args.time c.in-Drops.job (Some c.in-Some.feed) (subst (drops_told.Answers place c.args.clock c.args.ends.now c.in-Drops.job c.args.time) c.in-Some.is c.in_ok-feed-in-Drops.ensures.answers))

pub returns-in-None-clause-answers : goal.returns-in-None-clause-answers
returns-in-None-clause-answers c =
    let place = c.args.place.now in
    subst (λ (t : Task). Answers place c.args.clock c.args.ends.now c.args.time t None) (sym c.in-Drops.is)
    (drop_answers place c.args.clock c.args.ends.now c.args.time c.in-Drops.job None (subst (drops_told.Answers place c.args.clock c.args.ends.now c.in-Drops.job c.args.time) c.in-None.is c.in_ok-feed-in-Drops.ensures.answers))

pub returns-in-Some-2-clause-answers : goal.returns-in-Some-2-clause-answers
returns-in-Some-2-clause-answers c =
    let place = c.args.place.now in
    subst (λ (t : Task). Answers place c.args.clock c.args.ends.now c.args.time t (Some (Arrival c.in-Some-2.arrival))) (sym c.in-Transfers.is)
    (transfer_answers place c.args.clock c.args.ends.now c.args.time c.in-Transfers.job (Some c.in-Some-2.arrival)
    (subst (transfers.Answers place.number (length place.ids) c.args.ends.now c.in-Transfers.job.worker) c.in-Some-2.is (rw (c.number.ensures.same, c.count.ensures.count) at c.in_ok-arrival-in-Transfers.ensures.answers)))
