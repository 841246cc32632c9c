-- Whether there is room.
use Rattle.std.proofs.Common.{Some, sym, subst}
use Rattle.node_drops.specs.declared.feed.Feed.{Feed}
use Rattle.node_drops.specs.Feeds.{Answers}
use Rattle.node_drops.proofs.Freeing.{full_answers, roomy_answers}
use Rattle.node_drops.proofs.readiness.free.Goals as goal

pub returns-then-roomy-clause-answers : goal.returns-then-roomy-clause-answers
returns-then-roomy-clause-answers c =
    let j = c.args.job.now in
    subst (λ (feed : Feed). Answers c.args.place.now c.args.clock c.args.ends.now j c.args.time (Some feed)) (sym c.bare_feed-then-roomy.ensures)
    (roomy_answers c.args.place.now c.args.clock c.args.ends.now j c.args.time c.requires.awaits c.in-Some.known.now (sym c.in-Some.ensures) c.requires.target c.requires.fits c.requires.slot c.in_ok-peers-in-Some.peers.items
    (rw c.worker.ensures at c.in_ok-peers-in-Some.ensures.needs) c.in_ok-peers-in-Some.ensures.others c.requires.count (sym (rw (c.deref.ensures.value, c.slot.ensures, c.worker-in-Some.ensures) at c.if-roomy.ensures.room)))

pub returns-clause-answers : goal.returns-clause-answers
returns-clause-answers c =
    let j = c.args.job.now in
    full_answers c.args.place.now c.args.clock c.args.ends.now j c.args.time c.requires.awaits c.in-Some.known.now (sym c.in-Some.ensures) c.requires.target c.requires.fits c.requires.slot c.in_ok-peers-in-Some.peers.items
    (rw c.worker.ensures at c.in_ok-peers-in-Some.ensures.needs) c.in_ok-peers-in-Some.ensures.others c.requires.count (sym (rw (c.deref.ensures.value, c.slot.ensures, c.worker-in-Some.ensures) at c.if-roomy.ensures.room))
