-- What came for the job.
use Rattle.std.proofs.Common.{sym}
use Rattle.std.specs.Prelude.{length}
use Rattle.node_drops.proofs.Hearing.{awaits_other, free_fed, free_waits, heard_fed, heard_ok, heard_waits, link_there}
use Rattle.node_drops.proofs.readiness.ready.Goals as goal

pub returns-in-Some-clause-answers : goal.returns-in-Some-clause-answers
returns-in-Some-clause-answers c =
    let j = c.args.job.now in
    let at = sym (rw c.worker.ensures at c.in-Some.ensures) in
    let other = awaits_other c.args.place.now j c.in-Some.peer j.known c.requires.target c.requires.fits at c.requires.stands in
    heard_ok c.args.place.now c.args.clock c.args.ends.now j c.args.time c.in-Some.peer at other c.requires.slot (link_there c.args.ends.now (length c.args.place.now.ids) j.worker.slot c.in-Some.peer c.requires.count other.0 c.requires.slot)
    c.frames_wait_at_ends.ensures c.heard.result (rw (c.slot-slot.ensures, c.worker-in-Some.ensures) at c.heard.ensures.feed)

pub returns-in-Some-clause-fed : goal.returns-in-Some-clause-fed
returns-in-Some-clause-fed c =
    heard_fed c.args.ends.now c.args.job.now c.in-Some.peer c.heard.result (sym (rw c.worker.ensures at c.in-Some.ensures)) (rw (c.slot-slot.ensures, c.worker-in-Some.ensures) at c.heard.ensures.feed)

pub returns-in-None-clause-fed : goal.returns-in-None-clause-fed
returns-in-None-clause-fed c = free_fed c.args.ends.now c.args.job.now c.free.result (sym (rw c.worker.ensures at c.in-None.ensures))

pub returns-in-Some-clause-waits : goal.returns-in-Some-clause-waits
returns-in-Some-clause-waits c =
    heard_waits c.args.ends.now c.args.job.now.worker.slot c.in-Some.peer c.heard.result (rw (c.slot-slot.ensures, c.worker-in-Some.ensures) at c.heard.ensures.feed)

pub returns-in-None-clause-waits : goal.returns-in-None-clause-waits
returns-in-None-clause-waits c = free_waits c.args.ends.now c.args.job.now.worker.slot c.free.result c.free.ensures.takes
