-- What came at the end where it awaits a frame.
use Rattle.std.proofs.Common.{sym, ◌∙◌}
use Rattle.node_transfers.proofs.Hearing.{heard_answers}
use Rattle.node_transfers.proofs.readiness.ready.Goals as goal

pub returns-in-Some-clause-answers : goal.returns-in-Some-clause-answers
returns-in-Some-clause-answers c =
    heard_answers c.args.repo c.args.count c.args.ends.now c.args.worker.now c.requires.links c.requires.slot c.ends_are_there.ensures.listed c.ends_are_there.ensures.there c.frames_wait_at_ends.ensures c.in-Some.peer (sym c.awaits.ensures ∙ c.in-Some.is) c.requires.apart
    c.hear.result (rw c.slot.ensures at c.hear.ensures.hears)
