-- There is no room for what it sends next.
use Rattle.std.proofs.Common.{◌≡◌, true, false, sym, ap, ◌∙◌}
use Rattle.std.specs.Prelude.{is_some}
use Rattle.transfer_worker.specs.Workers.{work_of}
use Rattle.node_transfers.proofs.Going.{full_answers}
use Rattle.node_transfers.proofs.readiness.free.Goals as goal
use Rattle.node_transfers.proofs.readiness.free.Goals.{else-is_some-via-then-is_some+else-not-is_open, else-is_some-via-else-is_some}

pub returns-else-has_room-clause-answers : goal.returns-else-has_room-clause-answers
returns-else-has_room-clause-answers c =
    let v = work_of c.args.worker.now in
    let full = sym (rw c.slot.ensures at c.has_room.ensures.room) ∙ c.if-has_room.false in
    let talks = c.is_some.ensures ∙ ap is_some c.partner.ensures in
    full_answers c.args.repo c.args.count c.args.ends.now c.args.worker.now c.requires.links c.requires.slot c.ends_are_there.ensures.there c.requires.can c.requires.names c.requires.awaits c.sends_to.result c.sends_to.ensures c.in-Some.peer c.in-Some.is full
    (elim c.else-is_some.branch [
      | else-is_some-via-then-is_some+else-not-is_open w ↦ (λ some. sym (rw c.slot.ensures at w.is_open.ensures) ∙ w.if-not-is_open.false)
      | else-is_some-via-else-is_some w ↦ (λ some. absurd (let both : true ≡ false = sym some ∙ (sym talks ∙ w.if-is_some.false) in cc))
    ])
