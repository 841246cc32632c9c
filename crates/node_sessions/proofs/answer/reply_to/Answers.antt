-- The answer is what the session said, over what it took.
use Rattle.std.proofs.Common.{◌∙◌}
use Rattle.node_sessions.proofs.Outcomes.{replies, replies_make}
use Rattle.node_sessions.proofs.answer.reply_to.Goals as goal

pub returns-clause-serves : goal.returns-clause-serves
returns-clause-serves g c = λ links w.
    let e = c.in_ok-step.ensures in
    let y = c.answered.ensures in
    replies c.replies_are_short_lines.ensures.line links c.args.clock c.args.number c.in_ok-incoming.incoming c.args.frame.now c.args.session.now c.take.new.self c.args.table.now c.take.new.table _ _ _ _ _ _ _ _
    c.in_ok-step.step c.place-place.result c.answered.result c.requires.body c.in_ok-incoming.ensures.brings c.in_ok-incoming.ensures.bytes w (c.place-place.ensures ∙ e.place)
    (record { step = e.step; keeps = e.rows; after = e.after; bars = e.bars; kind = e.kind; reply = e.reply; numbers = e.numbers; next = e.next; contents_are = e.contents; parts_are = e.parts; fed = e.fed; judged = e.judged; filled = e.filled; place = e.place; owns = e.owns; fills = e.fills; others = e.others; agrees = e.agrees; later = e.later; cause = e.cause })
    (record { peer = y.at.0; slot = y.at.1; takes = y.takes; kind = y.kind; reply = y.reply; talk = y.talk; line = y.line; word = y.word })

pub returns-clause-calls : goal.returns-clause-calls
returns-clause-calls g c = λ links w.
    let e = c.in_ok-step.ensures in
    let y = c.answered.ensures in
    replies_make links c.args.clock c.args.number c.in_ok-incoming.incoming c.args.frame.now c.args.session.now c.args.table.now _ _ _ _ _ _ c.in_ok-step.step c.place-place.result c.answered.result
    c.in_ok-incoming.ensures.brings w (c.place-place.ensures ∙ e.place) (record { peer = y.at.0; slot = y.at.1; takes = y.takes; kind = y.kind; reply = y.reply; talk = y.talk; line = y.line; word = y.word }) e.calls e.left
