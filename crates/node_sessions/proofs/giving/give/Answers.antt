-- What is given is what is sent next.
use Rattle.std.proofs.Common.{◌∙◌}
use Rattle.node_sessions.proofs.Outcomes.{gives_make, gives_so}
use Rattle.node_sessions.proofs.giving.give.Goals as goal

pub returns-clause-serves : goal.returns-clause-serves
returns-clause-serves g c = λ links rows clock number w ready.
    let e = c.in_ok-more.ensures in
    let y = c.given.ensures in
    gives_so links clock number c.args.session.now c.more.new.self rows _ _ _ _ _ _ _ _ c.in_ok-more.more c.place-place.result c.given.result w ready (c.place-place.ensures ∙ e.place)
    (record { step = e.step; bytes = e.bytes; next = e.next; place = e.place; share = e.share; fills = e.fills; fed = e.fed; same_contents = e.contents; same_parts = e.parts; same_records = e.records; later = e.later; cause = e.cause })
    (record { peer = y.at.0; slot = y.at.1; takes = y.takes; reply = y.reply; fails = y.fails; kind = y.kind; leaves = y.leaves; talk = y.talk; piece = y.piece; word = y.word })

pub returns-clause-calls : goal.returns-clause-calls
returns-clause-calls g c = λ links rows clock number w.
    let e = c.in_ok-more.ensures in
    let y = c.given.ensures in
    gives_make links clock number c.args.session.now rows _ _ _ _ _ _ c.in_ok-more.more c.place-place.result c.given.result w (c.place-place.ensures ∙ e.place)
    (record { peer = y.at.0; slot = y.at.1; takes = y.takes; reply = y.reply; fails = y.fails; kind = y.kind; leaves = y.leaves; talk = y.talk; piece = y.piece; word = y.word }) e.calls
