-- The session that was closed answers nothing.
use Rattle.std.proofs.Common.{sym, subst}
use Rattle.p2p_server.specs.declared.Place.{Place}
use Rattle.p2p_server.specs.Stepping.{moment_of}
use Rattle.node_sessions.specs.Moments.{MakesSo, Serves}
use Rattle.node_sessions.proofs.Outcomes.{closing_at, hung_up, hung_up_makes}
use Rattle.node_sessions.proofs.answer.hang_up.Goals as goal

pub returns-clause-serves : goal.returns-clause-serves
returns-clause-serves c = λ links clock number frame contents parts records faults is w agrees fresh.
    let e = c.closed.ensures in
    subst (λ (p : Place). Serves links clock number (moment_of c.args.session.now c.args.table.now contents parts records faults) (moment_of c.closed.new.self c.closed.new.table contents parts records faults) (closing_at p)) (sym c.place-place.ensures)
    (hung_up links clock number c.args.session.now c.closed.new.self c.args.table.now c.closed.new.table frame contents parts records faults is w agrees fresh
    (record { session = e.session; share = e.share; place = e.place; after = e.after; numbers = e.numbers; filled = e.filled; owns = e.owns; fills = e.fills; fed = e.fed; others = e.others; agrees = e.agrees }))

pub returns-clause-calls : goal.returns-clause-calls
returns-clause-calls c = λ links clock number frame contents parts records faults failing is w.
    subst (λ (p : Place). MakesSo links clock number (moment_of c.args.session.now c.args.table.now contents parts records faults) (closing_at p) failing failing) (sym c.place-place.ensures)
    (hung_up_makes links clock number c.args.session.now c.args.table.now frame contents parts records faults failing is w)
