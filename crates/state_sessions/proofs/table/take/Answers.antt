-- What the proof of `table::take` needs beside the tactics.
use Rattle.std.proofs.Common.{ap, arith, sym, subst, ◌∙◌, ◌+◌, ◌^◌, ◌<◌}
use Rattle.node_model.specs.Sessions as sessions
use Rattle.state_sessions.specs.Doings.{as_session, number_in}
use Rattle.state_sessions.specs.Tables.{session_in, taken_so}
use Rattle.state_sessions.proofs.SessionLemmas.{replaced, replaced_small}
use Rattle.state_sessions.proofs.table.take.Goals as goal

pub returns-clause-session : goal.returns-clause-session
returns-clause-session c =
    let g : sessions.Session → sessions.Session = λ was. taken_so was c.args.body.now c.args.heard in
    replaced (session_in c.args.table.now.entries) (session_in c.take_out-was.new.table.entries) (session_in c.put.new.table.entries) c.args.at.peer c.args.at.slot (as_session c.takes.result) g
    c.take_out-was.ensures.out c.put.ensures.session (c.takes.ensures.value ∙ ap g c.take_out-was.ensures.value)

pub returns-clause-small : goal.returns-clause-small
returns-clause-small c = λ limit peer slot le below.
    replaced_small (session_in c.args.table.now.entries) (session_in c.take_out-was.new.table.entries) (session_in c.put.new.table.entries) c.args.at.peer c.args.at.slot (as_session c.takes.result) limit (limit + 2 ^ 64)
    c.take_out-was.ensures.out c.put.ensures.session (omega arith)
    (λ low. c.takes.ensures.small limit le (subst (λ (s : sessions.Session). number_in s.doing < limit) (sym c.take_out-was.ensures.value) low)) peer slot below
