-- By the message.
use Rattle.session_state.proofs.Unexpected.{none_moves}
use Rattle.p2p_server.proofs.hearing.unasked.Goals as goal

pub returns-in-Error-clause-goes : goal.returns-in-Error-clause-goes
returns-in-Error-clause-goes c = λ contents parts records faults agrees. rw c.in-Error.is (c.give_up.ensures.goes c.args.scene _ contents parts records faults c.requires.at.here agrees)

pub returns-in_default-clause-goes : goal.returns-in_default-clause-goes
returns-in_default-clause-goes c = λ contents parts records faults agrees.
    c.refuse.ensures.goes c.args.scene _ contents parts records faults c.requires.at.here (none_moves c.args.session.now c.args.message.now c.requires.phase c.in_default.not-Error) agrees

pub returns-in-Error-clause-calls : goal.returns-in-Error-clause-calls
returns-in-Error-clause-calls c = λ contents parts failing. rw c.in-Error.is (c.give_up.ensures.calls c.args.scene _ contents parts failing)

pub returns-in_default-clause-calls : goal.returns-in_default-clause-calls
returns-in_default-clause-calls c = λ contents parts failing. c.refuse.ensures.calls c.args.scene _ contents parts failing (none_moves c.args.session.now c.args.message.now c.requires.phase c.in_default.not-Error)
