-- By the message.
use Rattle.std.proofs.Common.{refl}
use Rattle.session_state.proofs.Phases.{announced_so}
use Rattle.session_state.proofs.Unexpected.{none_wants}
use Rattle.session_parts.proofs.coming.announced.Goals as goal

pub returns-in-Error-clause-goes : goal.returns-in-Error-clause-goes
returns-in-Error-clause-goes c = λ contents parts records faults agrees. rw c.in-Error.is (c.give_up.ensures.goes c.args.scene _ contents parts records faults c.requires.at.here agrees)

pub returns-in-Data-clause-goes : goal.returns-in-Data-clause-goes
returns-in-Data-clause-goes c = λ contents parts records faults agrees. rw c.in-Data.is (
    announced_so c.args.scene _ c.args.session.now _ c.args.table.now contents parts records faults c.silent.result c.requires.at c.requires.phase refl
    c.expect.ensures.doing c.expect.ensures.share c.expect.ensures.fills c.expect.ensures.fed agrees c.silent.ensures)

pub returns-in_default-clause-goes : goal.returns-in_default-clause-goes
returns-in_default-clause-goes c = λ contents parts records faults agrees.
    c.refuse.ensures.goes c.args.scene _ contents parts records faults c.requires.at.here (none_wants c.args.session.now c.args.message.now c.requires.phase c.in_default.not-Error c.in_default.not-Data) agrees

pub returns-in-Error-clause-calls : goal.returns-in-Error-clause-calls
returns-in-Error-clause-calls c = λ contents parts failing. rw c.in-Error.is (c.give_up.ensures.calls c.args.scene _ contents parts failing)

pub returns-in_default-clause-calls : goal.returns-in_default-clause-calls
returns-in_default-clause-calls c = λ contents parts failing.
    c.refuse.ensures.calls c.args.scene _ contents parts failing (none_wants c.args.session.now c.args.message.now c.requires.phase c.in_default.not-Error c.in_default.not-Data)
