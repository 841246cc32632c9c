-- By the client's word on what it sent.
use Rattle.session_state.proofs.Phases.{invalid_so}
use Rattle.session_state.proofs.Unexpected.{none_took}
use Rattle.session_state.proofs.Leaving.{contents_left}
use Rattle.std.proofs.Common.{sym}
use Rattle.session_verdicts.proofs.receiving.received.Goals as goal

pub returns-in-Error-clause-goes : goal.returns-in-Error-clause-goes
returns-in-Error-clause-goes g c = rw c.in-Error.is (c.give_up.ensures.goes c.args.scene _ _ _ _ _ c.requires.at.here c.requires.agrees)

pub returns-in-Valid-clause-goes : goal.returns-in-Valid-clause-goes
returns-in-Valid-clause-goes g c = rw c.in-Valid.is c.verify.ensures.goes

pub returns-in-Invalid-clause-goes : goal.returns-in-Invalid-clause-goes
returns-in-Invalid-clause-goes g c = rw c.in-Invalid.is (
    invalid_so c.args.scene c.args.session.now c.let_go.new.self c.args.table.now c.let_go.new.table _ _ _ _ _ c.requires.at c.requires.phase c.let_go.ensures.session c.let_go.ensures.table c.requires.agrees c.says.ensures)

pub returns-in_default-clause-goes : goal.returns-in_default-clause-goes
returns-in_default-clause-goes g c =
    c.refuse.ensures.goes c.args.scene _ _ _ _ _ c.requires.at.here
    (none_took c.args.session.now c.args.message.now c.requires.phase c.in_default.not-Error c.in_default.not-Valid c.in_default.not-Invalid) c.requires.agrees

pub returns-in-Error-clause-calls : goal.returns-in-Error-clause-calls
returns-in-Error-clause-calls g c = rw c.in-Error.is (c.give_up.ensures.calls c.args.scene _ _ _ _)

pub returns-in-Valid-clause-calls : goal.returns-in-Valid-clause-calls
returns-in-Valid-clause-calls g c = rw c.in-Valid.is c.verify.ensures.calls

pub returns-in_default-clause-calls : goal.returns-in_default-clause-calls
returns-in_default-clause-calls g c =
    c.refuse.ensures.calls c.args.scene _ _ _ _
    (none_took c.args.session.now c.args.message.now c.requires.phase c.in_default.not-Error c.in_default.not-Valid c.in_default.not-Invalid)

pub returns-in-Error-clause-contents : goal.returns-in-Error-clause-contents
returns-in-Error-clause-contents g c = sym (c.give_up.ensures.leaves _ _)

pub returns-in_default-clause-contents : goal.returns-in_default-clause-contents
returns-in_default-clause-contents g c = contents_left _ _ c.refuse.result c.refuse.ensures.leaves
