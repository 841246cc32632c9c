-- By what is heard, and the phase.
use Rattle.session_state.proofs.Phases.{opens_so}
use Rattle.session_state.proofs.Unexpected.{bad_line}
use Rattle.std.proofs.Common.{refl}
use Rattle.session_state.proofs.Making.{quiet}
use Rattle.session_state.proofs.Leaving.{contents_left}
use Rattle.p2p_server.proofs.Small.{parts_small}
use Rattle.p2p_server.proofs.hearing.hear.Goals as goal

pub returns-in-Opening-clause-goes : goal.returns-in-Opening-clause-goes
returns-in-Opening-clause-goes g c = rw c.in-Opening.is (opens_so c.args.scene c.args.session.now c.args.table.now _ _ _ _ _ c.requires.at c.requires.agrees c.welcome.ensures.says (c.welcome.ensures.fits _))

pub returns-in-Waits-clause-goes : goal.returns-in-Waits-clause-goes
returns-in-Waits-clause-goes g c = rw c.in-Message.is c.request.ensures.goes

pub returns-in-Guards-clause-goes : goal.returns-in-Guards-clause-goes
returns-in-Guards-clause-goes g c = rw c.in-Message.is c.guarded.ensures.goes

pub returns-in-Gives-clause-goes : goal.returns-in-Gives-clause-goes
returns-in-Gives-clause-goes g c = rw c.in-Message.is (c.unasked.ensures.goes _ _ _ _ c.requires.agrees)

pub returns-in-Takes-clause-goes : goal.returns-in-Takes-clause-goes
returns-in-Takes-clause-goes g c = rw c.in-Message.is (c.unasked-in-Takes.ensures.goes _ _ _ _ c.requires.agrees)

pub returns-in-Gave-clause-goes : goal.returns-in-Gave-clause-goes
returns-in-Gave-clause-goes g c = rw c.in-Message.is (c.judged.ensures.goes _ _ _ _ c.requires.agrees)

pub returns-in-Wants-clause-goes : goal.returns-in-Wants-clause-goes
returns-in-Wants-clause-goes g c = rw c.in-Message.is (c.announced.ensures.goes _ _ _ _ c.requires.agrees)

pub returns-in-Took-clause-goes : goal.returns-in-Took-clause-goes
returns-in-Took-clause-goes g c = rw c.in-Message.is c.received.ensures.goes

pub returns-in-Bytes-clause-goes : goal.returns-in-Bytes-clause-goes
returns-in-Bytes-clause-goes g c = rw c.in-Bytes.is c.piece.ensures.goes

pub returns-in-Bad-clause-goes : goal.returns-in-Bad-clause-goes
returns-in-Bad-clause-goes g c = rw c.in-Bad.is (c.refuse.ensures.goes c.args.scene _ _ _ _ _ c.requires.at.here (bad_line c.args.session.now) c.requires.agrees)

pub returns-in-Opening-clause-calls : goal.returns-in-Opening-clause-calls
returns-in-Opening-clause-calls g c = rw c.in-Opening.is (quiet c.args.scene _ c.args.session.now c.args.table.now _ _ _ _ (rw c.welcome.ensures.says refl) (λ h. refl))

pub returns-in-Waits-clause-calls : goal.returns-in-Waits-clause-calls
returns-in-Waits-clause-calls g c = rw c.in-Message.is c.request.ensures.calls

pub returns-in-Guards-clause-calls : goal.returns-in-Guards-clause-calls
returns-in-Guards-clause-calls g c = rw c.in-Message.is c.guarded.ensures.calls

pub returns-in-Gives-clause-calls : goal.returns-in-Gives-clause-calls
returns-in-Gives-clause-calls g c = rw c.in-Message.is (c.unasked.ensures.calls _ _ _)

pub returns-in-Takes-clause-calls : goal.returns-in-Takes-clause-calls
returns-in-Takes-clause-calls g c = rw c.in-Message.is (c.unasked-in-Takes.ensures.calls _ _ _)

pub returns-in-Gave-clause-calls : goal.returns-in-Gave-clause-calls
returns-in-Gave-clause-calls g c = rw c.in-Message.is (c.judged.ensures.calls _ _ _)

pub returns-in-Wants-clause-calls : goal.returns-in-Wants-clause-calls
returns-in-Wants-clause-calls g c = rw c.in-Message.is (c.announced.ensures.calls _ _ _)

pub returns-in-Took-clause-calls : goal.returns-in-Took-clause-calls
returns-in-Took-clause-calls g c = rw c.in-Message.is c.received.ensures.calls

pub returns-in-Bytes-clause-calls : goal.returns-in-Bytes-clause-calls
returns-in-Bytes-clause-calls g c = rw c.in-Bytes.is c.piece.ensures.calls

pub returns-in-Bad-clause-calls : goal.returns-in-Bad-clause-calls
returns-in-Bad-clause-calls g c = rw c.in-Bad.is (c.refuse.ensures.calls c.args.scene _ _ _ _ (bad_line c.args.session.now))

pub returns-in-Gives-clause-contents : goal.returns-in-Gives-clause-contents
returns-in-Gives-clause-contents g c = contents_left _ _ c.unasked.result c.unasked.ensures.leaves

pub returns-in-Takes-clause-contents : goal.returns-in-Takes-clause-contents
returns-in-Takes-clause-contents g c = contents_left _ _ c.unasked-in-Takes.result c.unasked-in-Takes.ensures.leaves

pub returns-in-Gave-clause-contents : goal.returns-in-Gave-clause-contents
returns-in-Gave-clause-contents g c = contents_left _ _ c.judged.result c.judged.ensures.leaves

pub returns-in-Wants-clause-contents : goal.returns-in-Wants-clause-contents
returns-in-Wants-clause-contents g c = contents_left _ _ c.announced.result c.announced.ensures.leaves

pub returns-in-Bad-clause-contents : goal.returns-in-Bad-clause-contents
returns-in-Bad-clause-contents g c = contents_left _ _ c.refuse.result c.refuse.ensures.leaves

pub returns-in-Waits-clause-small : goal.returns-in-Waits-clause-small
returns-in-Waits-clause-small g c = parts_small _ _ _ _ c.request.result c.request.ensures.goes

pub returns-in-Guards-clause-small : goal.returns-in-Guards-clause-small
returns-in-Guards-clause-small g c = parts_small _ _ _ _ c.guarded.result c.guarded.ensures.goes

pub returns-in-Took-clause-small : goal.returns-in-Took-clause-small
returns-in-Took-clause-small g c = parts_small _ _ _ _ c.received.result c.received.ensures.goes
