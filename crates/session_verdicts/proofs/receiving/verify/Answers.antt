-- The verdict on the part, and what is let go.
use Rattle.session_state.proofs.Unexpected.{no_valid}
use Rattle.session_state.proofs.Phases.{valid_so}
use Rattle.session_state.proofs.Making.{valid_makes}
use Rattle.session_state.proofs.Leaving.{contents_left}
use Rattle.session_verdicts.proofs.receiving.verify.Goals as goal

pub returns-in_default-clause-goes : goal.returns-in_default-clause-goes
returns-in_default-clause-goes g c = c.refuse.ensures.goes c.args.scene _ _ _ _ _ c.requires.at.here (no_valid c.args.session.now c.in_default.not-Took) c.requires.agrees

pub returns-clause-goes : goal.returns-clause-goes
returns-clause-goes g c =
    let r = c.in_ok-step.ensures in
    valid_so c.args.scene c.args.session.now c.let_go.new.self _ c.args.table.now c.let_go.new.table _ _ _ _ _ _ _ _ c.in_ok-step.step c.in-Took.is c.requires.at
    r.does r.after r.fits r.plain r.judged r.parts c.let_go.ensures.session c.let_go.ensures.table (rw c.verify.ensures.records c.requires.agrees) c.verify.ensures.later r.cause

pub returns-in_default-clause-calls : goal.returns-in_default-clause-calls
returns-in_default-clause-calls g c = c.refuse.ensures.calls c.args.scene _ _ _ _ (no_valid c.args.session.now c.in_default.not-Took)

pub returns-clause-calls : goal.returns-clause-calls
returns-clause-calls g c =
    let r = c.in_ok-step.ensures in
    valid_makes c.args.scene c.args.session.now c.in-Took.taken c.args.table.now _ _ _ _ c.in_ok-step.step c.in-Took.is r.calls r.left

pub returns-in_default-clause-contents : goal.returns-in_default-clause-contents
returns-in_default-clause-contents g c = contents_left _ _ c.refuse.result c.refuse.ensures.leaves
