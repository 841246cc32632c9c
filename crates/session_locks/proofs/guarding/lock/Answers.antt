-- By whether the hold was given.
use Rattle.std.proofs.Common.{ap, sym, ◌∙◌}
use Rattle.session_state.proofs.Waiting.{guarding, in_phase, lock_so}
use Rattle.std.proofs.Common.{refl}
use Rattle.node_model.specs.Calls.{to_lock}
use Rattle.node_model.specs.SessionStep.{bar_on, is_here}
use Rattle.session_state.proofs.Making.{request_makes}
use Rattle.session_locks.proofs.guarding.lock.Goals as goal

pub returns-in-Some-clause-goes : goal.returns-in-Some-clause-goes
returns-in-Some-clause-goes g c =
    let s = c.args.session.now in
    let r = c.in_ok-step.ensures in
    rw (← c.in_ok-key.ensures) (
    lock_so c.args.scene c.in_ok-key.key s _ c.args.table.now c.lock.new.table _ _ _ _ _ _ _ _ c.in_ok-step.share c.in_ok-step.step c.requires.waits
    ((λ j. in_phase s.place s.spoken (c.begin.ensures j)) ∙ ap (λ o. in_phase s.place s.spoken (guarding o)) (sym c.in-Some.is))
    c.requires.at.here r.does r.after c.lock.ensures.bars r.fits r.shared r.refused r.owns c.lock.ensures.others r.plain r.still c.lock.ensures.parts c.lock.ensures.agrees c.lock.ensures.later r.cause)

pub returns-in-None-clause-goes : goal.returns-in-None-clause-goes
returns-in-None-clause-goes g c =
    let s = c.args.session.now in
    let r = c.in_ok-step.ensures in
    rw (← c.in_ok-key.ensures) (
    lock_so c.args.scene c.in_ok-key.key s s c.args.table.now c.lock.new.table _ _ _ _ _ _ _ _ c.in_ok-step.share c.in_ok-step.step c.requires.waits
    ((λ j. in_phase s.place s.spoken (c.requires.waits j)) ∙ ap (λ o. in_phase s.place s.spoken (guarding o)) (sym c.in-None.is))
    c.requires.at.here r.does r.after c.lock.ensures.bars r.fits r.shared r.refused r.owns c.lock.ensures.others r.plain r.still c.lock.ensures.parts c.lock.ensures.agrees c.lock.ensures.later r.cause)

pub returns-in-Some-clause-calls : goal.returns-in-Some-clause-calls
returns-in-Some-clause-calls g c =
    let r = c.in_ok-step.ensures in
    let key = c.in_ok-key.key in
    rw (← c.in_ok-key.ensures) (
    request_makes c.args.scene _ c.args.session.now c.args.table.now _ _ _ _ c.in_ok-step.step (λ h. to_lock h.locks (is_here h key) (bar_on h key)) c.requires.waits (λ h. refl) (λ k is part right sees. r.calls k is) r.left)

pub returns-in-None-clause-calls : goal.returns-in-None-clause-calls
returns-in-None-clause-calls g c =
    let r = c.in_ok-step.ensures in
    let key = c.in_ok-key.key in
    rw (← c.in_ok-key.ensures) (
    request_makes c.args.scene _ c.args.session.now c.args.table.now _ _ _ _ c.in_ok-step.step (λ h. to_lock h.locks (is_here h key) (bar_on h key)) c.requires.waits (λ h. refl) (λ k is part right sees. r.calls k is) r.left)
