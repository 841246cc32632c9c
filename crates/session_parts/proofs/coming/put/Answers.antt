-- By whether bytes are asked for.
use Rattle.std.proofs.Common.{ap, sym, ◌∙◌}
use Rattle.std.proofs.lemmas.Bool.{le-leb}
use Rattle.session_state.proofs.Waiting.{in_phase, put_so, wanting_of}
use Rattle.node_model.specs.Calls.{to_offer}
use Rattle.node_model.specs.SessionStep.{is_here}
use Rattle.session_state.proofs.Making.{put_calls, request_makes}
use Rattle.session_parts.proofs.coming.put.Goals as goal

pub returns-in-Some-clause-goes : goal.returns-in-Some-clause-goes
returns-in-Some-clause-goes g c = λ file.
    let s = c.args.session.now in
    let r = c.in_ok-step.ensures in
    put_so c.args.scene file c.args.key.now s _ c.args.table.now c.put.new.table _ _ _ _ _ _ _ _ c.in_ok-step.wanting c.in_ok-step.step c.requires.waits
    ((λ j. in_phase s.place s.spoken (c.begin.ensures j)) ∙ ap (λ o. in_phase s.place s.spoken (wanting_of o)) (sym c.in-Some.is))
    c.requires.at (le-leb 1 s.spoken c.requires.spoken) r.does r.after c.put.ensures.bars r.fits r.given r.filled r.next r.plain r.still r.fed c.put.ensures.holds c.put.ensures.parts
    (rw (c.put.ensures.records, c.put.ensures.holds) c.requires.agrees) c.put.ensures.later r.cause

pub returns-in-None-clause-goes : goal.returns-in-None-clause-goes
returns-in-None-clause-goes g c = λ file.
    let s = c.args.session.now in
    let r = c.in_ok-step.ensures in
    put_so c.args.scene file c.args.key.now s s c.args.table.now c.put.new.table _ _ _ _ _ _ _ _ c.in_ok-step.wanting c.in_ok-step.step c.requires.waits
    ((λ j. in_phase s.place s.spoken (c.requires.waits j)) ∙ ap (λ o. in_phase s.place s.spoken (wanting_of o)) (sym c.in-None.is))
    c.requires.at (le-leb 1 s.spoken c.requires.spoken) r.does r.after c.put.ensures.bars r.fits r.given r.filled r.next r.plain r.still r.fed c.put.ensures.holds c.put.ensures.parts
    (rw (c.put.ensures.records, c.put.ensures.holds) c.requires.agrees) c.put.ensures.later r.cause

pub returns-in-Some-clause-calls : goal.returns-in-Some-clause-calls
returns-in-Some-clause-calls g c = λ file.
    let r = c.in_ok-step.ensures in
    let key = c.args.key.now in
    request_makes c.args.scene _ c.args.session.now c.args.table.now _ _ _ _ c.in_ok-step.step (λ h. to_offer h.part (is_here h key) (h.filled key)) c.requires.waits
    (λ h. put_calls h c.args.session.now.spoken file key (le-leb 1 c.args.session.now.spoken c.requires.spoken)) (λ k is part right sees. r.calls k is part sees) r.left

pub returns-in-None-clause-calls : goal.returns-in-None-clause-calls
returns-in-None-clause-calls g c = λ file.
    let r = c.in_ok-step.ensures in
    let key = c.args.key.now in
    request_makes c.args.scene _ c.args.session.now c.args.table.now _ _ _ _ c.in_ok-step.step (λ h. to_offer h.part (is_here h key) (h.filled key)) c.requires.waits
    (λ h. put_calls h c.args.session.now.spoken file key (le-leb 1 c.args.session.now.spoken c.requires.spoken)) (λ k is part right sees. r.calls k is part sees) r.left

pub returns-in-Some-clause-contents : goal.returns-in-Some-clause-contents
returns-in-Some-clause-contents g c = c.put.ensures.contents ∙ sym (c.in_ok-step.ensures.leaves _ _)

pub returns-in-None-clause-contents : goal.returns-in-None-clause-contents
returns-in-None-clause-contents g c = c.put.ensures.contents ∙ sym (c.in_ok-step.ensures.leaves _ _)
