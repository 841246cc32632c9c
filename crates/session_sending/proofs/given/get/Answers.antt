-- By whether the content can be read.
use Rattle.std.proofs.Common.{[], ◌∷◌, ap, sym, ◌∙◌}
use Rattle.std.proofs.lemmas.Bool.{le-leb}
use Rattle.session_state.proofs.Waiting.{get_so, giving_of, in_phase, spoken_of}
use Rattle.annex_base.specs.declared.kinds.Call.TheVariants as calls
use Rattle.session_state.proofs.Making.{get_calls, request_makes}
use Rattle.session_sending.proofs.given.get.Goals as goal

pub returns-in-Some-clause-goes : goal.returns-in-Some-clause-goes
returns-in-Some-clause-goes g c = λ file.
    let s = c.args.session.now in
    let r = c.in_ok-step.ensures in
    get_so c.args.scene c.args.start file c.args.key.now s _ c.args.table.now _ _ _ _ _ _ _ _ c.in_ok-step.giving c.in_ok-step.step c.requires.waits
    ((λ j. in_phase s.place s.spoken (c.begin.ensures j)) ∙ ap (λ o. in_phase s.place (spoken_of o s.spoken) (giving_of o)) (sym c.in-Some.is))
    c.requires.at (le-leb 1 s.spoken c.requires.spoken) r.does r.after r.fits r.given r.lost r.plain r.still c.get.ensures.parts
    (rw c.get.ensures.records c.requires.agrees) c.get.ensures.later r.cause

pub returns-in-None-clause-goes : goal.returns-in-None-clause-goes
returns-in-None-clause-goes g c = λ file.
    let s = c.args.session.now in
    let r = c.in_ok-step.ensures in
    get_so c.args.scene c.args.start file c.args.key.now s _ c.args.table.now _ _ _ _ _ _ _ _ c.in_ok-step.giving c.in_ok-step.step c.requires.waits
    ((λ j. in_phase s.place 0 (c.requires.waits j)) ∙ ap (λ o. in_phase s.place (spoken_of o s.spoken) (giving_of o)) (sym c.in-None.is))
    c.requires.at (le-leb 1 s.spoken c.requires.spoken) r.does r.after r.fits r.given r.lost r.plain r.still c.get.ensures.parts
    (rw c.get.ensures.records c.requires.agrees) c.get.ensures.later r.cause

pub returns-in-Some-clause-calls : goal.returns-in-Some-clause-calls
returns-in-Some-clause-calls g c = λ file.
    let r = c.in_ok-step.ensures in
    request_makes c.args.scene _ c.args.session.now c.args.table.now _ _ _ _ c.in_ok-step.step (λ h. calls.Size ∷ []) c.requires.waits
    (λ h. get_calls h c.args.session.now.spoken _ file _ (le-leb 1 c.args.session.now.spoken c.requires.spoken)) (λ k is part right sees. r.calls) r.calls.left

pub returns-in-None-clause-calls : goal.returns-in-None-clause-calls
returns-in-None-clause-calls g c = λ file.
    let r = c.in_ok-step.ensures in
    request_makes c.args.scene _ c.args.session.now c.args.table.now _ _ _ _ c.in_ok-step.step (λ h. calls.Size ∷ []) c.requires.waits
    (λ h. get_calls h c.args.session.now.spoken _ file _ (le-leb 1 c.args.session.now.spoken c.requires.spoken)) (λ k is part right sees. r.calls) r.calls.left

pub returns-in-Some-clause-contents : goal.returns-in-Some-clause-contents
returns-in-Some-clause-contents g c = c.get.ensures.contents ∙ sym (c.in_ok-step.ensures.leaves _ _)

pub returns-in-None-clause-contents : goal.returns-in-None-clause-contents
returns-in-None-clause-contents g c = c.get.ensures.contents ∙ sym (c.in_ok-step.ensures.leaves _ _)
