-- What the proof of `served::first_told` needs beside the tactics.
use Rattle.std.proofs.Common.{◌≡◌, ◌∷◌, List, None, sym, ap, ◌∙◌}
use Rattle.run_data.specs.declared.entry.FrameView.{FrameView}
use Rattle.step_judging.specs.Rules.{effect_of, is_effect}
use Rattle.step_judging.specs.Telling.{look_of}
use Rattle.step_judging.specs.Told.{connection_told, session_told}
use Rattle.session_makes.proofs.served.first_told.Goals as goal

pub returns-in-Some : goal.returns-in-Some
returns-in-Some c = λ s st words same is none taken.
    let e = c.args.told.now in
    let f = c.in-Some.frame.now in
    let more = c.in-Some.field-0-1.now in
    let sent : e.sent ≡ f ∷ more = sym c.as_slice.ensures ∙ c.in-Some.ensures.cases.0 in
    c.giving_told.ensures s st words more same is none taken sent
    ∙ ap (λ (fs : List FrameView). is_effect (session_told s st (look_of st words e) (connection_told None fs)) (effect_of e)) (sym sent)
