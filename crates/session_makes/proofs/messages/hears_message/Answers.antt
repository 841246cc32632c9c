-- What the proof of `messages::hears_message` needs beside the tactics.
use Rattle.std.proofs.Common.{sym, ap, ◌∙◌}
use Rattle.node_model.specs.SessionStep.{is_filled, on_message}
use Rattle.state_sessions.specs.Doings.{doing_of}
use Rattle.state_sessions.specs.declared.doing.Doing.{Doing}
use Rattle.session_makes.specs.Scenes.{here_in, is_reply}
use Rattle.session_makes.proofs.messages.hears_message.Goals as goal

pub returns-in-Waits : goal.returns-in-Waits
returns-in-Waits c = λ s st same is.
    let filled = is_filled s st in
    c.waits.ensures s st same is ∙ ap (λ (doing : Doing). is_reply c.args.scene.now (on_message (here_in c.args.scene.now filled) c.args.version (doing_of doing) c.args.message.now)) (sym c.in-Waits.is)

pub returns-in-Guards : goal.returns-in-Guards
returns-in-Guards c = λ s st same is.
    let filled = is_filled s st in
    c.guards.ensures filled c.args.version ∙ ap (λ (doing : Doing). is_reply c.args.scene.now (on_message (here_in c.args.scene.now filled) c.args.version (doing_of doing) c.args.message.now)) (sym c.in-Guards.is)

pub returns-in-Gives : goal.returns-in-Gives
returns-in-Gives c = λ s st same is.
    let filled = is_filled s st in
    c.gives.ensures filled c.args.version c.in-Gives.key c.in-Gives.at c.in-Gives.left c.in-Gives.good ∙ ap (λ (doing : Doing). is_reply c.args.scene.now (on_message (here_in c.args.scene.now filled) c.args.version (doing_of doing) c.args.message.now)) (sym c.in-Gives.is)

pub returns-in-Gave : goal.returns-in-Gave
returns-in-Gave c = λ s st same is.
    let filled = is_filled s st in
    c.gave.ensures filled c.args.version ∙ ap (λ (doing : Doing). is_reply c.args.scene.now (on_message (here_in c.args.scene.now filled) c.args.version (doing_of doing) c.args.message.now)) (sym c.in-Gave.is)

pub returns-in-Wants : goal.returns-in-Wants
returns-in-Wants c = λ s st same is.
    let filled = is_filled s st in
    c.wants.ensures filled c.args.version c.in-Wants.key c.in-Wants.size ∙ ap (λ (doing : Doing). is_reply c.args.scene.now (on_message (here_in c.args.scene.now filled) c.args.version (doing_of doing) c.args.message.now)) (sym c.in-Wants.is)

pub returns-in-Takes : goal.returns-in-Takes
returns-in-Takes c = λ s st same is.
    let filled = is_filled s st in
    c.takes.ensures filled c.args.version c.in-Takes.key c.in-Takes.size c.in-Takes.left ∙ ap (λ (doing : Doing). is_reply c.args.scene.now (on_message (here_in c.args.scene.now filled) c.args.version (doing_of doing) c.args.message.now)) (sym c.in-Takes.is)

pub returns-in-Took : goal.returns-in-Took
returns-in-Took c = λ s st same is.
    let filled = is_filled s st in
    c.took.ensures filled c.args.version ∙ ap (λ (doing : Doing). is_reply c.args.scene.now (on_message (here_in c.args.scene.now filled) c.args.version (doing_of doing) c.args.message.now)) (sym c.in-Took.is)
