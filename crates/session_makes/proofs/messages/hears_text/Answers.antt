-- What the proof of `messages::hears_text` needs beside the tactics.
use Rattle.std.proofs.Common.{Option, sym, ap, ◌∙◌}
use Rattle.p2p_wire.specs.declared.message.Message.{Message}
use Rattle.node_model.specs.SessionStep.{is_filled, on_text}
use Rattle.state_sessions.specs.Doings.{as_session}
use Rattle.session_makes.specs.Scenes.{here_in, is_reply}
use Rattle.session_makes.proofs.messages.hears_text.Goals as goal

pub returns-in-None : goal.returns-in-None
returns-in-None c = λ s st same is.
    let filled = is_filled s st in
    c.is_unexpected.ensures filled
    ∙ ap (λ (o : Option Message). is_reply c.args.scene.now (on_text (here_in c.args.scene.now filled) (as_session c.args.session.now) o)) (sym c.in-None.is)
