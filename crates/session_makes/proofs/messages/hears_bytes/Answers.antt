-- What the proof of `messages::hears_bytes` needs beside the tactics.
use Rattle.std.proofs.Common.{sym, ap, ◌∙◌}
use Rattle.node_model.specs.SessionStep.{on_bytes}
use Rattle.state_sessions.specs.Doings.{doing_of}
use Rattle.state_sessions.specs.declared.doing.Doing.{Doing}
use Rattle.session_makes.specs.Scenes.{here_in, is_reply}
use Rattle.session_makes.proofs.ExpectingLemmas.{no_bytes}
use Rattle.session_makes.proofs.messages.hears_bytes.Goals as goal

pub returns-in-Takes : goal.returns-in-Takes
returns-in-Takes c = λ filled.
    c.appends.ensures filled c.in-Takes.key c.in-Takes.size
    ∙ ap (λ (doing : Doing). is_reply c.args.scene.now (on_bytes (here_in c.args.scene.now filled) c.args.count (doing_of doing))) (sym c.in-Takes.is)

pub returns-in_default : goal.returns-in_default
returns-in_default c = λ filled.
    c.is_unexpected.ensures filled ∙ ap (is_reply c.args.scene.now) (sym (no_bytes (here_in c.args.scene.now filled) c.args.count c.args.doing.now c.in_default.not-Takes))
