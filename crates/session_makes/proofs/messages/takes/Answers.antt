-- What the proof of `messages::takes` needs beside the tactics.
use Rattle.std.proofs.Common.{sym, ap, ◌∙◌}
use Rattle.session_makes.specs.Scenes.{here_in, is_reply}
use Rattle.session_makes.proofs.ExpectingLemmas.{not_taking}
use Rattle.session_makes.proofs.messages.takes.Goals as goal

pub returns-in_default : goal.returns-in_default
returns-in_default c = λ filled v key size left.
    c.is_unexpected.ensures filled ∙ ap (is_reply c.args.scene.now) (sym (not_taking (here_in c.args.scene.now filled) v key size left c.args.message.now c.in_default.not-Error))
