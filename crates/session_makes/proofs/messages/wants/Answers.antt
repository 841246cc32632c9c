-- What the proof of `messages::wants` needs beside the tactics.
use Rattle.std.proofs.Common.{sym, ap, ◌∙◌}
use Rattle.session_makes.specs.Scenes.{here_in, is_reply}
use Rattle.session_makes.proofs.ExpectingLemmas.{not_wanting}
use Rattle.session_makes.proofs.messages.wants.Goals as goal

pub returns-in_default : goal.returns-in_default
returns-in_default c = λ filled v key size.
    c.is_unexpected.ensures filled ∙ ap (is_reply c.args.scene.now) (sym (not_wanting (here_in c.args.scene.now filled) v key size c.args.message.now c.in_default.not-Error c.in_default.not-Data))
