-- What the proof of `messages::guards` needs beside the tactics.
use Rattle.std.proofs.Common.{sym, ap, ◌∙◌}
use Rattle.session_makes.specs.Scenes.{here_in, is_reply}
use Rattle.session_makes.proofs.ExpectingLemmas.{not_guarding}
use Rattle.session_makes.proofs.messages.guards.Goals as goal

pub returns-in_default : goal.returns-in_default
returns-in_default c = λ filled v.
    c.is_unexpected.ensures filled ∙ ap (is_reply c.args.scene.now) (sym (not_guarding (here_in c.args.scene.now filled) v c.args.hold c.args.key.now c.args.message.now c.in_default.not-Error c.in_default.not-UnlockContent))
