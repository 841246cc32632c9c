-- What the proof of `messages::took` needs beside the tactics.
use Rattle.std.proofs.Common.{sym, ap, ◌∙◌}
use Rattle.session_makes.specs.Scenes.{here_in, is_reply}
use Rattle.session_makes.proofs.ExpectingLemmas.{not_taken}
use Rattle.session_makes.proofs.messages.took.Goals as goal

pub returns-in_default : goal.returns-in_default
returns-in_default c = λ filled v.
    c.is_unexpected.ensures filled ∙ ap (is_reply c.args.scene.now) (sym (not_taken (here_in c.args.scene.now filled) v c.args.key.now c.args.size c.args.message.now c.in_default.not-Error c.in_default.not-Valid c.in_default.not-Invalid))
