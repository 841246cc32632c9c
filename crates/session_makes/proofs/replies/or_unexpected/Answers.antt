-- What the proof of `replies::or_unexpected` needs beside the tactics.
use Rattle.std.proofs.Common.{Bool, sym, ap, ◌∙◌}
use Rattle.std.specs.Prelude.{if◌then◌else◌}
use Rattle.node_model.specs.SessionStep.{unexpected_reply}
use Rattle.session_makes.specs.Scenes.{here_in, is_reply}
use Rattle.session_makes.proofs.replies.or_unexpected.Goals as goal

pub returns-else-permitted : goal.returns-else-permitted
returns-else-permitted c = λ filled r good.
    c.is_unexpected.ensures filled
    ∙ ap (λ (b : Bool). is_reply c.args.scene.now (if b then r else unexpected_reply (here_in c.args.scene.now filled))) (sym c.if-permitted.false)
