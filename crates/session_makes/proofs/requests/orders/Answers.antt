-- What the proof of `requests::orders` needs beside the tactics.
use Rattle.node_model.specs.SessionStep.{on_remove_before}
use Rattle.session_makes.specs.Scenes.{here_in}
use Rattle.session_makes.proofs.requests.orders.Goals as goal

pub returns : goal.returns
returns c = λ filled.
    c.or_unexpected.ensures filled (on_remove_before (here_in c.args.scene.now filled) c.args.before c.args.key.now) (c.removes_before.ensures filled)
