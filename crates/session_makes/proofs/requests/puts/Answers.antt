-- What the proof of `requests::puts` needs beside the tactics.
use Rattle.node_model.specs.SessionStep.{is_filled, on_put}
use Rattle.session_makes.specs.Scenes.{here_in}
use Rattle.session_makes.proofs.requests.puts.Goals as goal

pub returns : goal.returns
returns c = λ s st file same is.
    c.or_unexpected.ensures (is_filled s st) (on_put (here_in c.args.scene.now (is_filled s st)) c.args.key.now) (c.offers.ensures s st same is)
