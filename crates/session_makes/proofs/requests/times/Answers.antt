-- What the proof of `requests::times` needs beside the tactics.
use Rattle.std.proofs.Common.{◌/◌, None}
use Rattle.run_data.specs.declared.entry.EntryKind.TheVariants.{Talk}
use Rattle.p2p_wire.specs.declared.message.Message.TheVariants.{Timestamp}
use Rattle.node_model.specs.SessionStep.{reply}
use Rattle.session_makes.proofs.requests.times.Goals as goal

pub returns : goal.returns
returns c = λ filled. c.or_unexpected.ensures filled (reply (Talk None) (Timestamp (c.args.scene.now.clock / 1000))) c.tells_time.ensures
