-- What the proof of `owing::due` needs beside the tactics.
use Rattle.std.proofs.Common.{ap, ◌∙◌}
use Rattle.node_model.specs.OwedLines.{OwedLine}
use Rattle.hash_dirs.specs.LogPath.{location_path}
use Rattle.step_makes.proofs.owing.due.Goals as goal

pub lacking-requires-clause-path : goal.lacking-requires-clause-path
lacking-requires-clause-path c = c.bytes.ensures ∙ c.in_ok-path.ensures ∙ ap (λ (o : OwedLine). location_path o.key) c.line.view_is
