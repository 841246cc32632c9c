-- What the proof of `places::have_frames` needs beside the tactics.
use Rattle.std.proofs.Common.{sym, ◌∙◌}
use Rattle.node_ends.proofs.Dropping.{none_dropped}
use Rattle.node_ends.proofs.places.have_frames.Goals as goal

pub returns-clause-kept : goal.returns-clause-kept
returns-clause-kept c = λ none. none_dropped c.args.ends.now (sym c.any_has_frames.ensures ∙ none)
