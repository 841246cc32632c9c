-- What the proof of `place::is_before` needs beside the tactics.
use Rattle.std.proofs.Common.{◌∙◌}
use Rattle.annex_base.proofs.TextOrder.{partial_lt-texts}
use Rattle.branch_bundle.proofs.place.is_before.Goals as goal

pub returns : goal.returns
returns c = c.lt.ensures ∙ partial_lt-texts c.args.text.now c.args.other.now
