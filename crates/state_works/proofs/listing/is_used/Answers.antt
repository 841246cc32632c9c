-- What the proof of `listing::is_used` needs beside the tactics.
use Rattle.std.proofs.Common.{◌∙◌}
use Rattle.state_works.proofs.WorkLemmas.{uses_is}
use Rattle.state_works.proofs.listing.is_used.Goals as goal

pub returns : goal.returns
returns c = c.has_slot.ensures ∙ uses_is c.args.running.now c.args.slot
