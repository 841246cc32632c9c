-- What the proof of `claims::claims_are_trusted_items` needs beside the tactics.
use Rattle.race_core.proofs.ClaimSources.{claim_was}
use Rattle.race_core.proofs.claims.claims_are_trusted_items.Goals as goal

pub returns : goal.returns
returns c = claim_was
