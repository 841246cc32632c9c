-- What the proof of `holds::restart_all` needs beside the tactics.
use Rattle.std.proofs.Common.{rules}
use Rattle.std.proofs.lemmas.Map.Made.{map_same_pairs}
use Rattle.node_model.specs.Rows.{restart}
use Rattle.content_lock.proofs.holds.restart_all.Goals as goal

pub returns : goal.returns
returns c = map_same_pairs _ (restart c.args.now) _ (λ k v b w f' t. search rules) _ _ c.retain.ensures.filtered
