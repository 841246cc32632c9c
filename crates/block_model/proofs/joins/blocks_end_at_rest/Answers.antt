-- No old frame is left, and no step is ready.
use Rattle.block_model.specs.Blocks.{with_fails}
use Rattle.block_model.specs.Following.{after_entries}
use Rattle.block_model.proofs.Resting.{block_rests}
use Rattle.block_model.proofs.joins.blocks_end_at_rest.Goals as goal

pub returns : goal.returns
returns c g xs d after x = block_rests g after (after_entries g x.begun.entries (with_fails x.begun.fails d)) x.begun.after_is x.rest
