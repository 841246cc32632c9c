-- Merged histories are a run by the law below, and so each of their entries may follow.
use Rattle.growth_laws.specs.Merged.{merge_all}
use Rattle.driver_model.specs.Driving.{run_with}
use Rattle.block_model.proofs.Merges.{has_begun, is_block, run_is}
use Rattle.block_model.proofs.joins.merged_histories_are_blocks.Goals as goal

pub returns : goal.returns
returns c = record {
  begun = λ g xs d news got fails sound known may served works. has_begun g xs d news got fails may (c.merged_histories_are_runs.ensures.merged (run_with g d) news got sound.run may) known served works;
  block = λ g xs d news got fails sound known may served works done rest. is_block g xs d news got fails may (c.merged_histories_are_runs.ensures.merged (run_with g d) news got sound.run may) known served works done rest;
  run = λ g d news fails. run_is g d (merge_all news) fails;
}
