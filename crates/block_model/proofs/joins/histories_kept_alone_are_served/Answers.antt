-- Each two that meet give what the stores serve of the merged run, by the laws below; and so it is a block.
use Rattle.driver_model.specs.Driving.{run_with}
use Rattle.driver_model.proofs.Premises.{EntryLaws}
use Rattle.block_model.proofs.KeptAlone.{all_served}
use Rattle.block_model.proofs.Merges.{has_begun, is_block}
use Rattle.block_model.proofs.joins.histories_kept_alone_are_served.Goals as goal

pub returns-clause-served : goal.returns-clause-served
returns-clause-served c g xs d news got pieces fails sound may works queues =
    let laws : EntryLaws = record {
      finds = c.steps_find_their_cause.ensures;
      takes = c.own_entries_suit_their_ends.ensures.takes;
      sends = c.own_entries_suit_their_ends.ensures.sends;
    } in
    all_served laws g d sound news got may (c.merged_histories_are_runs.ensures.merged (run_with g d) news got sound.run may) xs pieces fails works queues

pub returns-clause-begun : goal.returns-clause-begun
returns-clause-begun c g xs d news got pieces fails sound asked may works queues =
    has_begun g xs d news got fails may (c.merged_histories_are_runs.ensures.merged (run_with g d) news got sound.run may) asked
    (returns-clause-served c g xs d news got pieces fails sound may works queues) (λ r known. (works r known).worked)

pub returns-clause-block : goal.returns-clause-block
returns-clause-block c g xs d news got pieces fails sound asked may works queues done rest =
    is_block g xs d news got fails may (c.merged_histories_are_runs.ensures.merged (run_with g d) news got sound.run may) asked
    (returns-clause-served c g xs d news got pieces fails sound may works queues) (λ r known. (works r known).worked) done rest
