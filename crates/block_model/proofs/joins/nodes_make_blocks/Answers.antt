-- Nodes keep what is asked of a merge, and of each repository alone; so their histories are a block, by the laws below.
use Rattle.std.proofs.Common.{◌≡◌, false, refl, subst, sym}
use Rattle.run_model.specs.Past.{begun_count}
use Rattle.growth_laws.specs.Merged.{merge_all, merged_run, new_of}
use Rattle.driver_model.specs.Driver.{at_first, state_at}
use Rattle.driver_model.specs.Driving.{run_with}
use Rattle.script_commands.specs.declared.command.Command.TheVariants.{Par}
use Rattle.driver_model.specs.Rounds.{settles}
use Rattle.driver_model.proofs.Premises.{EntryLaws}
use Rattle.run_model.specs.Run.{set_up}
use Rattle.block_model.specs.Alone.{IsAlone, alone}
use Rattle.block_model.specs.Blocks.{left_after, with_fails}
use Rattle.block_model.proofs.OtherPaths.{owns_to}
use Rattle.block_model.specs.Doings.{can_go_on}
use Rattle.block_model.proofs.KeptAlone.{all_served, stores_left}
use Rattle.block_model.proofs.Leads.{lead_on}
use Rattle.block_model.proofs.Merges.{has_begun, is_block}
use Rattle.block_model.proofs.NodesJoin.{left_is, nodes_may, queues, works}
use Rattle.block_model.proofs.joins.nodes_make_blocks.Goals as goal

pub returns-clause-run : goal.returns-clause-run
returns-clause-run c g xs d news count paths got pieces fails sound x =
    let laws : EntryLaws = record {
      finds = c.steps_find_their_cause.ensures;
      takes = c.own_entries_suit_their_ends.ensures.takes;
      sends = c.own_entries_suit_their_ends.ensures.sends;
    } in
    c.merged_histories_are_runs.ensures.merged (run_with g d) news got sound.run (nodes_may laws g d sound xs news count paths got pieces fails x)

pub returns-clause-begun : goal.returns-clause-begun
returns-clause-begun c g xs d news count paths got pieces fails sound x =
    let laws : EntryLaws = record {
      finds = c.steps_find_their_cause.ensures;
      takes = c.own_entries_suit_their_ends.ensures.takes;
      sends = c.own_entries_suit_their_ends.ensures.sends;
    } in
    let may = nodes_may laws g d sound xs news count paths got pieces fails x in
    let merged = c.merged_histories_are_runs.ensures.merged (run_with g d) news got sound.run may in
    let alone = works laws g d sound xs news count paths got pieces fails x merged in
    has_begun g xs d news got fails may merged x.asked (all_served laws g d sound news got may merged xs pieces fails alone (queues laws g d sound xs news count paths got pieces fails x merged)) (λ r known. (alone r known).worked)

pub returns-clause-block : goal.returns-clause-block
returns-clause-block c g xs d news count paths got pieces fails sound x over =
    let laws : EntryLaws = record {
      finds = c.steps_find_their_cause.ensures;
      takes = c.own_entries_suit_their_ends.ensures.takes;
      sends = c.own_entries_suit_their_ends.ensures.sends;
    } in
    let may = nodes_may laws g d sound xs news count paths got pieces fails x in
    let merged = c.merged_histories_are_runs.ensures.merged (run_with g d) news got sound.run may in
    let alone = works laws g d sound xs news count paths got pieces fails x merged in
    is_block g xs d news got fails may merged x.asked (all_served laws g d sound news got may merged xs pieces fails alone (queues laws g d sound xs news count paths got pieces fails x merged)) (λ r known. (alone r known).worked)
    (λ r known. subst (λ ls. can_go_on (begun_count d.past r) (state_at g (left_after g (merge_all news) fails d) r) ls ≡ false) (sym (left_is laws g d sound xs news count paths got pieces fails x merged r known)) (over.done r known)) over.rest

pub returns-clause-leads : goal.returns-clause-leads
returns-clause-leads c g lines xs d news count paths got pieces fails led sound x over =
    lead_on g lines (Par xs) at_first d (settles g (left_after g (merge_all news) fails d)) led
    (left_after g (merge_all news) fails d, returns-clause-block c g xs d news count paths got pieces fails sound x over, refl)

pub returns-clause-stores : goal.returns-clause-stores
returns-clause-stores c g xs d news count paths got pieces fails sound x r =
    let laws : EntryLaws = record {
      finds = c.steps_find_their_cause.ensures;
      takes = c.own_entries_suit_their_ends.ensures.takes;
      sends = c.own_entries_suit_their_ends.ensures.sends;
    } in
    let may = nodes_may laws g d sound xs news count paths got pieces fails x in
    let merged = c.merged_histories_are_runs.ensures.merged (run_with g d) news got sound.run may in
    subst (IsAlone (left_after g (merge_all news) fails d) r)
    (sym (owns_to g.repos r (paths r) (set_up (merged_run (run_with g d) news) r).paths (pieces r) (new_of news r) (alone (with_fails fails d) r)))
    (stores_left laws g d sound news got may merged xs pieces fails (works laws g d sound xs news count paths got pieces fails x merged) (queues laws g d sound xs news count paths got pieces fails x merged) r)
