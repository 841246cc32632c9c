-- What the proof of `state::RepoState::start` needs beside the tactics.
use Rattle.std.proofs.Common.{refl, sym, ◌∙◌, arith}
use Rattle.step_state.specs.Bounds.{limit_after}
use Rattle.step_state.specs.Counts.{made_in}
use Rattle.step_state.specs.Places.{count_in}
use Rattle.step_state.proofs.StayLemmas.{jobs_higher, links_higher}
use Rattle.step_state.proofs.state.RepoState.start.Goals as goal

pub returns-clause-state : goal.returns-clause-state
returns-clause-state c = λ s repos number.
    let place = c.in_ok-place.ensures.place s repos number in
    record {
      parts = record {
        place = place;
        wall = refl;
        counts = c.new-counts.ensures.counts s (place.offset ∙ sym c.offset.ensures);
        rows = c.new-2.ensures s;
        links = c.new-3.ensures.links s;
        working = c.new-4.ensures.working s;
      };
      files = c.new-5.ensures s;
    }

pub returns-clause-well : goal.returns-clause-well
returns-clause-well c =
    let limit = limit_after (made_in c.new-counts.result) in
    record {
      links_below = links_higher 1 limit c.new-3.result (omega arith) c.new-3.ensures.below;
      jobs_below = jobs_higher 1 limit c.new-4.result.jobs (omega arith) c.new-4.ensures.below;
      within = c.new-4.ensures.within (count_in c.in_ok-place.place);
    }
