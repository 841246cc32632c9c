-- What the proof of `state::RepoState::ready` needs beside the tactics.
use Rattle.step_state.proofs.StayLemmas.{heard_was, well_stays, working_same}
use Rattle.step_state.proofs.state.RepoState.ready.Goals as goal

pub returns-clause-change : goal.returns-clause-change
returns-clause-change c =
    let was = c.args.self.now in
    record {
      change_is = record {
        rows = c.in_ok-rows.ensures.change;
        heard = heard_was was.rows c.ready.new.self c.args.entry.now c.in_ok-heard.heard c.ready.ensures.same c.in_ok-heard.ensures.heard;
        jobs = c.in_ok-working.ensures.change.jobs;
        within = c.in_ok-working.ensures.change.within;
      };
      so = λ s st had is. c.in_ok-working.ensures.change.so s st is.parts.place had is.parts.wall is.files is.parts.working;
    }

pub returns-in_err-heard-clause-well : goal.returns-in_err-heard-clause-well
returns-in_err-heard-clause-well c =
    let was = c.args.self.now in
    well_stays was.place was.counts was.links c.ready-2.new.self was.working was.working c.ready-2.ensures.same (working_same was.working) c.requires.well

pub returns-in_err-working-clause-well : goal.returns-in_err-working-clause-well
returns-in_err-working-clause-well c =
    let was = c.args.self.now in
    well_stays was.place was.counts was.links c.ready-2.new.self was.working c.ready-3.new.self c.ready-2.ensures.same c.ready-3.ensures.same c.requires.well

pub returns-clause-well : goal.returns-clause-well
returns-clause-well c =
    let was = c.args.self.now in
    well_stays was.place was.counts was.links c.ready-2.new.self was.working c.ready-3.new.self c.ready-2.ensures.same c.ready-3.ensures.same c.requires.well
