-- The driven run is a run by the laws below, and so is each start of it.
use Rattle.driver_model.specs.Driving.{run_of}
use Rattle.driver_model.proofs.Driven.{driver_is_run}
use Rattle.driver_model.proofs.Premises.{Laws}
use Rattle.driver_model.proofs.OwedKeys.{owed_keys}
use Rattle.driver_model.proofs.laws.driven_runs_are_runs.Goals as goal

pub returns-clause-run : goal.returns-clause-run
returns-clause-run c g lines repos all fits =
    let laws : Laws = record {
      entries = record {
        finds = c.steps_find_their_cause.ensures;
        takes = c.own_entries_suit_their_ends.ensures.takes;
        sends = c.own_entries_suit_their_ends.ensures.sends;
      };
      at_hand = c.steps_take_what_is_at_hand.ensures.at_hand;
      names = record {
        answers = c.steps_name_their_jobs.ensures.answers;
        gives = c.steps_name_their_jobs.ensures.gives;
        goes = c.steps_name_their_jobs.ensures.goes;
        takes = c.steps_name_their_jobs.ensures.takes;
        calls = record { fails = c.steps_tell_their_calls.ensures.fails; same = c.steps_tell_their_calls.ensures.same };
      };
      first = c.runs_grow.ensures.first;
      others = c.frames_go_to_others.ensures.sent;
      same_job = c.running_jobs_stay_the_same.ensures;
      entry = c.runs_grow.ensures.entry;
      tree = c.runs_grow.ensures.tree;
      command = c.runs_grow.ensures.command;
      unions = c.unions_have_the_lines_of_both.ensures.set;
      differs = c.differences_make_the_union.ensures.set;
      lacking = c.differences_make_the_union.ensures.lacking;
      file_again = c.files_have_their_paths.ensures.file;
      key_text = c.key_texts_have_no_fault.ensures.sound;
    } in
    driver_is_run laws (owed_keys laws) g lines repos all fits

pub returns-clause-start : goal.returns-clause-start
returns-clause-start c g lines place repos all fits within = c.runs_grow.ensures.start (run_of g lines) place within (returns-clause-run c g lines repos all fits)
