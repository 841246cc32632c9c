-- The run is a start of that of a driver that is sound, and what holds of runs holds of it.
use Rattle.std.proofs.Common.{sym, subst}
use Rattle.run_model.specs.Run.{IsRun}
use Rattle.driver_model.specs.Driver.{at_first}
use Rattle.driver_model.proofs.Driven.{first_holds}
use Rattle.driver_model.proofs.OwedKeys.{owed_keys}
use Rattle.driver_model.proofs.Premises.{Laws}
use Rattle.block_model.proofs.Stops.{lines_stop, start_within}
use Rattle.block_model.proofs.laws.stopped_runs_are_runs.Goals as goal

pub returns-clause-run : goal.returns-clause-run
returns-clause-run c g lines run repos all x fits =
    let laws : Laws = record {
      entries = record {
        finds = c.steps_find_their_cause.ensures;
        takes = c.own_entries_suit_their_ends.ensures.takes;
        sends = c.own_entries_suit_their_ends.ensures.sends;
      };
      at_hand = c.steps_take_what_is_at_hand.ensures.at_hand;
      names = record {
        answers = c.steps_name_their_jobs.ensures.answers;
        gives = c.steps_name_their_jobs.ensures.gives;
        goes = c.steps_name_their_jobs.ensures.goes;
        takes = c.steps_name_their_jobs.ensures.takes;
        calls = record { fails = c.steps_tell_their_calls.ensures.fails; same = c.steps_tell_their_calls.ensures.same };
      };
      first = c.runs_grow.ensures.first;
      others = c.frames_go_to_others.ensures.sent;
      same_job = c.running_jobs_stay_the_same.ensures;
      entry = c.runs_grow.ensures.entry;
      tree = c.runs_grow.ensures.tree;
      command = c.runs_grow.ensures.command;
      unions = c.unions_have_the_lines_of_both.ensures.set;
      differs = c.differences_make_the_union.ensures.set;
      lacking = c.differences_make_the_union.ensures.lacking;
      file_again = c.files_have_their_paths.ensures.file;
      key_text = c.key_texts_have_no_fault.ensures.sound;
    } in
    subst IsRun (sym x.is) (start_within c.runs_grow.ensures.start g x.driver (lines_stop laws (owed_keys laws) g lines at_first x.driver all tt x.stops (λ f. first_holds laws g repos) fits).run)

pub returns-clause-copies : goal.returns-clause-copies
returns-clause-copies c g lines run repos all x fits = c.runs_keep_copies.ensures run (returns-clause-run c g lines run repos all x fits)

pub returns-clause-safe : goal.returns-clause-safe
returns-clause-safe c g lines run repos all x fits = c.runs_are_safe.ensures run (returns-clause-run c g lines run repos all x fits)

pub returns-clause-causes : goal.returns-clause-causes
returns-clause-causes c g lines run repos all x fits = c.refusals_have_causes.ensures run (returns-clause-run c g lines run repos all x fits)
