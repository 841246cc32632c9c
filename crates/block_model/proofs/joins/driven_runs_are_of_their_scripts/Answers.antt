-- The driver leads from each line to the next: what it makes of a block is one.
use Rattle.std.proofs.Common.{refl, subst, sym}
use Rattle.driver_model.specs.Driver.{at_first}
use Rattle.driver_model.specs.Driving.{driver_after}
use Rattle.driver_model.proofs.Driven.{first_holds}
use Rattle.driver_model.proofs.LimitedRuns.{whole_run}
use Rattle.driver_model.proofs.OwedKeys.{owed_keys}
use Rattle.driver_model.proofs.Premises.{Laws}
use Rattle.block_model.specs.Leading.{IsRunOf}
use Rattle.block_model.proofs.Leads.{drives_lead, nothing_short, singles_lead, uncut}
use Rattle.block_model.proofs.joins.driven_runs_are_of_their_scripts.Goals as goal

pub returns-clause-blocks : goal.returns-clause-blocks
returns-clause-blocks c g lines repos sixteen all fits short places =
    let laws : Laws = record {
      entries = record {
        finds = c.steps_find_their_cause.ensures;
        takes = c.own_entries_suit_their_ends.ensures.takes;
        sends = c.own_entries_suit_their_ends.ensures.sends;
      };
      at_hand = c.steps_take_what_is_at_hand.ensures.at_hand;
      names = record {
        answers = c.steps_name_their_jobs.ensures.answers;
        gives = c.steps_name_their_jobs.ensures.gives;
        goes = c.steps_name_their_jobs.ensures.goes;
        takes = c.steps_name_their_jobs.ensures.takes;
        calls = record { fails = c.steps_tell_their_calls.ensures.fails; same = c.steps_tell_their_calls.ensures.same };
      };
      first = c.runs_grow.ensures.first;
      others = c.frames_go_to_others.ensures.sent;
      same_job = c.running_jobs_stay_the_same.ensures;
      entry = c.runs_grow.ensures.entry;
      tree = c.runs_grow.ensures.tree;
      command = c.runs_grow.ensures.command;
      unions = c.unions_have_the_lines_of_both.ensures.set;
      differs = c.differences_make_the_union.ensures.set;
      lacking = c.differences_make_the_union.ensures.lacking;
      file_again = c.files_have_their_paths.ensures.file;
      key_text = c.key_texts_have_no_fault.ensures.sound;
    } in
    record { driver = driver_after g lines; leads = drives_lead laws (owed_keys laws) g sixteen lines at_first all tt (λ f. first_holds laws g repos) fits short places; is = refl }

pub returns-clause-whole : goal.returns-clause-whole
returns-clause-whole c g lines repos sixteen all fits whole =
    let x = uncut g lines at_first (nothing_short g) whole in
    subst (IsRunOf g lines) (sym (whole_run g lines whole)) (returns-clause-blocks c g lines repos sixteen all fits x.0 x.1)

pub returns-clause-single : goal.returns-clause-single
returns-clause-single c g lines all = record { driver = driver_after g lines; leads = singles_lead g lines at_first all; is = refl }
