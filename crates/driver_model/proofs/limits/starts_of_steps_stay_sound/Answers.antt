-- What the start of a step keeps within bounds, from a driver that is sound.
use Rattle.driver_model.proofs.Driven.{keeps_placed}
use Rattle.driver_model.proofs.Logged.{keeps_compacted, keeps_merge_start}
use Rattle.driver_model.proofs.OwedKeys.{owed_keys}
use Rattle.driver_model.proofs.Premises.{Laws}
use Rattle.driver_model.proofs.limits.starts_of_steps_stay_sound.Goals as goal

pub returns : goal.returns
returns c =
    let laws : Laws = record {
      entries = record {
        finds = c.steps_find_their_cause.ensures;
        takes = c.own_entries_suit_their_ends.ensures.takes;
        sends = c.own_entries_suit_their_ends.ensures.sends;
      };
      at_hand = c.steps_take_what_is_at_hand.ensures.at_hand;
      names = record {
        answers = c.steps_name_their_jobs.ensures.answers;
        gives = c.steps_name_their_jobs.ensures.gives;
        goes = c.steps_name_their_jobs.ensures.goes;
        takes = c.steps_name_their_jobs.ensures.takes;
        calls = record { fails = c.steps_tell_their_calls.ensures.fails; same = c.steps_tell_their_calls.ensures.same };
      };
      first = c.runs_grow.ensures.first;
      others = c.frames_go_to_others.ensures.sent;
      same_job = c.running_jobs_stay_the_same.ensures;
      entry = c.runs_grow.ensures.entry;
      tree = c.runs_grow.ensures.tree;
      command = c.runs_grow.ensures.command;
      unions = c.unions_have_the_lines_of_both.ensures.set;
      differs = c.differences_make_the_union.ensures.set;
      lacking = c.differences_make_the_union.ensures.lacking;
      file_again = c.files_have_their_paths.ensures.file;
      key_text = c.key_texts_have_no_fault.ensures.sound;
    } in
    record {
      merges = λ g r other done left d known whole sound. keeps_merge_start laws g r known (owed_keys laws) d other done left whole sound;
      compacts = λ g r done left d known whole sound. keeps_compacted laws g r known done d (λ f. sound);
      content = λ g r key bytes d known content free sound. keeps_placed laws g r known d key bytes content.1 free (λ f. sound);
    }
