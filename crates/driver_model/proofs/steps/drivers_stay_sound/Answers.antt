-- What each step keeps within bounds, from a driver that is sound.
use Rattle.script_commands.specs.declared.command.Action.TheVariants.{Set}
use Rattle.script_commands.specs.declared.command.Command.TheVariants.{Does}
use Rattle.driver_model.proofs.Driven.{first_holds, keeps_has, keeps_line, keeps_marked, keeps_part}
use Rattle.driver_model.proofs.EndsAlike.{ends_alike}
use Rattle.driver_model.proofs.Logged.{keeps_compacts, keeps_merges, keeps_writes}
use Rattle.driver_model.proofs.OwedKeys.{owed_keys}
use Rattle.driver_model.proofs.Premises.{Laws}
use Rattle.driver_model.proofs.Scripted.{keeps_begins, keeps_closes, keeps_crashes, keeps_enters, keeps_waits, keeps_will_fail}
use Rattle.driver_model.proofs.Turned.{keeps_turn}
use Rattle.driver_model.proofs.steps.drivers_stay_sound.Goals as goal

pub returns : goal.returns
returns c =
    let laws : Laws = record {
      entries = record {
        finds = c.steps_find_their_cause.ensures;
        takes = c.own_entries_suit_their_ends.ensures.takes;
        sends = c.own_entries_suit_their_ends.ensures.sends;
      };
      at_hand = c.steps_take_what_is_at_hand.ensures.at_hand;
      names = record {
        answers = c.steps_name_their_jobs.ensures.answers;
        gives = c.steps_name_their_jobs.ensures.gives;
        goes = c.steps_name_their_jobs.ensures.goes;
        takes = c.steps_name_their_jobs.ensures.takes;
        calls = record { fails = c.steps_tell_their_calls.ensures.fails; same = c.steps_tell_their_calls.ensures.same };
      };
      first = c.runs_grow.ensures.first;
      others = c.frames_go_to_others.ensures.sent;
      same_job = c.running_jobs_stay_the_same.ensures;
      entry = c.runs_grow.ensures.entry;
      tree = c.runs_grow.ensures.tree;
      command = c.runs_grow.ensures.command;
      unions = c.unions_have_the_lines_of_both.ensures.set;
      differs = c.differences_make_the_union.ensures.set;
      lacking = c.differences_make_the_union.ensures.lacking;
      file_again = c.files_have_their_paths.ensures.file;
      key_text = c.key_texts_have_no_fault.ensures.sound;
    } in
    record {
      first = λ g repos. first_holds laws g repos;
      turn = λ g r d known sound. keeps_turn laws (ends_alike laws.names) g r known d (λ f. sound);
      has = λ g r key bytes d known content sound. keeps_has laws g r known d key bytes content.0 content.1 (λ f. sound);
      part = λ g r key bytes d known sound. keeps_part laws g r known d key bytes (λ f. sound);
      sets = λ g r kind topic value d known other plain_topic plain_value sound. keeps_line laws g (owed_keys laws) (Does (Set r kind topic value)) d (known, other, plain_topic, plain_value) sound.keys (λ f. sound);
      writes = λ g r file line d known path kind is sound. keeps_writes laws g d r file line known path kind is (λ f. sound);
      merges = λ g r other d known sound. keeps_merges laws g r known (owed_keys laws) d other (λ f. sound);
      compacts = λ g r d known sound. keeps_compacts laws g r known d (λ f. sound);
      begins = λ g r job d known may sound. keeps_begins laws g d r job known may (λ f. sound);
      closes = λ g r other d known there sound. keeps_closes laws g d r other known there.0 there.1 (λ f. sound);
      crashes = λ g r clock d known sound. keeps_crashes laws g d r clock known (λ f. sound);
      waits = λ g milliseconds d sound. keeps_waits laws g d milliseconds (λ f. sound);
      enters = λ g path key d text sound. keeps_enters laws g d path key text (λ f. sound);
      will_fail = λ g r call d sound. keeps_will_fail g d r call (λ f. sound);
      mark = λ g d sound. keeps_marked laws g d (λ f. sound);
      line = λ g line d is sound. keeps_line laws g (owed_keys laws) line d is sound.keys (λ f. sound);
    }
