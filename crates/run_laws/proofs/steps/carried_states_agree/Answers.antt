-- What the proof of `steps::carried_states_agree` needs beside the tactics.
use Rattle.std.specs.Prelude.{reverse}
use Rattle.run_model.specs.Run.{set_up}
use Rattle.std.proofs.Common.{ap}
use Rattle.union_merge.specs.Branch.{or_none}
use Rattle.step_facts.proofs.Below.{LogLaws, SentAreRead}
use Rattle.past_facts.proofs.OwnRuns.{own_past}
use Rattle.run_laws.proofs.States.{states_agree, step_states}
use Rattle.run_laws.proofs.steps.carried_states_agree.Goals as goal

pub returns : goal.returns
returns c =
    let laws : LogLaws = record {
      by_set = c.readings_depend_on_the_set.ensures;
      compaction = c.compaction_keeps_the_reading.ensures.alike;
      joined = c.compaction_keeps_the_reading.ensures.merged;
      of_both = c.unions_have_the_lines_of_both.ensures.either;
      set = λ files path lines. ap or_none (c.files_are_changed_alone.ensures.there files path lines);
      set_others = c.files_are_changed_alone.ensures.other;
      kinds = c.paths_tell_their_kind.ensures;
      alike = c.equal_lines_read_alike.ensures.readings;
    } in
    let read : SentAreRead = c.sent_messages_are_read.ensures.read in
    record {
      states = λ run r h. states_agree laws read (set_up run r) (reverse run.entries) (own_past run h.repos r (reverse run.entries) h.steps);
      steps = λ run r k h. step_states laws read (set_up run r) (reverse run.entries) k (own_past run h.repos r (reverse run.entries) h.steps);
      own_states = states_agree laws read;
      own_steps = step_states laws read;
    }
