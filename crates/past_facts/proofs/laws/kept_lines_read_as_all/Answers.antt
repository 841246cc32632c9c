-- What the proof of `laws::kept_lines_read_as_all` needs beside the tactics.
use Rattle.std.proofs.Common.{ap}
use Rattle.union_merge.specs.Branch.{or_none}
use Rattle.step_facts.proofs.Below.{LogLaws}
use Rattle.past_facts.proofs.LogLemmas.{kept_reads_as_ever}
use Rattle.past_facts.proofs.laws.kept_lines_read_as_all.Goals as goal

pub returns : goal.returns
returns c =
    let laws : LogLaws = record {
      by_set = c.readings_depend_on_the_set.ensures;
      compaction = c.compaction_keeps_the_reading.ensures.alike;
      joined = c.compaction_keeps_the_reading.ensures.merged;
      of_both = c.unions_have_the_lines_of_both.ensures.either;
      set = λ files path lines. ap or_none (c.files_are_changed_alone.ensures.there files path lines);
      set_others = c.files_are_changed_alone.ensures.other;
      kinds = c.paths_tell_their_kind.ensures;
      alike = c.equal_lines_read_alike.ensures.readings;
    } in
    kept_reads_as_ever laws
