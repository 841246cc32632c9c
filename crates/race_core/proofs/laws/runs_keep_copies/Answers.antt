-- What the proof of `laws::runs_keep_copies` needs beside the tactics.
use Rattle.race_core.specs.Copies.{IsLeastRead}
use Rattle.race_core.specs.Places.{removals_at}
use Rattle.race_core.proofs.NeedsRead.{some_least}
use Rattle.race_core.proofs.laws.runs_keep_copies.Goals as goal

pub returns : goal.returns
returns c run h = record {
  enough = λ key place x before.
      let some = some_least (removals_at run key place) x (c.removals_are_of_entries.ensures.all run key place x before) in
      let law = c.least_is_what_drops_read.ensures in
      let least : IsLeastRead run key place some.0 = record { read = law.read run key place some.0 h some.1; none_less = λ m. law.least run key place some.0 m h some.1 } in
      (some.0, least, law.count run key place some.0 h least.read least.none_less);
  leaves = λ key place e x at is. c.removals_leave_as_many.ensures.evidence run key place e x h at is;
  by_drops = λ key place e by at kind. c.each_removal_is_one_drops.ensures.enough run key place e by h at kind;
  needs = λ key place e x at is.
      let judged = c.ignored_never_count.ensures.judged run key place e x is in
      (judged.0, judged.1, c.drops_read_their_need.ensures.judged run key place e x judged.0 h at is judged.1);
}
