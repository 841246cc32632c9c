-- What is left of a past that is too long, and what a line leaves as it is.
use Rattle.driver_model.proofs.FullHistories.{asks_full, not_too_long, stop_entries, stop_later, stop_too_long}
use Rattle.driver_model.proofs.LimitedRuns.{whole_run}
use Rattle.driver_model.proofs.TreeAndMarks.{line_marks, line_same, turn_same}
use Rattle.driver_model.proofs.limits.runs_are_cut_where_histories_are_full.Goals as goal

pub returns : goal.returns
returns c = record {
  cut = stop_too_long;
  entries = stop_entries;
  later = stop_later;
  asks = asks_full;
  few = not_too_long;
  marks = line_marks;
  tree = λ g line d plain. (line_same g line d plain).1;
  step = λ g r d. (turn_same g r d).1;
  whole = whole_run;
}
