-- A merge goes path by path, and leaves the lines of both branches where these are well formed, as those of a run are.
use Rattle.run_model.specs.Logs.{branch}
use Rattle.driver_model.proofs.MergedLines.{MergeLaws, merged_by_path, merged_union, none_merged, others_merged}
use Rattle.driver_model.proofs.merges.merges_leave_the_union.Goals as goal

pub returns : goal.returns
returns c =
    let laws : MergeLaws = record {
      again = c.files_have_their_paths.ensures.path;
      line = c.files_have_their_paths.ensures.line;
      set = c.files_are_changed_alone.ensures.set;
      unions = c.unions_have_the_lines_of_both.ensures.set;
      both = c.merges_by_path_have_the_lines_of_both.ensures.lines;
      log = c.runs_log_lines.ensures;
    } in
    record {
      union = merged_union laws;
      files = λ r other d well. merged_by_path laws.again r (branch d.past other) d well;
      failed = λ r other q d fails. none_merged r q (branch d.past other) d fails;
      others = λ r other q d apart. others_merged r q apart (branch d.past other) d;
    }
