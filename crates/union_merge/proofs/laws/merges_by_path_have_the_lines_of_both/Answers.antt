-- What the proof of `laws::merges_by_path_have_the_lines_of_both` needs beside the tactics.
use Rattle.union_merge.proofs.PathLemmas.{merge_by_path-is_branch, lines_at-merge_by_path, merge_by_path-whole}
use Rattle.union_merge.proofs.laws.merges_by_path_have_the_lines_of_both.Goals as goal

pub returns : goal.returns
returns c = record {
  branch = λ xs ys first second. merge_by_path-is_branch xs ys first second.each;
  lines = λ xs ys first second path. lines_at-merge_by_path path xs ys first second;
  whole = λ xs ys first second some. merge_by_path-whole xs ys first second.each some;
}
