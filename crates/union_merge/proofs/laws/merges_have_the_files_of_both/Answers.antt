-- What the proof of `laws::merges_have_the_files_of_both` needs beside the tactics.
use Rattle.union_merge.proofs.MergeLemmas.{swap_cases, Paths-merged_branch, merged_branch-path_left, merged_branch-path_right, merged_branch-is_branch, lines_at-merged_branch, merged_comm, merged_assoc, merged_idem}
use Rattle.union_merge.proofs.laws.merges_have_the_files_of_both.Goals as goal

pub returns : goal.returns
returns c = record {
  branch = λ xs ys first second. merged_branch-is_branch xs ys first second.each;
  files = λ xs ys path. (Paths-merged_branch path xs ys, λ one. swap_cases (merged_branch-path_right path xs ys) (merged_branch-path_left path xs ys) one);
  lines = λ xs ys path first second. lines_at-merged_branch path xs ys first second;
  commutes = merged_comm;
  associates = merged_assoc;
  idempotent = merged_idem;
}
