-- What the proof of `laws::files_are_changed_alone` needs beside the tactics.
use Rattle.std.proofs.Common.{Some, ap, ◌∙◌}
use Rattle.union_merge.proofs.BranchLemmas.{file_at-there, lines_at-is_set, lines_at-with_file_other, lines_at-with_file_same, with_file-new}
use Rattle.union_merge.proofs.UndoneLemmas.{put_back-whole}
use Rattle.union_merge.specs.Branch.{with_file}
use Rattle.union_merge.proofs.laws.files_are_changed_alone.Goals as goal

pub returns : goal.returns
returns c = record {
  set = λ files path is. lines_at-is_set files path is.each;
  there = λ files path lines. file_at-there (with_file files path lines) path (with_file-new path files lines) ∙ ap Some (lines_at-with_file_same files path lines);
  other = λ files path other lines apart. lines_at-with_file_other files path other lines apart;
  back = λ files path lines is. put_back-whole files path lines is.sorted;
}
