-- What the proof of `laws::unions_have_the_lines_of_both` needs beside the tactics.
use Rattle.union_merge.proofs.SetLemmas.{Member-union, union-left, union-right, union-is_set, union-nil}
use Rattle.union_merge.proofs.MergeLemmas.{swap_cases, union_comm, union_assoc, union_idem}
use Rattle.union_merge.proofs.laws.unions_have_the_lines_of_both.Goals as goal

pub returns : goal.returns
returns c = record {
  set = λ xs ys first second. union-is_set xs ys first second.each;
  either = λ xs ys line. (Member-union line xs ys, λ one. swap_cases (union-right line xs ys) (union-left line xs ys) one);
  commutes = union_comm;
  associates = union_assoc;
  idempotent = union_idem;
  alone = λ xs is. union-nil xs is.sorted;
}
