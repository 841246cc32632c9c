-- What the proof of `laws::differences_make_the_union` needs beside the tactics.
use Rattle.union_merge.proofs.DifferenceLemmas.{difference-is_set, difference-parts, difference-from, union-difference}
use Rattle.union_merge.proofs.laws.differences_make_the_union.Goals as goal

pub returns : goal.returns
returns c = record {
  set = difference-is_set;
  lacking = λ xs ys line. (difference-parts line xs ys, λ both. difference-from line xs ys both.0 both.1);
  union = λ xs ys is. union-difference xs ys is.sorted;
}
