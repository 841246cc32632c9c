-- What the proof of `laws::any_order_of_merges_gives_one_branch` needs beside the tactics.
use Rattle.std.proofs.Common.{[]}
use Rattle.union_merge.proofs.BranchLemmas.{empty-is_branch}
use Rattle.union_merge.proofs.MergeLemmas.{merged_branches-order}
use Rattle.union_merge.proofs.laws.any_order_of_merges_gives_one_branch.Goals as goal

pub returns : goal.returns
returns c = record {
  start = λ start xs ys is first second same. merged_branches-order start xs ys is first second (λ b. (same b).0) (λ b. (same b).1);
  empty = λ xs ys first second same. merged_branches-order [] xs ys empty-is_branch first second (λ b. (same b).0) (λ b. (same b).1);
}
