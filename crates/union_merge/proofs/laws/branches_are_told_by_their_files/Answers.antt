-- What the proof of `laws::branches_are_told_by_their_files` needs beside the tactics.
use Rattle.union_merge.proofs.BranchLemmas.{same_files}
use Rattle.union_merge.proofs.laws.branches_are_told_by_their_files.Goals as goal

pub returns : goal.returns
returns c = same_files
