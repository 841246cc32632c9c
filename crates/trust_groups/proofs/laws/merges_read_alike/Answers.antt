-- What the proof of `laws::merges_read_alike` needs beside the tactics.
use Rattle.trust_groups.proofs.MergeLemmas.{own_files, added_files, compacted_files, merged_files, any_order}
use Rattle.trust_groups.proofs.laws.merges_read_alike.Goals as goal

pub returns-clause-own : goal.returns-clause-own
returns-clause-own c = own_files

pub returns-clause-compacted : goal.returns-clause-compacted
returns-clause-compacted c = compacted_files

pub returns-clause-added : goal.returns-clause-added
returns-clause-added c = added_files

pub returns-clause-merged : goal.returns-clause-merged
returns-clause-merged c = merged_files c.unions_have_the_lines_of_both.ensures.either c.merges_have_the_files_of_both.ensures.lines

pub returns-clause-order : goal.returns-clause-order
returns-clause-order c = any_order c.any_order_of_merges_gives_one_branch.ensures.start
