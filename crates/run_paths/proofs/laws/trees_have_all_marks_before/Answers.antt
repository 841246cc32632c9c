-- What the proof of `laws::trees_have_all_marks_before` needs beside the tactics.
use Rattle.run_paths.proofs.Marks.{all_before, index_further, index_more}
use Rattle.run_paths.proofs.laws.trees_have_all_marks_before.Goals as goal

pub returns-clause-all : goal.returns-clause-all
returns-clause-all c = all_before

pub returns-clause-more : goal.returns-clause-more
returns-clause-more c = index_more

pub returns-clause-further : goal.returns-clause-further
returns-clause-further c = index_further
