-- What the proof of `laws::equal_lines_plan_alike` needs beside the tactics.
use Rattle.wanted_rules.proofs.AlikeLemmas.{equal_alike}
use Rattle.wanted_rules.proofs.laws.equal_lines_plan_alike.Goals as goal

pub returns-clause-lines : goal.returns-clause-lines
returns-clause-lines c = λ x y same. equal_alike _ _ (c.equal_lines_read_alike.ensures.lines x y same)

pub returns-clause-compacted : goal.returns-clause-compacted
returns-clause-compacted c = λ old new compacts. equal_alike _ _ (c.equal_lines_read_alike.ensures.compacted old new compacts)

pub returns-clause-kept : goal.returns-clause-kept
returns-clause-kept c = λ kept ever keeps. equal_alike _ _ (c.equal_lines_read_alike.ensures.kept kept ever keeps)

pub returns-clause-order : goal.returns-clause-order
returns-clause-order c = λ start xs ys is all_xs all_ys same. equal_alike _ _ (c.merges_read_alike.ensures.order start xs ys is all_xs all_ys same)
