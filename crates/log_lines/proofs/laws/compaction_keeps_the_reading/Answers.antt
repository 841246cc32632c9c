-- What the proof of `laws::compaction_keeps_the_reading` needs beside the tactics.
use Rattle.log_lines.proofs.NewestLemmas.{alike_append}
use Rattle.log_lines.proofs.CompactLemmas.{compacted_alike, compacted_among, alike_both, kept_alike, left_out, stays}
use Rattle.log_lines.proofs.laws.compaction_keeps_the_reading.Goals as goal

pub returns-clause-alike : goal.returns-clause-alike
returns-clause-alike c = compacted_alike

pub returns-clause-later : goal.returns-clause-later
returns-clause-later c = alike_append

pub returns-clause-merged : goal.returns-clause-merged
returns-clause-merged c = λ kind xs ys others all. alike_both kind xs ys others all

pub returns-clause-kept : goal.returns-clause-kept
returns-clause-kept c = λ kind kept ever keeps. kept_alike kind keeps

pub returns-clause-within : goal.returns-clause-within
returns-clause-within c = λ kind lines line among. (compacted_among kind lines line among).0

pub returns-clause-left_out : goal.returns-clause-left_out
returns-clause-left_out c = left_out

pub returns-clause-stays : goal.returns-clause-stays
returns-clause-stays c = stays

pub returns-clause-outside : goal.returns-clause-outside
returns-clause-outside c = λ kind lines line among silent. stays kind lines line among (λ n. silent n.entry n.says)
