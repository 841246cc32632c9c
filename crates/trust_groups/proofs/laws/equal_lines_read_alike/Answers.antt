-- What the proof of `laws::equal_lines_read_alike` needs beside the tactics.
use Rattle.std.proofs.Common.{sym}
use Rattle.trust_groups.proofs.SameLemmas.{settings-same, files_read_alike, compacted_read_alike, kept_read_alike}
use Rattle.trust_groups.proofs.laws.equal_lines_read_alike.Goals as goal

pub returns-clause-readings : goal.returns-clause-readings
returns-clause-readings c = settings-same

pub returns-clause-lines : goal.returns-clause-lines
returns-clause-lines c = λ x y same. settings-same x y (files_read_alike c.readings_depend_on_the_set.ensures x y same)

pub returns-clause-compacted : goal.returns-clause-compacted
returns-clause-compacted c = λ old new compacts. sym (settings-same old new (compacted_read_alike c.compaction_keeps_the_reading.ensures.alike old new compacts))

pub returns-clause-kept : goal.returns-clause-kept
returns-clause-kept c = λ kept ever keeps. settings-same kept ever (kept_read_alike c.compaction_keeps_the_reading.ensures.kept kept ever keeps)
