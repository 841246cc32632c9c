-- What the proof of `laws::settings_are_those_of_the_lines_read` needs beside the tactics.
use Rattle.std.proofs.Common.{sym, ◌∙◌}
use Rattle.trust_groups.proofs.KeptLemmas.{settings_read}
use Rattle.trust_groups.proofs.MergeLemmas.{other_file}
use Rattle.trust_groups.proofs.SameLemmas.{settings-same, files_read_alike, kept_read_alike}
use Rattle.trust_groups.proofs.laws.settings_are_those_of_the_lines_read.Goals as goal

pub returns-clause-read : goal.returns-clause-read
returns-clause-read c = settings_read

pub returns-clause-kept : goal.returns-clause-kept
returns-clause-kept c = λ indices read kept ever reads same keeps.
    let all = settings_read indices read reads ∙ settings-same read ever (files_read_alike c.readings_depend_on_the_set.ensures read ever same) in
    (all ∙ sym (settings-same kept ever (kept_read_alike c.compaction_keeps_the_reading.ensures.kept kept ever keeps)), all)

pub returns-clause-other : goal.returns-clause-other
returns-clause-other c = other_file
