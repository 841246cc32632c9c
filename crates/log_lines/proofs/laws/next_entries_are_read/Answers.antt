-- What the proof of `laws::next_entries_are_read` needs beside the tactics.
use Rattle.log_lines.proofs.NextLemmas.{next_is_newest, pushed_newer, front_newer, pushed_only, newest_of-push_other}
use Rattle.log_lines.proofs.laws.next_entries_are_read.Goals as goal

pub returns-clause-last : goal.returns-clause-last
returns-clause-last c = λ kind lines line e clock is at apart. (next_is_newest kind lines line e clock is at apart).0

pub returns-clause-first : goal.returns-clause-first
returns-clause-first c = λ kind lines line e clock is at apart. (next_is_newest kind lines line e clock is at apart).1

pub returns-clause-newer : goal.returns-clause-newer
returns-clause-newer c = pushed_newer

pub returns-clause-newer_first : goal.returns-clause-newer_first
returns-clause-newer_first c = front_newer

pub returns-clause-only : goal.returns-clause-only
returns-clause-only c = pushed_only

pub returns-clause-others : goal.returns-clause-others
returns-clause-others c = newest_of-push_other
