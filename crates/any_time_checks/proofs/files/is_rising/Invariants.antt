-- What holds at each turn of the loop of `files::is_rising`.
use Rattle.std.proofs.Common.{◌≡◌, drop, option_copied}
use Rattle.step_judging.specs.Rules.{is_rising}
use Rattle.any_time_checks.specs.Coming.{rise_behind}
use Rattle.any_time_checks.proofs.files.is_rising.Given as goal

abbrev pub invariant-loop-line : goal.invariant-loop-line
invariant-loop-line l = rise_behind (option_copied l.last) (drop l.line-index l.lines) ≡ is_rising l.lines
