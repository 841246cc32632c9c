-- The lines of both texts, and lines behind a fault.
use Rattle.std.proofs.Common.{ap, ◌∙◌}
use Rattle.script_lang.specs.Script.{lines_of, lines_reading, no_lines, reading}
use Rattle.script_lang.proofs.LawLemmas.{stopped, lines_joined}
use Rattle.script_lang.proofs.laws.later_lines_change_no_fault.Goals as goal

pub returns : goal.returns
unfolding reading
returns c text more fault wrong = ap (lines_reading no_lines 1) (lines_joined text more) ∙ stopped (lines_of text) (lines_of more) no_lines 1 fault wrong
