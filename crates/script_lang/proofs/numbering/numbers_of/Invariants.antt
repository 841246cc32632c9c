-- The numbers so far, and those that the lines that are left give, are all numbers.
use Rattle.std.proofs.Common.{◌≡◌, ◌+◌, ◌++◌, map, drop}
use Rattle.script_lang.specs.Numbering.{numbers_from}
use Rattle.script_lang.specs.Script.{no_lines}
use Rattle.script_lang.proofs.numbering.numbers_of.Given as goal

abbrev pub invariant-loop-i : goal.invariant-loop-i
invariant-loop-i l = l.numbers.items ++ numbers_from l.state (l.i + 1) (map (λ w. w.now) (drop l.i l.lines)) ≡ numbers_from no_lines 1 (map (λ w. w.now) l.lines)
