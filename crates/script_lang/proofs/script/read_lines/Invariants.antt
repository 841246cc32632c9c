-- What the lines that are left say, after those so far, is what all lines say.
use Rattle.std.proofs.Common.{◌≡◌, ◌+◌, map, drop}
use Rattle.script_lang.specs.Script.{lines_reading, no_lines}
use Rattle.script_lang.proofs.script.read_lines.Given as goal

abbrev pub invariant-loop-i : goal.invariant-loop-i
invariant-loop-i l = lines_reading l.state (l.i + 1) (map (λ w. w.now) (drop l.i l.lines)) ≡ lines_reading no_lines 1 (map (λ w. w.now) l.lines)
