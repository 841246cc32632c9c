-- After a line that is right the numbers go on behind it.
use Rattle.std.proofs.Common.{rules}
use Rattle.script_lang.proofs.NumberLemmas.{numbers_next}
use Rattle.script_lang.proofs.numbering.numbers_of.Goals as goal

pub loop-i-preserved : goal.loop-i-preserved
loop-i-preserved c =
    numbers_next (λ w. w.now) c.args.lines.now c.loop-i.i _ c.loop-i.state _ c.loop-i.numbers.items _ _ c.loop-i-test.true c.loop-i.invariant
    (c.in_ok-note_line.ensures.line (search rules))
    (c.in_ok-note_line.ensures.added (search rules))
