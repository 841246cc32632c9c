-- What the proof of `filling::write_filling` needs beside the tactics.
use Rattle.std.proofs.Common.{arith}
use Rattle.script_words.proofs.FillLemmas.{fill_more}
use Rattle.script_words.proofs.filling.write_filling.Goals as goal

pub loop-at-preserved : goal.loop-at-preserved
loop-at-preserved c =
    (rw c.loop-at.invariant.0 (fill_more c.loop-at.at c.args.first c.args.room.now (omega (arith, c.loop-at-test.true, c.requires.fits))), omega (arith, c.loop-at-test.true), c.loop-at.invariant.2)
