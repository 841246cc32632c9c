-- What the proof of `rests::group_words` needs beside the tactics.
use Rattle.std.proofs.Common.{◌≡◌, ◌∙◌, ◌+◌, ◌-◌, ap, sym, length, arith, rules}
use Rattle.script_steps.proofs.GroupLemmas.{groups_more}
use Rattle.script_steps.proofs.rests.group_words.Goals as goal

pub loop-preserved : goal.loop-preserved
loop-preserved c =
    (groups_more (length c.line.result.now + 1 - c.loop.counter) (length c.line.result.now + 1 - (c.loop.counter + 1)) c.loop.groups c.push.new.self c.loop.words c.next.new.self c.in-Word.word (omega arith) c.in-Word.ensures.found (grind arith) c.in-Word.ensures.cursor (grind arith) ∙ c.loop.invariant.0, grind arith)
