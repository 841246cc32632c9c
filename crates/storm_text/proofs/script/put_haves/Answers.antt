-- What the proof of `script::put_haves` needs beside the tactics.
use Rattle.std.proofs.Common.{arith}
use Rattle.storm_text.proofs.Drawn.{have_end, have_more, state_end, state_more}
use Rattle.storm_text.proofs.script.put_haves.Goals as goal

pub loop-count-preserved : goal.loop-count-preserved
loop-count-preserved c = (
  have_more c.args.contents _ c.loop-count.out.items _ c.loop-count.count c.loop-count.draws.state _ _ (omega arith) c.loop-count.invariant.0 c.draw-repo.ensures.state
      c.draw-repo.ensures.drawn c.in_ok-put_have_line.ensures,
  state_more c.args.contents _ c.loop-count.count c.loop-count.draws.state _ (omega arith) c.loop-count.invariant.1 c.draw-repo.ensures.state,
)

pub returns-clause-text : goal.returns-clause-text
returns-clause-text c = have_end c.args.contents _ c.loop-count.out.items c.loop-count.count c.loop-count.draws.state (omega arith) c.loop-count.invariant.0

pub returns-clause-state : goal.returns-clause-state
returns-clause-state c = state_end c.args.contents _ c.loop-count.count c.loop-count.draws.state (omega arith) c.loop-count.invariant.1
