-- What the proof of `script::put_times` needs beside the tactics.
use Rattle.std.proofs.Common.{arith}
use Rattle.storm_text.proofs.Drawn.{time_more}
use Rattle.storm_text.proofs.script.put_times.Goals as goal

pub loop-done-preserved : goal.loop-done-preserved
loop-done-preserved c =
    time_more c.args.jobs _ c.loop-done.out.items _ c.loop-done.done c.loop-done.draws.state _ c.draw_time-time.result (omega arith) c.loop-done.invariant
    c.draw_time-time.ensures.state c.draw_time-time.ensures.drawn c.in_ok-put_time.ensures
