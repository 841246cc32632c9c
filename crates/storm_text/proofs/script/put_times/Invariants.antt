-- What holds at each turn of the loops of `script::put_times`.
use Rattle.std.proofs.Common.{◌≡◌, ◌+◌, ◌++◌, ◌-◌}
use Rattle.storm_script.specs.Storm.{times}
use Rattle.storm_text.proofs.script.put_times.Given as goal

abbrev pub invariant-loop-done : goal.invariant-loop-done
invariant-loop-done l = l.fn.out.items ++ times l.jobs 1 l.fn.draws.state ≡ l.out.items ++ times (l.jobs - l.done) (l.done + 1) l.draws.state
