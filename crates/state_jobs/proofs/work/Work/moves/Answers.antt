-- What the proof of `work::Work::moves` needs beside the tactics.
use Rattle.std.proofs.Common.{◌+◌, ◌^◌, arith}
use Rattle.state_jobs.proofs.PhaseLemmas.{below_more}
use Rattle.state_jobs.proofs.work.Work.moves.Goals as goal

pub returns-in-Fault-clause-small : goal.returns-in-Fault-clause-small
returns-in-Fault-clause-small c = λ limit le below. below_more limit (limit + 2 ^ 64) c.fault.new.self.phase (omega arith) (c.fault.ensures.small limit below)
