-- What the proof of `work::Work::hears_frame` needs beside the tactics.
use Rattle.std.proofs.Common.{◌+◌, ◌^◌, arith}
use Rattle.state_jobs.proofs.PhaseLemmas.{below_more}
use Rattle.state_jobs.proofs.work.Work.hears_frame.Goals as goal

pub returns-in-None-clause-small : goal.returns-in-None-clause-small
returns-in-None-clause-small c = λ limit le below. below_more limit (limit + 2 ^ 64) c.quiet.new.self.phase (omega arith) (c.quiet.ensures.small limit below)
