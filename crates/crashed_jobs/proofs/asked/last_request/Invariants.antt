-- What holds at each turn of the loops of `asked::last_request`.
use Rattle.std.proofs.Common.{◌≡◌, length, reverse}
use Rattle.run_model.specs.Frames.{last_of}
use Rattle.crashed_jobs.specs.Looks.{asked_frames}
use Rattle.crashed_jobs.proofs.asked.last_request.Given as goal

abbrev pub invariant-loop-last : goal.invariant-loop-last
invariant-loop-last l = last_of (asked_frames (reverse l.before) l.repo l.frame) ≡ last_of (asked_frames (reverse l.rest) l.repo l.frame)

abbrev pub decreases-loop-last : goal.decreases-loop-last
decreases-loop-last l = length l.rest
