-- What holds at each turn of the loops of `begun::begun_job`.
use Rattle.std.proofs.Common.{◌≡◌, length, reverse}
use Rattle.run_model.specs.Past.{begun_job}
use Rattle.journal_text.proofs.begun.begun_job.Given as goal

abbrev pub invariant-loop-last : goal.invariant-loop-last
invariant-loop-last l = begun_job (reverse l.before) l.repo l.number ≡ begun_job (reverse l.rest) l.repo l.number

abbrev pub decreases-loop-last : goal.decreases-loop-last
decreases-loop-last l = length l.rest
