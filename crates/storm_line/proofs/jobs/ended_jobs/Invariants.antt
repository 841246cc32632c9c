-- What holds at each turn of the loops of `jobs::ended_jobs`.
use Rattle.std.proofs.Common.{◌≡◌, ◌≤◌, ◌+◌, ◌*◌, length, reverse}
use Rattle.std.specs.List.{range_with_len, sum_by}
use Rattle.storm_line.specs.Counts.{done_jobs, refused_jobs}
use Rattle.storm_line.proofs.jobs.ended_jobs.Given as goal

abbrev pub invariant-loop-repo : goal.invariant-loop-repo
invariant-loop-repo l = (l.all.done ≡ sum_by (done_jobs (reverse l.entries)) (range_with_len 0 l.repo))
    × (l.all.refused ≡ sum_by (refused_jobs (reverse l.entries)) (range_with_len 0 l.repo))
    × (l.all.done + l.all.refused ≤ l.repo * length l.entries)
