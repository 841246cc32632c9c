-- What holds at each turn of the loops of `set_up::read_repos`.
use Rattle.std.proofs.Common.{◌≡◌, ◌≤◌, ◌+◌, [], length}
use Rattle.journal_reading.specs.Reading.{repos_in}
use Rattle.journal_reader.specs.Steps.{lines_in}
use Rattle.journal_reader.proofs.set_up.read_repos.Given as goal

abbrev pub invariant-loop-repos : goal.invariant-loop-repos
invariant-loop-repos l = record {
  repos : repos_in [] (lines_in l.text) ≡ repos_in l.repos (lines_in l.rest);
  few : length l.repos + length l.rest ≤ length l.text;
}

abbrev pub decreases-loop-repos : goal.decreases-loop-repos
decreases-loop-repos l = length l.rest
