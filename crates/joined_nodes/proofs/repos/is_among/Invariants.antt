-- None of those that were passed has the identifier.
use Rattle.std.proofs.Common.{◌≡◌, drop}
use Rattle.joined_nodes.specs.Apart.{is_among}
use Rattle.joined_nodes.proofs.repos.is_among.Given as goal

abbrev pub invariant-loop-repo : goal.invariant-loop-repo
invariant-loop-repo l = is_among l.id l.repos ≡ is_among l.id (drop l.repo-index l.repos)
