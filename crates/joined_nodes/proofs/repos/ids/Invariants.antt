-- Those of the repositories that were passed.
use Rattle.std.proofs.Common.{◌≡◌, take}
use Rattle.joined_nodes.specs.Joined.{ids_of}
use Rattle.joined_nodes.proofs.repos.ids.Given as goal

abbrev pub invariant-loop-repo : goal.invariant-loop-repo
invariant-loop-repo l = l.ids ≡ ids_of (take l.repo-index l.repos)
