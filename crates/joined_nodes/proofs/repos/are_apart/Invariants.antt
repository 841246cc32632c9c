-- Those that were passed are apart from all that follow.
use Rattle.std.proofs.Common.{◌≡◌, drop}
use Rattle.joined_nodes.specs.Apart.{are_apart}
use Rattle.joined_nodes.proofs.repos.are_apart.Given as goal

abbrev pub invariant-loop-place : goal.invariant-loop-place
invariant-loop-place l = are_apart l.repos ≡ are_apart (drop l.place l.repos)
