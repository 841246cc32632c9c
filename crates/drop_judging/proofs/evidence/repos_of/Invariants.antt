-- The repositories of a kind among those that were passed.
use Rattle.std.proofs.Common.{◌≡◌}
use Rattle.node_model.specs.Evidence.{repos_of}
use Rattle.drop_judging.specs.Judging.{test_of}
use Rattle.drop_judging.proofs.evidence.repos_of.Given as goal

abbrev pub invariant-loop-repo : goal.invariant-loop-repo
invariant-loop-repo l = l.repos.items ≡ repos_of (test_of l.sort) l.repo l.items
