-- Those that were passed are set up.
use Rattle.std.proofs.Common.{take}
use Rattle.annex_base.specs.Lists.{Each}
use Rattle.run_data.specs.Repos.{IsSetUp}
use Rattle.joined_nodes.proofs.repos.are_set_up.Given as goal

abbrev pub invariant-loop-repo : goal.invariant-loop-repo
invariant-loop-repo l = Each IsSetUp (take l.repo-index l.repos)
