-- What holds at each turn of the loops of `plans::read_wishes`.
use Rattle.std.proofs.Common.{◌≡◌, take}
use Rattle.sync_core.specs.Placement.{wishes_of}
use Rattle.sync_core.proofs.plans.read_wishes.Given as goal

-- the wishes of the repositories so far
abbrev pub invariant-loop-repo : goal.invariant-loop-repo
invariant-loop-repo l = l.wishes.items ≡ wishes_of l.settings (take l.repo-index l.repos)
