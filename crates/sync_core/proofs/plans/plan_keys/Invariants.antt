-- What holds at each turn of the loops of `plans::plan_keys`.
use Rattle.std.proofs.Common.{◌≡◌, take}
use Rattle.sync_core.specs.KeyPlans.{plan_of_keys}
use Rattle.sync_core.proofs.plans.plan_keys.Given as goal

-- the plan for the keys so far
abbrev pub invariant-loop-key : goal.invariant-loop-key
invariant-loop-key l = l.actions.items ≡ plan_of_keys l.settings l.tree l.here l.repos (take l.key-index l.keys)
