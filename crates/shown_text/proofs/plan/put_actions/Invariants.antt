-- What holds at each turn of the loops of `plan::put_actions`.
use Rattle.std.proofs.Common.{◌≡◌, ◌++◌, take}
use Rattle.std.specs.List.{flat_map}
use Rattle.shown_text.specs.Plans.{action_line}
use Rattle.shown_text.proofs.plan.put_actions.Given as goal

-- the lines of the actions so far
abbrev pub invariant-loop-action : goal.invariant-loop-action
invariant-loop-action l = l.out.items ≡ l.fn.out.items ++ flat_map (action_line l.repos) (take l.action-index l.actions)
