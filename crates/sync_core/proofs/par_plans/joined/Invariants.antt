-- What holds at each turn of the loops of `par_plans::joined`.
use Rattle.std.proofs.Common.{◌≡◌, flat_map}
use Rattle.sync_core.proofs.par_plans.joined.Given as goal

-- the parts so far, one after the other
abbrev pub invariant-loop-part : goal.invariant-loop-part
invariant-loop-part l = l.actions.items ≡ flat_map (λ part. part.items) l.yielded
