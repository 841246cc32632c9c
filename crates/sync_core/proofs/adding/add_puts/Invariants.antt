-- What holds at each turn of the loops of `adding::add_puts`.
use Rattle.std.proofs.Common.{◌≡◌, ◌++◌, filter, map}
use Rattle.std.specs.List.{range_with_len}
use Rattle.wanted_rules.specs.declared.action.Action.TheVariants.{Put}
use Rattle.sync_core.specs.Placement.{lacks_at, peers_among}
use Rattle.sync_core.proofs.adding.add_puts.Given as goal

-- those peers so far that lack the content are given it
abbrev pub invariant-loop-peer : goal.invariant-loop-peer
invariant-loop-peer l =
    l.actions.items ≡ l.fn.actions.items ++ map (λ peer. Put l.placement.key peer) (filter (lacks_at l.placement) (peers_among l.here (range_with_len 0 l.peer)))
