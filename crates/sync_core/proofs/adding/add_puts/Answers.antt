-- What the proof of `adding::add_puts` needs beside the tactics.
use Rattle.wanted_rules.specs.declared.action.Action.TheVariants.{Put}
use Rattle.sync_core.specs.Placement.{lacks_at}
use Rattle.sync_core.proofs.PlanLemmas.{more_peers}
use Rattle.sync_core.proofs.adding.add_puts.Goals as goal

pub loop-peer-preserved : goal.loop-peer-preserved
loop-peer-preserved c =
    let placement = c.args.placement.now in
    more_peers (λ peer. Put placement.key peer) (lacks_at placement) c.args.here c.loop-peer.peer _ _ _ c.loop-peer.invariant c.in_ok-add_put.ensures
