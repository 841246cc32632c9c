-- What the proof of `adding::add_drops_from` needs beside the tactics.
use Rattle.wanted_rules.specs.declared.action.Action.TheVariants.{DropFrom}
use Rattle.sync_core.specs.Placement.{spares_at}
use Rattle.sync_core.proofs.PlanLemmas.{more_peers}
use Rattle.sync_core.proofs.adding.add_drops_from.Goals as goal

pub loop-peer-preserved : goal.loop-peer-preserved
loop-peer-preserved c =
    let placement = c.args.placement.now in
    more_peers (λ peer. DropFrom placement.key peer) (spares_at placement) c.args.here c.loop-peer.peer _ _ _ c.loop-peer.invariant c.in_ok-add_drop_from.ensures
