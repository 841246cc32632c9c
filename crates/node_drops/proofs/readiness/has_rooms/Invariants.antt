-- Those that were passed have room.
use Rattle.std.proofs.Common.{◌≡◌, drop}
use Rattle.std.specs.List.{list_all}
use Rattle.node_ends.specs.Ends.{room_at}
use Rattle.drop_worker.specs.Working.{end_in}
use Rattle.node_drops.proofs.readiness.has_rooms.Given as goal

abbrev pub invariant-loop-peer : goal.invariant-loop-peer
invariant-loop-peer l =
    record {
      same : l.ends ≡ l.initial.ends;
      rest : list_all (λ peer. room_at l.initial.ends (end_in l.slot peer)) l.peers ≡ list_all (λ peer. room_at l.initial.ends (end_in l.slot peer)) (drop l.peer-index l.peers);
    }
