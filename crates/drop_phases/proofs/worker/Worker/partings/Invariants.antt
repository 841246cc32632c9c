-- What holds at each turn of the loops of `worker::Worker::partings`.
use Rattle.std.proofs.Common.{◌≡◌, flat_map}
use Rattle.std.specs.List.{range_with_len}
use Rattle.node_model.specs.Evidence.{but}
use Rattle.drop_phases.specs.Working.{frames_of, parting_at}
use Rattle.drop_phases.proofs.worker.Worker.partings.Given as goal

-- the parcels are those to the peers that were passed
abbrev pub invariant-loop-peer : goal.invariant-loop-peer
invariant-loop-peer g l =
    frames_of (g.H.Here.ends l.here) l.self.slot l.parcels.items ≡ flat_map (parting_at (g.H.Here.ends l.here) l.self l.lost) (but l.repo (range_with_len 0 l.peer))
