-- What holds at each turn of the loops of `making::partings`.
use Rattle.std.proofs.Common.{◌≡◌, flat_map}
use Rattle.std.specs.List.{range_with_len}
use Rattle.node_model.specs.Evidence.{but}
use Rattle.transfer_turns.specs.Parcels.{AreNoPieces, frames_of}
use Rattle.transfer_turns.specs.Turns.{parting_at}
use Rattle.transfer_turns.proofs.making.partings.Given as goal

-- the parcels are those to the peers that were passed, and no pieces
abbrev pub invariant-loop-peer : goal.invariant-loop-peer
invariant-loop-peer g l =
    (frames_of (g.H.Here.sight l.here).ends l.slot l.parcels.items ≡ flat_map (parting_at (g.H.Here.sight l.here) l.slot) (but l.repo (range_with_len 0 l.peer))) × AreNoPieces l.parcels.items
