-- One has the client and slot.
use Rattle.std.proofs.Common.{◌<◌, length, arith}
use Rattle.std.proofs.lemmas.Option.{slice_get_within}
use Rattle.node_sessions.specs.Sessions.{connection_of}
use Rattle.node_sessions.proofs.Leaving.{member_place}
use Rattle.node_sessions.proofs.ending.find_session.Goals as goal

pub unreachable-requires : goal.unreachable-requires
unreachable-requires c =
    let xs = c.args.sessions.now in
    let h = member_place connection_of xs (c.args.peer, c.args.slot) c.requires in
    let within : h.0 < length xs = slice_get_within xs h.0 h.1 h.2 in c.loop-at.invariant h.0 h.1 (omega (arith, within, c.loop-at-test.false)) h.2 h.3
