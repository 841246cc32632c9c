-- The sessions of the clients before this one.
use Rattle.std.proofs.Common.{◌≡◌, ◌≤◌, ◌*◌, map, vec_len}
use Rattle.std.specs.Prelude.{vec_capacity}
use Rattle.std.specs.List.{range_with_len}
use Rattle.node_model.specs.Evidence.{but}
use Rattle.p2p_server.specs.Talking.{place_of}
use Rattle.node_sessions.specs.Built.{AreBuilt, places_in}
use Rattle.node_sessions.proofs.beginning.all_sessions.Given as goal

abbrev pub invariant-loop-peer : goal.invariant-loop-peer
invariant-loop-peer l = record {
  places : map place_of l.sessions.items ≡ places_in l.place (but l.number (range_with_len 0 l.peer));
  built : AreBuilt l.place.id l.place.version l.place.locks (l.peer * 4) l.sessions.items;
  len : vec_len l.sessions ≤ l.peer * 4;
  capacity : vec_capacity l.sessions ≡ l.count * 4;
}
