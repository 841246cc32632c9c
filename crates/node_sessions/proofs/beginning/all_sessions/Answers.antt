-- The sessions of one client more.
use Rattle.std.proofs.Common.{◌≡◌, ℕ, ◌+◌, ◌*◌, ◌∙◌, map, subst, arith}
use Rattle.p2p_server.specs.Talking.{place_of}
use Rattle.node_sessions.specs.Built.{AreBuilt}
use Rattle.node_sessions.proofs.Building.{places_more}
use Rattle.node_sessions.proofs.beginning.all_sessions.Goals as goal

pub loop-peer-preserved : goal.loop-peer-preserved
loop-peer-preserved c =
    let p = c.args.place.now in
    let peer = c.loop-peer.peer in
    let h = c.loop-peer.invariant in
    let e = c.push_other.ensures in
    let four : peer * 4 + 4 ≡ (peer + 1) * 4 = omega arith in record {
      places = places_more p c.args.number peer (map place_of c.loop-peer.sessions.items) (map place_of c.push_other.new.sessions.items) h.places e.places;
      built = subst (λ (m : ℕ). AreBuilt p.id p.version p.locks m c.push_other.new.sessions.items) four (e.built h.built);
      len = omega (arith, e.len, h.len);
      capacity = e.capacity ∙ h.capacity;
    }
