-- Those of one repository after the other.
use Rattle.std.proofs.Common.{◌∙◌, refl, arith}
use Rattle.node_crash.proofs.Closes.{sends_more, sends_none}
use Rattle.node_crash.proofs.closing.close_each.Goals as goal

pub loop-peer-init : goal.loop-peer-init
loop-peer-init c = record { closes = sends_none c.args.stamp c.args.ends.now c.args.sent.now.items; len = omega arith; capacity = refl }

pub close_other-requires-clause-there : goal.close_other-requires-clause-there
close_other-requires-clause-there c = λ a peer low.
    c.loop-peer.invariant.closes.there a (c.ends_are_there.ensures.there c.args.ends.now c.args.count a c.requires.count (omega (arith, peer, c.loop-peer-test.true)) low)

pub loop-peer-preserved : goal.loop-peer-preserved
loop-peer-preserved c =
    let h = c.loop-peer.invariant in
    let e = c.close_other.ensures in record {
      closes = sends_more c.args.own c.loop-peer.peer c.args.stamp c.args.ends.now c.loop-peer.ends c.close_other.new.ends c.args.sent.now.items c.loop-peer.sent.items c.close_other.new.sent.items h.closes e.closes;
      len = omega (arith, e.len, h.len);
      capacity = e.capacity ∙ h.capacity;
    }
