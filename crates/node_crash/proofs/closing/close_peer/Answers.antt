-- One side after the other.
use Rattle.std.proofs.Common.{true, false}
use Rattle.node_model.specs.AnyTime.{ends_with}
use Rattle.node_crash.proofs.Closes.{sends_then, sides_apart}
use Rattle.node_crash.proofs.closing.close_peer.Goals as goal

pub close_side-requires-clause-there : goal.close_side-requires-clause-there
close_side-requires-clause-there c = c.requires.there

pub close_side-requires-2-clause-there : goal.close_side-requires-2-clause-there
close_side-requires-2-clause-there c = λ a peer low. c.close_side.ensures.closes.there a (c.requires.there a peer low)

pub returns-clause-closes : goal.returns-clause-closes
returns-clause-closes c =
    sends_then (ends_with c.args.peer true) (ends_with c.args.peer false) c.args.stamp c.args.ends.now c.close_side.new.ends c.close_side-2.new.ends c.args.sent.now.items c.close_side.new.sent.items c.close_side-2.new.sent.items
    c.close_side.ensures.closes c.close_side-2.ensures.closes (sides_apart c.args.peer)
