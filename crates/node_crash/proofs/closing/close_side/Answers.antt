-- One end after the other.
use Rattle.std.proofs.Common.{[], ◌∷◌, ℕ, refl, arith}
use Rattle.node_model.specs.Ends.{EndName}
use Rattle.node_crash.proofs.Closes.{sends_then, slot_end, slots_apart}
use Rattle.node_crash.proofs.closing.close_side.Goals as goal

pub close_end-requires-clause-there : goal.close_end-requires-clause-there
close_end-requires-clause-there c = c.requires.there (slot_end c.args.peer c.args.client 0) refl (omega arith)

pub close_end-requires-2-clause-there : goal.close_end-requires-2-clause-there
close_end-requires-2-clause-there c =
    let a = slot_end c.args.peer c.args.client 1 in
    c.close_end.ensures.closes.there a (c.requires.there a refl (omega arith))

pub close_end-requires-3-clause-there : goal.close_end-requires-3-clause-there
close_end-requires-3-clause-there c =
    let a = slot_end c.args.peer c.args.client 2 in
    c.close_end-2.ensures.closes.there a (c.close_end.ensures.closes.there a (c.requires.there a refl (omega arith)))

pub close_end-requires-4-clause-there : goal.close_end-requires-4-clause-there
close_end-requires-4-clause-there c =
    let a = slot_end c.args.peer c.args.client 3 in
    c.close_end-3.ensures.closes.there a (c.close_end-2.ensures.closes.there a (c.close_end.ensures.closes.there a (c.requires.there a refl (omega arith))))

pub returns-clause-closes : goal.returns-clause-closes
returns-clause-closes c =
    let at : ℕ → EndName = slot_end c.args.peer c.args.client in
    let apart = slots_apart c.args.peer c.args.client in
    let two = sends_then (at 0 ∷ []) (at 1 ∷ []) c.args.stamp c.args.ends.now c.close_end.new.ends c.close_end-2.new.ends c.args.sent.now.items c.close_end.new.sent.items c.close_end-2.new.sent.items c.close_end.ensures.closes c.close_end-2.ensures.closes apart.0 in
    let three = sends_then (at 0 ∷ at 1 ∷ []) (at 2 ∷ []) c.args.stamp c.args.ends.now c.close_end-2.new.ends c.close_end-3.new.ends c.args.sent.now.items c.close_end-2.new.sent.items c.close_end-3.new.sent.items two c.close_end-3.ensures.closes apart.1 in
    sends_then (at 0 ∷ at 1 ∷ at 2 ∷ []) (at 3 ∷ []) c.args.stamp c.args.ends.now c.close_end-3.new.ends c.close_end-4.new.ends c.args.sent.now.items c.close_end-3.new.sent.items c.close_end-4.new.sent.items three c.close_end-4.ensures.closes apart.2
