-- What the proof of `carrying::carry_slots` needs beside the tactics.
use Rattle.std.proofs.Common.{rules, ◌<◌, true, false}
use Rattle.node_ends.specs.Ends.{link_at}
use Rattle.node_ends.specs.Joined.{end_with}
use Rattle.node_ends.proofs.Joining.{not_yet, one_more, paired_still}
use Rattle.node_ends.proofs.carrying.carry_slots.Goals as goal

pub carry_slot-requires-clause-client : goal.carry_slot-requires-clause-client
carry_slot-requires-clause-client c =
    let a = c.args.a_number in
    let b = c.args.b_number in
    let n = c.loop-slot.slot in
    let xs = c.args.a.now.items in
    let ys = c.args.b.now.items in
    let low : n < 4 = search rules in
    paired_still (link_at xs (end_with b n true)) (link_at c.loop-slot.a.items (end_with b n true)) (link_at ys (end_with a n false)) (link_at c.loop-slot.b.items (end_with a n false))
    (not_yet n a b true xs c.loop-slot.a.items ys c.loop-slot.invariant.first) (not_yet n b a false ys c.loop-slot.b.items xs c.loop-slot.invariant.second)
    (c.requires.joined n true low)

pub carry_slot-requires-clause-server : goal.carry_slot-requires-clause-server
carry_slot-requires-clause-server c =
    let a = c.args.a_number in
    let b = c.args.b_number in
    let n = c.loop-slot.slot in
    let xs = c.args.a.now.items in
    let ys = c.args.b.now.items in
    let low : n < 4 = search rules in
    paired_still (link_at xs (end_with b n false)) (link_at c.loop-slot.a.items (end_with b n false)) (link_at ys (end_with a n true)) (link_at c.loop-slot.b.items (end_with a n true))
    (not_yet n a b false xs c.loop-slot.a.items ys c.loop-slot.invariant.first) (not_yet n b a true ys c.loop-slot.b.items xs c.loop-slot.invariant.second)
    (c.requires.joined n false low)

pub loop-slot-preserved : goal.loop-slot-preserved
loop-slot-preserved c =
    let a = c.args.a_number in
    let b = c.args.b_number in
    let n = c.loop-slot.slot in
    let xs = c.args.a.now.items in
    let ys = c.args.b.now.items in
    let first = c.loop-slot.invariant.first in
    let second = c.loop-slot.invariant.second in
    record {
      first = one_more n a b xs c.loop-slot.a.items c.carry_slot.new.a.items ys c.loop-slot.b.items first c.carry_slot.ensures.first (λ client. not_yet n b a client ys c.loop-slot.b.items xs second);
      second = one_more n b a ys c.loop-slot.b.items c.carry_slot.new.b.items xs c.loop-slot.a.items second c.carry_slot.ensures.second (λ client. not_yet n a b client xs c.loop-slot.a.items ys first);
      close_a = c.carry_slot.ensures.close_a;
      close_b = c.carry_slot.ensures.close_b;
    }
