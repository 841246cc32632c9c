-- What the proof of `carrying::carry_slot` needs beside the tactics.
use Rattle.std.proofs.Common.{◌≡◌, true, false, Option, sym, subst, refl}
use Rattle.link_ring.specs.Ends.{EndView}
use Rattle.node_ends.specs.Ends.{link_at}
use Rattle.node_ends.specs.Joined.{BothPaired, end_with}
use Rattle.node_ends.proofs.Joining.{same_after, slot_carried}
use Rattle.node_ends.proofs.carrying.carry_slot.Goals as goal

pub carry_end-requires-2-clause-paired : goal.carry_end-requires-2-clause-paired
carry_end-requires-2-clause-paired c =
    let a = c.args.a_number in
    let b = c.args.b_number in
    let slot = c.args.slot in
    let first : link_at c.carry_end.new.a.items (end_with b slot false) ≡ link_at c.args.a.now.items (end_with b slot false) =
    same_after slot a b false (end_with b slot true) (end_with a slot false) c.args.a.now.items c.carry_end.new.a.items c.args.b.now.items c.carry_end.ensures.first refl in
    let second : link_at c.carry_end.new.b.items (end_with a slot true) ≡ link_at c.args.b.now.items (end_with a slot true) =
    same_after slot b a true (end_with a slot false) (end_with b slot true) c.args.b.now.items c.carry_end.new.b.items c.args.a.now.items c.carry_end.ensures.second refl in
    subst (λ (o : Option EndView). BothPaired o (link_at c.carry_end.new.b.items (end_with a slot true))) (sym first)
    (subst (λ (o : Option EndView). BothPaired (link_at c.args.a.now.items (end_with b slot false)) o) (sym second) c.requires.server)

pub returns-clause-first : goal.returns-clause-first
returns-clause-first c =
    let a = c.args.a_number in
    let b = c.args.b_number in
    let slot = c.args.slot in
    slot_carried a b slot true c.args.a.now.items c.carry_end.new.a.items c.carry_end-2.new.a.items c.args.b.now.items c.carry_end.new.b.items
    c.carry_end.ensures.first c.carry_end-2.ensures.first
    (same_after slot b a true (end_with a slot false) (end_with b slot true) c.args.b.now.items c.carry_end.new.b.items c.args.a.now.items c.carry_end.ensures.second refl)

pub returns-clause-second : goal.returns-clause-second
returns-clause-second c =
    let a = c.args.a_number in
    let b = c.args.b_number in
    let slot = c.args.slot in
    slot_carried b a slot false c.args.b.now.items c.carry_end.new.b.items c.carry_end-2.new.b.items c.args.a.now.items c.carry_end.new.a.items
    c.carry_end.ensures.second c.carry_end-2.ensures.second
    (same_after slot a b false (end_with b slot true) (end_with a slot false) c.args.a.now.items c.carry_end.new.a.items c.args.b.now.items c.carry_end.ensures.first refl)
