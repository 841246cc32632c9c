-- What the proof of `carrying::carry_two` needs beside the tactics.
use Rattle.std.proofs.Common.{get_or, arith}
use Rattle.joined_nodes.proofs.Carried.{at_back, at_front, numbered_joined, parts_after}
use Rattle.joined_nodes.proofs.carrying.carry_two.Goals as goal

pub carry_nodes-requires : goal.carry_nodes-requires
carry_nodes-requires g c =
    let nodes = c.args.nodes.now in
    let fs = c.split_at_mut-before.result.0.now in
    let bs = c.split_at_mut-before.result.1.now in
    let split = c.split_at_mut-before.ensures in
    record {
      joined = numbered_joined nodes c.args.low c.args.high (get_or fs c.args.low c.index-before-low.result) (get_or bs 0 c.index-from-0.result) c.requires.nodes (λ e. omega (arith, c.requires.order, e))
          (at_front nodes fs bs c.args.low c.index-before-low.result split.value (omega (arith, split.front_len, c.requires.order)))
          (at_back nodes fs bs c.args.high c.index-from-0.result split.value split.front_len c.requires.there);
    }

pub returns-clause-carried : goal.returns-clause-carried
returns-clause-carried g c =
    let nodes = c.args.nodes.now in
    let fs = c.split_at_mut-before.result.0.now in
    let bs = c.split_at_mut-before.result.1.now in
    let split = c.split_at_mut-before.ensures in
    let so = c.carry_nodes.ensures in
    (parts_after (record { other = c.ends_stay_joined.ensures.other; elsewhere = c.ends_stay_joined.ensures.elsewhere }) nodes fs bs c.args.low c.args.high
    (get_or fs c.args.low c.index-before-low.result) (get_or bs 0 c.index-from-0.result) c.carry_nodes.new.a c.carry_nodes.new.b split.value split.front_len c.requires.order c.requires.nodes
    (at_front nodes fs bs c.args.low c.index-before-low.result split.value (omega (arith, split.front_len, c.requires.order)))
    (at_back nodes fs bs c.args.high c.index-from-0.result split.value split.front_len c.requires.there)
    (record { joined = so.joined; first = so.first; second = so.second; rest = so.rest; other_rest = so.other_rest })).0

pub returns-clause-nodes : goal.returns-clause-nodes
returns-clause-nodes g c =
    let nodes = c.args.nodes.now in
    let fs = c.split_at_mut-before.result.0.now in
    let bs = c.split_at_mut-before.result.1.now in
    let split = c.split_at_mut-before.ensures in
    let so = c.carry_nodes.ensures in
    (parts_after (record { other = c.ends_stay_joined.ensures.other; elsewhere = c.ends_stay_joined.ensures.elsewhere }) nodes fs bs c.args.low c.args.high
    (get_or fs c.args.low c.index-before-low.result) (get_or bs 0 c.index-from-0.result) c.carry_nodes.new.a c.carry_nodes.new.b split.value split.front_len c.requires.order c.requires.nodes
    (at_front nodes fs bs c.args.low c.index-before-low.result split.value (omega (arith, split.front_len, c.requires.order)))
    (at_back nodes fs bs c.args.high c.index-from-0.result split.value split.front_len c.requires.there)
    (record { joined = so.joined; first = so.first; second = so.second; rest = so.rest; other_rest = so.other_rest })).1
