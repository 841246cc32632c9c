-- What the proof of `closing::close_each` needs beside the tactics.
use Rattle.std.proofs.Common.{◌≡◌, ◌+◌, List, true, drop, is_some, map, subst, ap, arith}
use Rattle.std.specs.Prelude.{vec_len}
use Rattle.annex_base.specs.Lists.{Each}
use Rattle.node_ends.specs.declared.name.EndId.{EndId}
use Rattle.node_ends.specs.Ends.{link_at, name_of}
use Rattle.node_steps.specs.Closing.{open_count}
use Rattle.node_steps.proofs.CloseLemmas.{ShutsOn, all_shut, next_end, ready_next, shut_few, shut_length, shut_numbers, shut_on, shut_there}
use Rattle.node_steps.proofs.closing.close_each.Goals as goal

pub next_list-listing-requires-clause-some : goal.next_list-listing-requires-clause-some
next_list-listing-requires-clause-some c = let enough = c.loop-at.invariant.enough in let below = c.loop-at-test.true in omega (arith, enough, below)

pub close-requires-clause-there : goal.close-requires-clause-there
close-requires-clause-there c =
    (subst (Each (λ (id : EndId). is_some (link_at c.loop-at.parts.links (name_of id)) ≡ true)) (next_end c.args.ids.now c.loop-at.at c.id_at-id.result c.loop-at-test.true c.id_at-id.ensures) c.loop-at.invariant.there).0

pub close-requires-clause-ready : goal.close-requires-clause-ready
close-requires-clause-ready c = λ opened.
    let i = c.loop-at.invariant in
    let next = next_end c.args.ids.now c.loop-at.at c.id_at-id.result c.loop-at-test.true c.id_at-id.ensures in
    let same = ap (λ (xs : List EndId). open_count c.loop-at.parts.links (map name_of xs)) next in
    let few = i.few in
    let room = i.room in
    let enough = i.enough in
    let below = c.loop-at-test.true in
    ready_next c.loop-at.parts c.loop-at.past c.id_at-id.result (drop (c.loop-at.at + 1) c.args.ids.now) (vec_len c.loop-at.lists) (omega (arith, same, few)) room (omega (arith, enough, below)) opened

pub loop-at-preserved : goal.loop-at-preserved
loop-at-preserved c =
    let i = c.loop-at.invariant in
    let id = c.id_at-id.result in
    let a = name_of id in
    let p = c.loop-at.parts in
    let q = c.close.new.parts in
    let was = c.loop-at.past in
    let now = c.close.new.past in
    let left = drop (c.loop-at.at + 1) c.args.ids.now in
    let next = next_end c.args.ids.now c.loop-at.at id c.loop-at-test.true c.id_at-id.ensures in
    let shut = c.close.ensures.shuts in
    let len = c.next_list-listing.ensures.len in
    record {
      there = shut_there a p q was now left shut (subst (Each (λ (x : EndId). is_some (link_at p.links (name_of x)) ≡ true)) next i.there).1;
      lists = c.next_list-listing.ensures.lists;
      enough = (let enough = i.enough in omega (arith, enough, len));
      numbers = shut_numbers a p q was now shut i.numbers;
      few = (let few = i.few in let after = shut_few a p q was now (map name_of left) shut in let same = ap (λ (xs : List EndId). open_count p.links (map name_of xs)) next in omega (arith, few, after, same));
      room = (let room = i.room in let longer = shut_length a p q was now shut in let stays = c.close.ensures.room in omega (arith, room, longer, stays, len));
      closes = shut_on c.args.ids.now id left c.args.parts.now p q c.args.past.now was now (subst (λ (xs : List EndId). ShutsOn c.args.ids.now xs c.args.parts.now p c.args.past.now was) next i.closes) shut;
    }

pub returns : goal.returns
returns c = all_shut c.args.ids.now c.loop-at.at c.args.parts.now c.loop-at.parts c.args.past.now c.loop-at.past (let over = c.loop-at-test.false in omega (arith, over)) c.loop-at.invariant.closes
