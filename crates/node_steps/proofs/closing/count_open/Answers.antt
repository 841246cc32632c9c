-- What the proof of `closing::count_open` needs beside the tactics.
use Rattle.std.proofs.Common.{◌≡◌, ◌+◌, List, true, drop, is_some, map, subst, ap, arith}
use Rattle.annex_base.specs.Lists.{Each}
use Rattle.node_ends.specs.declared.name.EndId.{EndId}
use Rattle.node_ends.specs.Ends.{link_at, name_of}
use Rattle.node_steps.specs.Closing.{open_count}
use Rattle.node_steps.proofs.CloseLemmas.{all_counted, next_end, open_next}
use Rattle.node_steps.proofs.closing.count_open.Goals as goal

pub is_open-requires : goal.is_open-requires
is_open-requires c = record {
  there = (subst (Each (λ (id : EndId). is_some (link_at c.args.parts.now.links (name_of id)) ≡ true)) (next_end c.args.ids.now c.loop-at.at c.id_at-id.result c.loop-at-test.true c.id_at-id.ensures) c.loop-at.invariant.there).0;
}

pub loop-at-preserved : goal.loop-at-preserved
loop-at-preserved c =
    let i = c.loop-at.invariant in
    let links = c.args.parts.now.links in
    let id = c.id_at-id.result in
    let next = next_end c.args.ids.now c.loop-at.at id c.loop-at-test.true c.id_at-id.ensures in
    let same = ap (λ (xs : List EndId). open_count links (map name_of xs)) next in
    let step = open_next links (name_of id) (map name_of (drop (c.loop-at.at + 1) c.args.ids.now)) c.is_open.result c.is_open.ensures c.one_if-one.result c.one_if-one.ensures in
    let low = i.low in
    let counts = i.counts in
    record {
      there = (subst (Each (λ (x : EndId). is_some (link_at links (name_of x)) ≡ true)) next i.there).1;
      low = (let one = step.1 in omega (arith, low, one));
      counts = (let more = step.0 in omega (arith, counts, same, more));
    }

pub returns : goal.returns
returns c = all_counted c.args.ids.now c.loop-at.at c.args.parts.now.links c.loop-at.count (let over = c.loop-at-test.false in omega (arith, over)) c.loop-at.invariant.counts
