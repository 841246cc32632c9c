-- What the proof of `index::firsts_of` needs beside the tactics.
use Rattle.std.specs.Map.Iter.{deref_pair}
use Rattle.std.proofs.lemmas.Map.Iter.{rest_more, rest_all}
use Rattle.annex_key.proofs.FirstLemmas.{firsts_more, firsts_all}
use Rattle.annex_key.proofs.index.firsts_of.Goals as goal

pub loop-key-preserved : goal.loop-key-preserved
loop-key-preserved c =
    firsts_more c.args.index.now c.loop-key.firsts c.add_first.new.firsts c.loop-key.key-iterator c.next.new.self c.in-Some.key.now c.in-Some.paths.now c.iter-key-items.ensures.ordered c.loop-key.invariant
    (rest_more deref_pair c.loop-key.key-iterator c.next.new.self c.next.result (c.in-Some.key, c.in-Some.paths) c.in-Some.is c.next.ensures.steps)
    c.in_ok-add_first.ensures

pub returns : goal.returns
returns c = firsts_all c.args.index.now c.loop-key.firsts c.loop-key.key-iterator c.iter-key-items.ensures.ordered c.loop-key.invariant (rest_all deref_pair c.loop-key.key-iterator c.next.new.self c.next.result c.in-None.is c.next.ensures.steps)
