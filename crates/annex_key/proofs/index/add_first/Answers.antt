-- What the proof of `index::add_first` needs beside the tactics.
use Rattle.std.proofs.Common.{Some}
use Rattle.annex_key.proofs.FirstLemmas.{adds_same}
use Rattle.annex_key.proofs.index.add_first.Goals as goal

pub returns-in_ok-insert : goal.returns-in_ok-insert
returns-in_ok-insert c = record {
  path = Some c.in-Some.first.now;
  first = (c.in-Some.ensures.member, c.in-Some.ensures.least);
  sets = adds_same c.args.firsts.now c.insert.new.self c.in_ok-clone.field-0 c.in-Some.first.now c.in_ok-clone-2.field-0 c.args.key.now c.in_ok-clone.ensures.cases c.in_ok-clone-2.ensures.cases c.in_ok-insert.ensures.updates.0;
}
