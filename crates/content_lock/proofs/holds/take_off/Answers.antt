-- What the proof of `holds::take_off` needs beside the tactics.
use Rattle.std.proofs.Common.{Some}
use Rattle.content_lock.proofs.IndexedLemmas.{indexed_less}
use Rattle.content_lock.proofs.NumberedLemmas.{looked_up, removed, values_less}
use Rattle.content_lock.proofs.holds.take_off.Goals as goal

pub returns-in-Some-clause-off : goal.returns-in-Some-clause-off
returns-in-Some-clause-off c =
    let es = c.args.by_number.now.entries in
    values_less es c.remove.new.self.entries c.args.number (removed es c.remove.new.self.entries c.args.number c.requires.indexed.named c.requires.indexed.rising c.in-Some.ensures.entries)

pub returns-in-Some-clause-indexed : goal.returns-in-Some-clause-indexed
returns-in-Some-clause-indexed c =
    let es = c.args.by_number.now.entries in
    indexed_less es c.remove.new.self.entries c.args.numbers.now.entries c.delist.new.numbers.entries c.args.number c.in-Some.hold c.requires.indexed
    (looked_up es c.args.number (Some c.in-Some.hold) c.requires.indexed.named c.in-Some.ensures.value) c.delist.ensures
    (removed es c.remove.new.self.entries c.args.number c.requires.indexed.named c.requires.indexed.rising c.in-Some.ensures.entries)

pub returns-in_default-clause-off : goal.returns-in_default-clause-off
returns-in_default-clause-off c =
    let es = c.args.by_number.now.entries in
    values_less es c.remove.new.self.entries c.args.number (removed es c.remove.new.self.entries c.args.number c.requires.indexed.named c.requires.indexed.rising c.in_default.ensures.entries)
