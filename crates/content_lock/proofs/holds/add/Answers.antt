-- What the proof of `holds::add` needs beside the tactics.
use Rattle.std.proofs.Common.{ℕ, ◌<◌, refl, subst}
use Rattle.std.specs.Map.{values_of}
use Rattle.annex_base.proofs.Lists.{Each-from_All}
use Rattle.run_data.specs.declared.row.Hold.{Hold}
use Rattle.content_lock.proofs.IndexedLemmas.{Delists, indexed_back, indexed_more, indexed_same}
use Rattle.content_lock.proofs.NumberedLemmas.{inserted, values_more}
use Rattle.content_lock.proofs.holds.add.Goals as goal

pub returns-in_err-enlist-clause-indexed : goal.returns-in_err-enlist-clause-indexed
returns-in_err-enlist-clause-indexed c =
    indexed_same c.args.by_number.now.entries c.args.by_number.now.entries c.args.numbers.now.entries c.enlist.new.numbers.entries c.requires.indexed c.in_err-enlist.ensures.err refl

pub returns-in-Ok-clause-ok : goal.returns-in-Ok-clause-ok
returns-in-Ok-clause-ok c =
    let es = c.args.by_number.now.entries in
    let less = Each-from_All (λ (x : Hold). x.number < c.args.hold.number) (values_of es) c.requires.greater in
    values_more es c.insert.new.self.entries c.args.hold (inserted es c.insert.new.self.entries c.args.hold c.requires.indexed.named less c.in-Ok.ensures.entries)

pub returns-in-Ok-clause-indexed : goal.returns-in-Ok-clause-indexed
returns-in-Ok-clause-indexed c =
    let es = c.args.by_number.now.entries in
    let less = Each-from_All (λ (x : Hold). x.number < c.args.hold.number) (values_of es) c.requires.greater in
    indexed_more es c.insert.new.self.entries c.args.numbers.now.entries c.enlist.new.numbers.entries c.args.hold c.requires.indexed less c.in_ok-enlist.ensures.ok
    (inserted es c.insert.new.self.entries c.args.hold c.requires.indexed.named less c.in-Ok.ensures.entries)

pub returns-clause-indexed : goal.returns-clause-indexed
returns-clause-indexed c =
    let es = c.args.by_number.now.entries in
    let less = Each-from_All (λ (x : Hold). x.number < c.args.hold.number) (values_of es) c.requires.greater in
    indexed_back es c.insert.new.self.entries c.args.numbers.now.entries c.enlist.new.numbers.entries c.delist.new.numbers.entries c.args.hold c.requires.indexed less c.in_ok-enlist.ensures.ok
    (subst (λ (v : ℕ × Hold). Delists c.enlist.new.numbers.entries c.delist.new.numbers.entries v.1.key v.0) c.in-Err.ensures.value_returned c.delist.ensures) c.in-Err.ensures.err
