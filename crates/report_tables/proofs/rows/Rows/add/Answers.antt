-- What the proof of `rows::Rows::add` needs beside the tactics.
use Rattle.std.proofs.Common.{◌<◌, ◌∙◌, refl, arith, length, length-set}
use Rattle.report_tables.proofs.RowTables.{rows_noted}
use Rattle.report_tables.proofs.rows.Rows.add.Goals as goal

pub returns-in_ok-change : goal.returns-in_ok-change
returns-in_ok-change c = λ repos past has.
    let rows = c.args.self.now.repos.items in
    let i = c.in-Some.repo in
    let within : i < length rows = omega arith in
    let changed = c.in_ok-change.ensures in
    record {
      number_is = length-set rows i c.change.new.self ∙ has.number_is;
      each = λ r none below. rows_noted rows i c.index_mut.result.now c.change.new.self repos past c.args.entry.now r none
          c.in-Some.is within c.index_mut.ensures.value changed.setting changed.bars changed.holds (has.each r none below);
      time_is = refl;
    }
