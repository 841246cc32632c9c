-- What the proof of `holds::blockers` needs beside the tactics.
use Rattle.std.proofs.Common.{◌<◌, ◌∙◌, sym, arith, length}
use Rattle.report_tables.proofs.RowLemmas.{blockers_with, blockers_without}
use Rattle.report_tables.proofs.holds.blockers.Goals as goal
use Rattle.report_tables.proofs.holds.blockers.Goals.{then-is_blocking+in_ok-insert, else-is_blocking}

pub loop-hold-preserved : goal.loop-hold-preserved
loop-hold-preserved c =
    let within : c.loop-hold.hold-index < length c.args.holds.now = omega arith in
    let h = c.hold-item.result in
    elim c.if-is_blocking.branch [
      | then-is_blocking+in_ok-insert w ↦
          cc (
            w.views-is,
            w.in_ok-insert.ensures.items,
            w.view.ensures,
            c.loop-hold.invariant,
            blockers_with c.args.key.now c.args.clock c.args.holds.now c.loop-hold.hold-index h within c.hold-item.is (sym c.is_blocking.ensures ∙ w.if-is_blocking.true),
          )
      | else-is_blocking w ↦
          cc (
            w.views-is,
            c.loop-hold.invariant,
            blockers_without c.args.key.now c.args.clock c.args.holds.now c.loop-hold.hold-index h within c.hold-item.is (sym c.is_blocking.ensures ∙ w.if-is_blocking.false),
          )
    ]
