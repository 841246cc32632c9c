-- What the proof of `holds::change_holds` needs beside the tactics.
use Rattle.std.proofs.Common.{not, ◌==◌, refl, sym, ap, subst, ◌∙◌}
use Rattle.std.specs.Prelude.{reverse, IsSome}
use Rattle.node_model.specs.Rows.{restart}
use Rattle.state_rows.specs.Changes.{holds_after_end, new_hold}
use Rattle.state_rows.proofs.RowLemmas.{closed_reversed, ended_reversed, failed_reversed, reverse_filter, reverse_map, reverse_push, with_new}
use Rattle.state_rows.proofs.holds.change_holds.Goals as goal

pub unwrap-requires : goal.unwrap-requires
unwrap-requires c = subst IsSome (sym (c.requires.new ∙ ap new_hold c.in-Share.is)) refl

pub returns-in-Share : goal.returns-in-Share
returns-in-Share c =
    let was = c.args.holds.now.items in
    ap reverse c.push_reserved.ensures.items ∙ reverse_push was c.unwrap.result ∙ sym (with_new c.args.kind.now c.args.new c.unwrap.result c.requires.new c.unwrap.ensures (reverse was))

pub returns-in-Release : goal.returns-in-Release
returns-in-Release c =
    rw c.in-Release.is (ap reverse c.release.ensures ∙ reverse_filter (λ h. not (h.number == c.in-Release.hold)) c.args.holds.now.items)

pub returns-in-Close : goal.returns-in-Close
returns-in-Close c =
    rw c.in-Close.is (ap reverse c.close.ensures ∙ closed_reversed c.args.holds.now.items c.in-Close.peer c.in-Close.slot c.in-Close.client)

pub returns-in-Fault : goal.returns-in-Fault
returns-in-Fault c =
    rw c.in-Fault.is (ap reverse c.fail.ensures ∙ failed_reversed c.args.holds.now.items c.in-Fault.call c.in-Fault.by)

pub returns-in-End : goal.returns-in-End
returns-in-End c =
    let was = c.args.holds.now.items in
    rw c.in-End.is (ap reverse c.end.ensures ∙ ended_reversed was c.in-End.job c.is_lost.result ∙ ap (λ lost. holds_after_end c.in-End.job lost (reverse was)) c.is_lost.ensures)

pub returns-in-Crash : goal.returns-in-Crash
returns-in-Crash c = rw c.in-Crash.is (ap reverse c.restart_all.ensures ∙ reverse_map (restart c.in-Crash.clock) c.args.holds.now.items)
