-- What the proof of `row::may_fail` needs beside the tactics.
use Rattle.std.proofs.Common.{ap, sym, ◌∙◌}
use Rattle.std.specs.List.{list_any}
use Rattle.annex_base.specs.declared.kinds.Call.{Call}
use Rattle.run_data.specs.declared.entry.EntryKind.TheVariants.{Fault}
use Rattle.run_laws.specs.Sound.{is_open_for}
use Rattle.step_judging.specs.Rules.{needs_row}
use Rattle.state_rows.specs.Rows.{holds_of}
use Rattle.state_checks.proofs.CheckLemmas.{any_of}
use Rattle.state_checks.proofs.row.may_fail.Goals as goal

pub returns-in-Unhold : goal.returns-in-Unhold
returns-in-Unhold c = λ st are told clock.
    let by = c.args.by in
    c.is_kept_for.ensures ∙ any_of (is_open_for by) c.holds.result.now (holds_of c.args.rows.now) c.holds.ensures ∙ ap (list_any (is_open_for by)) (sym are.holds)
    ∙ sym (ap (λ (call : Call). needs_row st clock told (Fault call by)) c.in-Unhold.is)
