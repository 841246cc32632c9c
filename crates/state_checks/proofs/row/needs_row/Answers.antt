-- What the proof of `row::needs_row` needs beside the tactics.
use Rattle.std.proofs.Common.{ap, sym, ◌∙◌}
use Rattle.std.specs.List.{list_any}
use Rattle.run_laws.specs.Sound.{is_open_hold}
use Rattle.step_judging.specs.Rules.{needs_row}
use Rattle.state_rows.specs.Rows.{holds_of}
use Rattle.state_checks.proofs.CheckLemmas.{any_of, go_same}
use Rattle.state_checks.proofs.row.needs_row.Goals as goal

pub returns-in-Release : goal.returns-in-Release
returns-in-Release c = λ st are.
    let p = is_open_hold c.in-Release.hold c.in-Release.key in
    c.has_open.ensures ∙ any_of p c.holds.result.now (holds_of c.args.rows.now) c.holds.ensures ∙ ap (list_any p) (sym are.holds)
    ∙ sym (ap (needs_row st c.args.clock c.args.told.now) c.in-Release.is)

pub returns-in-Bar : goal.returns-in-Bar
returns-in-Bar c = λ st are.
    c.may_go.ensures ∙ go_same c.args.rows.now st are c.in-Bar.key c.args.clock ∙ sym (ap (needs_row st c.args.clock c.args.told.now) c.in-Bar.is)

pub returns-in-Fault : goal.returns-in-Fault
returns-in-Fault c = λ st are.
    c.may_fail.ensures st are c.args.told.now c.args.clock ∙ sym (ap (needs_row st c.args.clock c.args.told.now) c.in-Fault.is)
