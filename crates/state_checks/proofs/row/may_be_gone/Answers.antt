-- What the proof of `row::may_be_gone` needs beside the tactics.
use Rattle.std.proofs.Common.{Bool, ap, sym, ◌∙◌}
use Rattle.std.specs.Prelude.{◌&&◌}
use Rattle.run_data.specs.declared.entry.By.{By}
use Rattle.run_data.specs.declared.entry.EntryKind.TheVariants.{Gone}
use Rattle.step_judging.specs.Rules.{is_in_time, needs_row}
use Rattle.state_checks.proofs.CheckLemmas.{go_same}
use Rattle.state_checks.proofs.row.may_be_gone.Goals as goal

pub returns-then-may_go : goal.returns-then-may_go
returns-then-may_go c = λ st are.
    let clock = c.args.clock in
    let told = c.args.told.now in
    c.is_in_time.ensures
    ∙ sym (ap (λ (b : Bool). b && is_in_time clock told) (sym (c.may_go.ensures ∙ go_same c.args.rows.now st are c.args.key.now clock) ∙ c.if-may_go.true))
    ∙ sym (ap (λ (by : By). needs_row st clock told (Gone by c.args.key.now)) c.in-Peer.is)

pub returns-else-may_go : goal.returns-else-may_go
returns-else-may_go c = λ st are.
    let clock = c.args.clock in
    let told = c.args.told.now in
    c.if-may_go.false
    ∙ sym (ap (λ (b : Bool). b && is_in_time clock told) (sym (c.may_go.ensures ∙ go_same c.args.rows.now st are c.args.key.now clock) ∙ c.if-may_go.false))
    ∙ sym (ap (λ (by : By). needs_row st clock told (Gone by c.args.key.now)) c.in-Peer.is)
