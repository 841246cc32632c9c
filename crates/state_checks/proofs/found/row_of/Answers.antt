-- What the proof of `found::row_of` needs beside the tactics.
use Rattle.std.proofs.Common.{ℕ, Bool, List, Option, ap, sym, ◌∙◌}
use Rattle.std.specs.Prelude.{filter, is_some, map, reverse}
use Rattle.run_data.specs.declared.row.Hold.{Hold}
use Rattle.run_data.specs.declared.row.HoldView.{HoldView}
use Rattle.run_data.specs.declared.row.RowView.{RowView}
use Rattle.node_model.specs.Rows.{blocks}
use Rattle.step_judging.specs.Verdicts.{hold_view}
use Rattle.state_checks.proofs.CheckLemmas.{blocking_back}
use Rattle.state_checks.proofs.found.row_of.Goals as goal

pub returns : goal.returns
returns c = λ st are.
    let key = c.args.key.now in
    let p : Hold → Bool = blocks key c.args.clock in
    let view : Bool → Option ℕ → List HoldView → RowView = λ present bar holds. record { present = present; bar = bar; holds = holds } in
    let holds = c.in_ok-holds.ensures ∙ sym (blocking_back hold_view p c.holds.result.now)
    ∙ ap (λ (hs : List Hold). map hold_view (reverse (filter p hs))) (c.holds.ensures ∙ sym are.holds) in
    ap (λ b. view b c.bar.result c.in_ok-holds.holds) (c.is_some.ensures ∙ ap is_some c.size.ensures ∙ sym (are.present key))
    ∙ ap (λ o. view (st.present key) o c.in_ok-holds.holds) (c.bar.ensures ∙ sym (are.bar key))
    ∙ ap (view (st.present key) (st.bar key)) holds
