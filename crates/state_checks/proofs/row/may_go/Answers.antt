-- What the proof of `row::may_go` needs beside the tactics.
use Rattle.std.proofs.Common.{Bool, ap, sym, ◌∙◌}
use Rattle.std.specs.Prelude.{◌&&◌, not}
use Rattle.node_model.specs.Rows.{blocks, is_blocked}
use Rattle.state_rows.specs.Rows.{holds_of}
use Rattle.state_checks.proofs.CheckLemmas.{any_of}
use Rattle.state_checks.proofs.row.may_go.Goals as goal

pub returns-then-is_free : goal.returns-then-is_free
returns-then-is_free c =
    let key = c.args.key.now in
    let clock = c.args.clock in
    let holds = holds_of c.args.rows.now in
    ap not (c.is_blocked.ensures ∙ any_of (blocks key clock) c.holds.result.now holds c.holds.ensures)
    ∙ sym (ap (λ (b : Bool). b && not (is_blocked holds key clock)) (sym c.is_free.ensures ∙ c.if-is_free.true))
