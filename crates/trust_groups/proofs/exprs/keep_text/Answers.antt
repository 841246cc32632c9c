-- What the proof of `exprs::keep_text` needs beside the tactics.
use Rattle.std.proofs.Common.{sym, ap, ◌∙◌}
use Rattle.std.specs.Prelude.{is_some}
use Rattle.std.proofs.lemmas.Bool.{false≢true}
use Rattle.annex_base.proofs.Rows.{lookup-shown}
use Rattle.trust_groups.specs.Exprs.{exprs_shown}
use Rattle.trust_groups.proofs.ExprLemmas.{expr_put, known_has, put_has_expr, put_keeps_exprs, put_right}
use Rattle.trust_groups.proofs.exprs.keep_text.Goals as goal

pub returns-then-contains_key-clause-has : goal.returns-then-contains_key-clause-has
returns-then-contains_key-clause-has c =
    let was = c.args.by_text.now.entries in
    known_has (exprs_shown was) c.args.text.now c.requires (λ none. false≢true (sym (ap is_some (lookup-shown was c.args.text.now ∙ none)) ∙ sym c.contains_key.ensures ∙ c.if-contains_key.true))

pub returns-clause-right : goal.returns-clause-right
returns-clause-right c =
    let was = c.args.by_text.now.entries in
    let now = c.insert.new.self.entries in
    put_right (exprs_shown was) (exprs_shown now) c.args.text.now (expr_put was now c.in_ok-text.text c.args.text.now c.in_ok-expr.expr c.in_ok-insert.ensures.entries c.in_ok-text.ensures.items c.in_ok-expr.ensures) c.requires

pub returns-clause-keeps : goal.returns-clause-keeps
returns-clause-keeps c =
    let was = c.args.by_text.now.entries in
    let now = c.insert.new.self.entries in
    put_keeps_exprs (exprs_shown was) (exprs_shown now) c.args.text.now (expr_put was now c.in_ok-text.text c.args.text.now c.in_ok-expr.expr c.in_ok-insert.ensures.entries c.in_ok-text.ensures.items c.in_ok-expr.ensures)

pub returns-clause-has : goal.returns-clause-has
returns-clause-has c =
    let was = c.args.by_text.now.entries in
    let now = c.insert.new.self.entries in
    put_has_expr (exprs_shown was) (exprs_shown now) c.args.text.now (expr_put was now c.in_ok-text.text c.args.text.now c.in_ok-expr.expr c.in_ok-insert.ensures.entries c.in_ok-text.ensures.items c.in_ok-expr.ensures)
