-- What the proof of `wishes::holds_at_some` needs beside the tactics.
use Rattle.std.proofs.Common.{ℕ, List, Bool, [], ◌∷◌, ◌||◌, get_or, refl, sym, ap, arith, ◌∙◌}
use Rattle.std.specs.List.{list_any}
use Rattle.std.proofs.lemmas.List.{take_all}
use Rattle.std.proofs.lemmas.List.Folds.{list_any_at, list_any_more}
use Rattle.glob_match.specs.Numbers.{numcopies_of}
use Rattle.trust_groups.specs.View.{settings_of}
use Rattle.wanted_expr.specs.declared.data.Facts.{Facts}
use Rattle.wanted_expr.specs.Truth.{holds}
use Rattle.wanted_rules.specs.Reads.{at_path, formulas_of, judged}
use Rattle.wanted_rules.proofs.wishes.holds_at_some.Goals as goal

pub loop-path-init : goal.loop-path-init
loop-path-init c = (λ n path. refl, refl)

pub returns-then-eval : goal.returns-then-eval
returns-then-eval c =
    let s = settings_of c.args.settings.now in
    let paths = c.args.paths.now in
    let path = c.path-item.result in
    let facts = c.loop-path.facts in
    let test = λ (p : List ℕ). holds c.args.expr.now (judged (formulas_of c.args.groups.now) (at_path c.args.plain (numcopies_of s (p ∷ [])) p)) in
    let number = c.numcopies_at-numcopies.ensures ∙ ap (λ (p : List ℕ). numcopies_of s (p ∷ [])) c.bytes.ensures in
    let here = c.judge.ensures ∙ ap (judged (formulas_of c.args.groups.now)) (c.set_path.ensures ∙ ap (at_path facts c.numcopies_at-numcopies.result) c.in_ok-path.ensures.cases ∙ ap (λ (n : ℕ). at_path facts n path) number
    ∙ c.loop-path.invariant.0 (numcopies_of s (path ∷ [])) path) in
    let answer = c.eval.ensures ∙ ap (holds c.args.expr.now) here in
    sym (list_any_at test paths c.loop-path.path-index path c.loop-path-test.true (ap test (sym c.path-item.is) ∙ sym answer ∙ c.if-eval.true))

pub loop-path-preserved : goal.loop-path-preserved
loop-path-preserved c =
    let s = settings_of c.args.settings.now in
    let paths = c.args.paths.now in
    let path = c.path-item.result in
    let facts = c.loop-path.facts in
    let test = λ (p : List ℕ). holds c.args.expr.now (judged (formulas_of c.args.groups.now) (at_path c.args.plain (numcopies_of s (p ∷ [])) p)) in
    let number = c.numcopies_at-numcopies.ensures ∙ ap (λ (p : List ℕ). numcopies_of s (p ∷ [])) c.bytes.ensures in
    let here = c.judge.ensures ∙ ap (judged (formulas_of c.args.groups.now)) (c.set_path.ensures ∙ ap (at_path facts c.numcopies_at-numcopies.result) c.in_ok-path.ensures.cases ∙ ap (λ (n : ℕ). at_path facts n path) number
    ∙ c.loop-path.invariant.0 (numcopies_of s (path ∷ [])) path) in
    let answer = c.eval.ensures ∙ ap (holds c.args.expr.now) here in (
      λ n q. ap (λ (f : Facts). at_path f n q) (c.judge.ensures ∙ ap (judged (formulas_of c.args.groups.now)) c.set_path.ensures) ∙ c.loop-path.invariant.0 n q,
      list_any_more test paths c.loop-path.path-index path c.loop-path-test.true
          ∙ ap (λ (b : Bool). b || test (get_or paths c.loop-path.path-index path)) c.loop-path.invariant.1
          ∙ (ap test (sym c.path-item.is) ∙ sym answer ∙ c.if-eval.false),
    )

pub returns : goal.returns
returns c =
    let s = settings_of c.args.settings.now in
    let paths = c.args.paths.now in
    let test = λ (p : List ℕ). holds c.args.expr.now (judged (formulas_of c.args.groups.now) (at_path c.args.plain (numcopies_of s (p ∷ [])) p)) in
    sym (ap (list_any test) (sym (take_all c.loop-path.path-index paths (omega (arith, c.loop-path-test.false)))) ∙ c.loop-path.invariant.1)
