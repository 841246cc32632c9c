-- What the proof of `wishes::Wishes::is_true` needs beside the tactics.
use Rattle.std.proofs.Common.{[], ◌∷◌, sym, ap, ◌∙◌}
use Rattle.std.specs.List.{list_any}
use Rattle.std.proofs.lemmas.Result.{IfOk-weaker}
use Rattle.glob_match.specs.Numbers.{numcopies_of}
use Rattle.trust_groups.specs.View.{settings_of}
use Rattle.wanted_expr.specs.declared.data.Facts.{Facts}
use Rattle.wanted_expr.specs.Truth.{holds}
use Rattle.wanted_expr.specs.Wanted.{cases_of, facts}
use Rattle.wanted_rules.specs.Reads.{Wishing, at_path, formulas_of, judged}
use Rattle.wanted_rules.proofs.GroupLemmas.{empty_is, some_is}
use Rattle.wanted_rules.proofs.WishLemmas.{true_at_some, true_nowhere}
use Rattle.wanted_rules.proofs.wishes.Wishes.is_true.Goals as goal

pub returns-then-is_empty : goal.returns-then-is_empty
returns-then-is_empty c =
    let s = settings_of c.self.inside.settings.now in
    let groups = formulas_of c.self.inside.groups in
    let paths = c.args.paths.now in
    c.holds_without_path.ensures
    ∙ ap (λ (f : Facts). holds c.args.expr.now (judged groups f)) c.in_ok-facts.ensures
    ∙ true_nowhere s c.self.inside.repo c.args.key.now c.args.gone groups c.args.expr.now paths c.self.invariant.are_groups (empty_is paths (sym c.is_empty.ensures ∙ c.if-is_empty.true))
    ∙ ap (λ (w : Wishing). list_any (λ path. holds c.args.expr.now (facts (settings_of w.indices) w.repo c.args.key.now c.args.gone path)) (cases_of paths)) c.self.view_is

pub returns : goal.returns
returns c =
    let s = settings_of c.self.inside.settings.now in
    let groups = formulas_of c.self.inside.groups in
    let paths = c.args.paths.now in
    IfOk-weaker c.holds_at_some.result _ _ (λ b is.
    is
    ∙ ap (λ (f : Facts). list_any (λ path. holds c.args.expr.now (judged groups (at_path f (numcopies_of s (path ∷ [])) path))) paths) c.in_ok-facts.ensures
    ∙ true_at_some s c.self.inside.repo c.args.key.now c.args.gone groups c.args.expr.now paths c.self.invariant.are_groups (some_is paths (sym c.is_empty.ensures ∙ c.if-is_empty.false))
    ∙ ap (λ (w : Wishing). list_any (λ path. holds c.args.expr.now (facts (settings_of w.indices) w.repo c.args.key.now c.args.gone path)) (cases_of paths)) c.self.view_is) c.holds_at_some.ensures
