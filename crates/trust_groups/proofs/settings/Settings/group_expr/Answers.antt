-- What the proof of `settings::Settings::group_expr` needs beside the tactics.
use Rattle.std.proofs.Common.{sym, ap, subst, ◌∙◌}
use Rattle.wanted_expr.specs.Wanted.{group_formula}
use Rattle.trust_groups.specs.Exprs.{HasExpr}
use Rattle.trust_groups.specs.Reads.{Indices, view_of}
use Rattle.trust_groups.specs.View.{settings_of, text_read}
use Rattle.trust_groups.proofs.ExprLemmas.{kept_group}
use Rattle.trust_groups.proofs.settings.Settings.group_expr.Goals as goal

pub of_group_text-requires : goal.of_group_text-requires
of_group_text-requires c =
    let exprs = c.self.inside.exprs in
    subst (HasExpr exprs) (ap (λ (es : Indices). (settings_of es).group_preferred c.args.group.now) c.self.view_is ∙ sym c.group_preferred.ensures) (kept_group exprs (view_of c.self.inside.files.entries) c.args.group.now c.self.invariant.1)

pub returns : goal.returns
returns c = c.of_group_text.ensures ∙ ap (text_read group_formula) c.group_preferred.ensures
