-- What the proof of `settings::Settings::preferred_expr` needs beside the tactics.
use Rattle.std.proofs.Common.{sym, ap, subst, ◌∙◌}
use Rattle.wanted_expr.specs.Wanted.{formula_read}
use Rattle.trust_groups.specs.Exprs.{HasExpr}
use Rattle.trust_groups.specs.Reads.{Indices, view_of}
use Rattle.trust_groups.specs.View.{settings_of, text_read}
use Rattle.trust_groups.proofs.ExprLemmas.{kept_preferred}
use Rattle.trust_groups.proofs.settings.Settings.preferred_expr.Goals as goal

pub of_text-requires : goal.of_text-requires
of_text-requires c =
    let exprs = c.self.inside.exprs in
    subst (HasExpr exprs) (ap (λ (es : Indices). (settings_of es).preferred c.args.repo) c.self.view_is ∙ sym c.preferred.ensures) (kept_preferred exprs (view_of c.self.inside.files.entries) c.args.repo c.self.invariant.1)

pub returns : goal.returns
returns c = c.of_text.ensures ∙ ap (text_read formula_read) c.preferred.ensures
