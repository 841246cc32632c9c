-- What the proof of `settings::Settings::standard_expr` needs beside the tactics.
use Rattle.std.proofs.Common.{sym, ap, subst, ◌∙◌}
use Rattle.wanted_expr.specs.Wanted.{formula_read}
use Rattle.trust_groups.specs.Exprs.{HasExpr}
use Rattle.trust_groups.specs.Reads.{Indices, view_of}
use Rattle.trust_groups.specs.View.{IsGroupOfSome, settings_of, text_read}
use Rattle.trust_groups.proofs.ExprLemmas.{kept_standard}
use Rattle.trust_groups.proofs.settings.Settings.standard_expr.Goals as goal

pub of_text-requires : goal.of_text-requires
of_text-requires c =
    let exprs = c.self.inside.exprs in
    let group = c.args.group.now in
    let of_some = subst (λ (es : Indices). IsGroupOfSome (settings_of es) group) (sym c.self.view_is) c.requires in
    subst (HasExpr exprs) (sym c.standard_text.ensures) (kept_standard exprs (view_of c.self.inside.files.entries) group c.self.invariant.1 of_some)

pub returns : goal.returns
returns c = c.of_text.ensures ∙ ap (text_read formula_read) c.standard_text.ensures
