-- What the proof of `exprs::Exprs::of_text` needs beside the tactics.
use Rattle.std.proofs.Common.{sym, subst}
use Rattle.trust_groups.specs.Exprs.{Exprs, HasExpr}
use Rattle.trust_groups.proofs.exprs.Exprs.of_text.Goals as goal

pub expr_in-requires : goal.expr_in-requires
expr_in-requires c = subst (λ (es : Exprs). HasExpr es c.args.text.now) (sym c.self.view_is) c.requires
