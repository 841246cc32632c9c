-- What the proof of `exprs::Exprs::of_group_text` needs beside the tactics.
use Rattle.std.proofs.Common.{Some, sym, ap, subst, ◌∙◌}
use Rattle.std.specs.Option.{option_copied, option_map}
use Rattle.wanted_expr.specs.Wanted.{without_groupwanted}
use Rattle.trust_groups.specs.Exprs.{Exprs, HasExpr}
use Rattle.trust_groups.proofs.ExprLemmas.{group_reads}
use Rattle.trust_groups.proofs.exprs.Exprs.of_group_text.Goals as goal

pub expr_in-requires : goal.expr_in-requires
expr_in-requires c = subst (λ (es : Exprs). HasExpr es c.args.text.now) (sym c.self.view_is) c.requires

pub returns-in-Some : goal.returns-in-Some
returns-in-Some c = ap Some c.in_group.ensures ∙ ap (option_map without_groupwanted) (sym (ap option_copied c.in-Some.is) ∙ c.expr_in.ensures) ∙ group_reads c.args.text.now

pub returns-in-None : goal.returns-in-None
returns-in-None c = ap (option_map without_groupwanted) (sym (ap option_copied c.in-None.is) ∙ c.expr_in.ensures) ∙ group_reads c.args.text.now
