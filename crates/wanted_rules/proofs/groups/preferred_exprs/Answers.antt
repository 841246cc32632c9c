-- What the proof of `groups::preferred_exprs` needs beside the tactics.
use Rattle.std.proofs.Common.{List, ℕ, Bor, map, ◌∙◌}
use Rattle.std.specs.Option.{option_copied}
use Rattle.trust_groups.specs.View.{settings_of}
use Rattle.wanted_expr.specs.Formula.{Formula}
use Rattle.wanted_expr.specs.Wanted.{group_formula}
use Rattle.wanted_rules.proofs.GroupLemmas.{next_expr}
use Rattle.wanted_rules.proofs.groups.preferred_exprs.Goals as goal

pub loop-group-preserved : goal.loop-group-preserved
loop-group-preserved c =
    c.in_ok-put_expr.ensures
    ∙ next_expr group_formula (λ (g : Bor (List ℕ)). (settings_of c.args.settings.now).group_preferred g.now) c.args.groups.now c.loop-group.group-index _ (map (λ (e : Bor Formula). e.now) c.loop-group.exprs.items)
    (option_copied c.group_expr.result) c.loop-group-test.true c.group_expr.ensures c.loop-group.invariant
