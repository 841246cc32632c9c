-- What the proof of `groups::standard_exprs` needs beside the tactics.
use Rattle.std.proofs.Common.{List, ℕ, Bor, map, ◌∙◌}
use Rattle.std.specs.Option.{option_copied}
use Rattle.annex_base.proofs.Lists.{Each-get_or}
use Rattle.trust_groups.specs.View.{IsGroupOfSome, settings_of}
use Rattle.wanted_expr.specs.Formula.{Formula}
use Rattle.wanted_expr.specs.Wanted.{formula_read, standard_text}
use Rattle.wanted_rules.proofs.GroupLemmas.{next_expr}
use Rattle.wanted_rules.proofs.groups.standard_exprs.Goals as goal

pub standard_expr-requires : goal.standard_expr-requires
standard_expr-requires c = Each-get_or (λ (g : Bor (List ℕ)). IsGroupOfSome (settings_of c.args.settings.now) g.now) c.args.groups.now c.loop-group.group-index _ c.loop-group-test.true c.requires

pub loop-group-preserved : goal.loop-group-preserved
loop-group-preserved c =
    c.in_ok-put_expr.ensures
    ∙ next_expr formula_read (λ (g : Bor (List ℕ)). standard_text g.now) c.args.groups.now c.loop-group.group-index _ (map (λ (e : Bor Formula). e.now) c.loop-group.exprs.items) (option_copied c.standard_expr.result)
    c.loop-group-test.true c.standard_expr.ensures c.loop-group.invariant
