-- What the proof of `groups::groupwanted_expr` needs beside the tactics.
use Rattle.std.proofs.Common.{List, ℕ, Bor, map, ap, ◌∙◌}
use Rattle.trust_groups.specs.View.{settings_of}
use Rattle.wanted_expr.specs.Formula.{Formula}
use Rattle.wanted_expr.specs.Wanted.{group_formula}
use Rattle.wanted_rules.proofs.GroupLemmas.{only_read}
use Rattle.wanted_rules.proofs.groups.groupwanted_expr.Goals as goal

pub returns : goal.returns
returns c =
    c.only_expr.ensures
    ∙ only_read group_formula (map (λ (g : Bor (List ℕ)). (settings_of c.args.settings.now).group_preferred g.now) c.args.groups.now) (map (λ (e : Bor Formula). e.now) c.as_slice.result.now)
    (ap (map (λ (e : Bor Formula). e.now)) c.as_slice.ensures.value ∙ c.in_ok-exprs.ensures)
