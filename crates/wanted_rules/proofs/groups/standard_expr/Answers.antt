-- What the proof of `groups::standard_expr` needs beside the tactics.
use Rattle.std.proofs.Common.{List, ℕ, Bor, map, ap, ◌∙◌}
use Rattle.wanted_expr.specs.Formula.{Formula}
use Rattle.wanted_expr.specs.Wanted.{formula_read, standard_text}
use Rattle.wanted_rules.proofs.GroupLemmas.{only_read}
use Rattle.wanted_rules.proofs.groups.standard_expr.Goals as goal

pub returns : goal.returns
returns c =
    c.only_expr.ensures
    ∙ only_read formula_read (map (λ (g : Bor (List ℕ)). standard_text g.now) c.args.groups.now) (map (λ (e : Bor Formula). e.now) c.as_slice.result.now)
    (ap (map (λ (e : Bor Formula). e.now)) c.as_slice.ensures.value ∙ c.in_ok-exprs.ensures)
