-- What the proof of `group_exprs::GroupExprs::read` needs beside the tactics.
use Rattle.std.proofs.Common.{List, ℕ, Bor, ap, map, ◌∙◌}
use Rattle.annex_key.specs.Tree.{each_once}
use Rattle.trust_groups.specs.View.{settings_of, text_read}
use Rattle.wanted_expr.specs.Wanted.{formula_read, group_formula, standard_text}
use Rattle.wanted_rules.proofs.GroupLemmas.{of_some, text_of_groups}
use Rattle.wanted_rules.proofs.group_exprs.GroupExprs.read.Goals as goal

pub standard_expr-requires : goal.standard_expr-requires
standard_expr-requires c =
    let once = ap (map (λ (g : Bor (List ℕ)). g.now)) c.as_slice-groups.ensures.value ∙ c.in_ok-once.ensures ∙ ap each_once c.groups.ensures in
    of_some (settings_of c.args.settings.now) c.args.repo c.as_slice-groups.result.now once

pub returns : goal.returns
returns c =
    let s = settings_of c.args.settings.now in
    let items = c.as_slice-groups.result.now in
    let once = ap (map (λ (g : Bor (List ℕ)). g.now)) c.as_slice-groups.ensures.value ∙ c.in_ok-once.ensures ∙ ap each_once c.groups.ensures in
    let standard = c.in_ok-standard.ensures ∙ ap (text_read formula_read) (text_of_groups standard_text items (s.groups c.args.repo) once) in
    let groupwanted = c.in_ok-groupwanted.ensures ∙ ap (text_read group_formula) (text_of_groups s.group_preferred items (s.groups c.args.repo) once) in
    λ i. record { standard = standard i; groupwanted = groupwanted i }
