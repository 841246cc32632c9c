-- What the proof of `facts::add_groups` needs beside the tactics.
use Rattle.std.proofs.Common.{List, ℕ, [], ◌∷◌, ◌++◌, ap, ◌∙◌}
use Rattle.wanted_expr.specs.declared.data.Member.{Member}
use Rattle.wanted_rules.proofs.WishLemmas.{next_member}
use Rattle.wanted_rules.proofs.facts.add_groups.Goals as goal

pub loop-group-preserved : goal.loop-group-preserved
loop-group-preserved c =
    let repo = c.args.repo in
    let members = c.loop-group.members in
    c.in_ok-push.ensures.ok
    ∙ ap (λ (g : List ℕ). let m : Member = record { repo = repo; group = g } in members ++ m ∷ []) c.in_ok-group.ensures.cases
    ∙ next_member repo c.args.groups.now c.loop-group.group-index c.group-item.result c.args.members.now members c.loop-group-test.true c.group-item.is c.loop-group.invariant
