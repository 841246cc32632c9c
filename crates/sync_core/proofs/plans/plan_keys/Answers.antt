-- What the proof of `plans::plan_keys` needs beside the tactics.
use Rattle.std.proofs.Common.{◌++◌, ℕ, List, ap, ◌∙◌}
use Rattle.annex_key.specs.Tree.{paths_of}
use Rattle.trust_groups.specs.View.{settings_of}
use Rattle.wanted_rules.specs.Plan.{plan_of}
use Rattle.sync_core.specs.Placement.{Placed}
use Rattle.sync_core.proofs.PlanLemmas.{more_keys}
use Rattle.sync_core.proofs.plans.plan_keys.Goals as goal

pub loop-key-preserved : goal.loop-key-preserved
loop-key-preserved c =
    let plan_for = λ (key : List ℕ). plan_of (settings_of c.args.settings.now) c.args.repos.now c.args.here key (paths_of c.args.tree.now key) in
    more_keys plan_for c.args.keys.now c.loop-key.key-index c.key-item.result c.loop-key.actions.items c.add_plan.new.actions.items c.loop-key-test.true c.key-item.is c.loop-key.invariant
    (c.in_ok-add_plan.ensures ∙ ap (λ (p : Placed). c.loop-key.actions.items ++ plan_of (settings_of p.indices) p.repos c.args.here p.key p.paths) c.in_ok-placement.ensures)
