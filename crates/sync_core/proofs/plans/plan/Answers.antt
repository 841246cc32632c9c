-- What the proof of `plans::plan` needs beside the tactics.
use Rattle.std.proofs.Common.{ap, ◌∙◌}
use Rattle.std.proofs.lemmas.Result.{IfOk-weaker}
use Rattle.wanted_rules.specs.Plan.{plan}
use Rattle.sync_core.specs.KeyPlans.{plan_of_keys}
use Rattle.sync_core.proofs.plans.plan.Goals as goal

pub returns : goal.returns
unfolding plan
returns c =
    IfOk-weaker c.plan_keys.result _ _ (λ actions is.
    is ∙ ap (plan_of_keys c.args.settings.now c.args.tree.now c.args.here c.args.repos.now) (c.deref-2.ensures.value ∙ c.in_ok-keys.ensures.value)) c.plan_keys.ensures
