-- What the proof of `plans::read_wishes` needs beside the tactics.
use Rattle.sync_core.proofs.PlanLemmas.{more_wishes}
use Rattle.sync_core.proofs.plans.read_wishes.Goals as goal

pub loop-repo-preserved : goal.loop-repo-preserved
loop-repo-preserved c =
    more_wishes c.args.settings.now c.args.repos.now c.loop-repo.repo-index c.repo-item.result _ _ _ c.loop-repo-test.true c.repo-item.is c.loop-repo.invariant c.in_ok-push.ensures.items c.in_ok-read.ensures
