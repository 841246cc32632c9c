-- What the proof of `place::identifiers` needs beside the tactics.
use Rattle.step_state.proofs.PlaceLemmas.{next_id}
use Rattle.step_state.proofs.place.identifiers.Goals as goal

pub loop-repo-preserved : goal.loop-repo-preserved
loop-repo-preserved c =
    next_id c.args.repos.now c.loop-repo.repo-index c.repo-item.result c.loop-repo.ids.items _ c.loop-repo-test.true c.repo-item.is c.loop-repo.invariant c.in_ok-push.ensures.items
