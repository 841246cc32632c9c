-- What the proof of `node::Node::room` needs beside the tactics.
use Rattle.std.proofs.Common.{◌≡◌, true, Err, IsErrOf, length, subst}
use Rattle.std.specs.Prelude.{IfOk, nat_le}
use Rattle.run_data.specs.Histories.{most_entries}
use Rattle.node_past.specs.declared.refused.NodeRefused.TheVariants as refusals
use Rattle.node_steps.specs.Crashing.{HasRoom}
use Rattle.repo_node.proofs.node.Node.room.Goals as goal

pub returns-clause-ok : goal.returns-clause-ok
returns-clause-ok g c =
    let w = c.make_ready in
    subst (λ v. IfOk w.result (λ room. HasRoom room v)) c.self.view_is w.ensures.ok

pub returns-clause-full : goal.returns-clause-full
returns-clause-full g c =
    let w = c.make_ready in
    subst (λ v. IsErrOf w.result refusals.Full → nat_le most_entries (length v.history) ≡ true) c.self.view_is w.ensures.full

pub returns-clause-lacks : goal.returns-clause-lacks
returns-clause-lacks g c =
    let w = c.make_ready in
    subst (λ v. nat_le most_entries (length v.history) ≡ true → w.result ≡ Err refusals.Full) c.self.view_is w.ensures.lacks
