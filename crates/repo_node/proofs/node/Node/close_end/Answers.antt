-- What the proof of `node::Node::close_end` needs beside the tactics.
use Rattle.std.proofs.Common.{◌≡◌, ◌≢◌, ◌<◌, true, Err, IsErrOf, OnErr, OnOk, length, subst, sym}
use Rattle.node_ends.specs.Joined.{StayPaired}
use Rattle.node_past.specs.declared.refused.NodeRefused.TheVariants as refusals
use Rattle.node_steps.specs.Closing.{ClosesEach, ends_to, lacks_places}
use Rattle.node_steps.specs.Nodes.{beside, told_of}
use Rattle.repo_node.proofs.node.Node.close_end.Goals as goal

pub close_ends-requires-clause-known : goal.close_ends-requires-clause-known
close_ends-requires-clause-known g c = subst (λ v. c.args.peer < length v.setup.repos) (sym c.self.view_is) c.requires.known

pub close_ends-requires-clause-other : goal.close_ends-requires-clause-other
close_ends-requires-clause-other g c = subst (λ v. c.args.peer ≢ v.setup.number) (sym c.self.view_is) c.requires.other

pub returns-clause-ok : goal.returns-clause-ok
returns-clause-ok g c =
    let w = c.close_ends in
    subst (λ v. OnOk w.result (ClosesEach (told_of (g.K.Keeper.contents v.keeper) (g.K.Keeper.parts v.keeper)) (ends_to c.args.peer) v (beside w.new.parts w.new.ledger))) c.self.view_is w.ensures.ok

pub returns-clause-full : goal.returns-clause-full
returns-clause-full g c =
    let w = c.close_ends in
    subst (λ v. IsErrOf w.result refusals.Full → lacks_places v c.args.peer ≡ true) c.self.view_is w.ensures.full

pub returns-clause-lacks : goal.returns-clause-lacks
returns-clause-lacks g c =
    let w = c.close_ends in
    subst (λ v. lacks_places v c.args.peer ≡ true → w.result ≡ Err refusals.Full) c.self.view_is w.ensures.lacks

pub returns-clause-paired : goal.returns-clause-paired
returns-clause-paired g c =
    let w = c.close_ends in
    subst (λ v. StayPaired v.parts.links w.new.parts.links) c.self.view_is w.ensures.paired

pub returns-clause-err : goal.returns-clause-err
returns-clause-err g c =
    let w = c.close_ends in
    subst (λ v. OnErr w.result (beside w.new.parts w.new.ledger ≡ v)) c.self.view_is w.ensures.err
