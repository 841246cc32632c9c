-- What the proof of `node::Node::compact` needs beside the tactics.
use Rattle.std.proofs.Common.{◌≡◌, OnOk, IfErr, subst}
use Rattle.std.specs.Map.{keys_of}
use Rattle.std.specs.Option.{ForSome}
use Rattle.annex_base.specs.declared.kinds.Call.TheVariants.{PutFile}
use Rattle.node_past.specs.declared.refused.NodeRefused.TheVariants as refusals
use Rattle.node_past.specs.Calls.{Makes}
use Rattle.node_ledger.specs.Calls.{MeetsFull, shrinks_at, to_compact}
use Rattle.node_ledger.specs.Refusals.{RefusesSo}
use Rattle.node_ledger.specs.Walks.{StopsAfter, compact_files, over}
use Rattle.node_steps.specs.Nodes.{beside, told_of}
use Rattle.node_steps.proofs.KeptLemmas.{kept_compacted, refuses_beside, stands_so}
use Rattle.run_data.specs.declared.entry.By.TheVariants.{Script}
use Rattle.repo_node.proofs.BesideLemmas.{err_compacted, full_compacted, ok_compacted}
use Rattle.repo_node.proofs.node.Node.compact.Goals as goal

pub invariant_of-self : goal.invariant_of-self
invariant_of-self g c =
    let i = c.self.inside in
    let w = c.compact in
    stands_so i.ledger w.new.self i.parts (g.K.Keeper.contents i.ledger.keeper) (g.K.Keeper.contents w.new.self.keeper) (g.K.Keeper.parts i.ledger.keeper) (g.K.Keeper.parts w.new.self.keeper) (g.K.Keeper.records i.ledger.keeper) (g.K.Keeper.records w.new.self.keeper) w.ensures.contents w.ensures.parts w.ensures.records
    (kept_compacted w.result i.ledger w.new.self i.parts (told_of (g.K.Keeper.contents i.ledger.keeper) (g.K.Keeper.parts i.ledger.keeper)) (keys_of i.ledger.branch) c.files_are_changed_alone.ensures.there c.files_are_changed_alone.ensures.other (c.direct_entries_keep_parts.ensures i.parts c.table.ensures.sound) w.ensures.ok w.ensures.err) c.self.invariant

pub returns-clause-ok : goal.returns-clause-ok
returns-clause-ok g c =
    let i = c.self.inside in
    let w = c.compact in
    subst (λ v. OnOk w.result (beside i.parts w.new.self ≡ over w.new.self.keeper (compact_files v (keys_of v.branch)))) c.self.view_is (ok_compacted w.result i.parts i.ledger w.new.self (keys_of i.ledger.branch) w.ensures.ok)

pub returns-clause-err : goal.returns-clause-err
returns-clause-err g c =
    let i = c.self.inside in
    let w = c.compact in
    subst (λ v. IfErr w.result (λ e. StopsAfter (compact_files v) (keys_of v.branch) e (beside i.parts w.new.self))) c.self.view_is (err_compacted w.result i.parts i.ledger w.new.self (keys_of i.ledger.branch) w.ensures.err)

pub returns-clause-calls : goal.returns-clause-calls
returns-clause-calls g c =
    let i = c.self.inside in
    let w = c.compact in
    subst (λ v. Makes (to_compact v) PutFile w.result (g.K.Keeper.failing v.keeper) (g.K.Keeper.failing w.new.self.keeper)) c.self.view_is w.ensures.calls

pub returns-clause-alone : goal.returns-clause-alone
returns-clause-alone g c =
    let i = c.self.inside in
    let w = c.compact in
    λ fault. subst (λ v. ForSome (g.K.Keeper.failing v.keeper) (λ failing. RefusesSo refusals.StoreFault PutFile v (beside i.parts w.new.self))) c.self.view_is
    (λ failing told. refuses_beside i.parts Script refusals.StoreFault PutFile i.ledger w.new.self (w.ensures.alone fault failing told))

pub returns-clause-full : goal.returns-clause-full
returns-clause-full g c =
    let i = c.self.inside in
    let w = c.compact in
    λ full. subst (λ v. MeetsFull (compact_files v) shrinks_at (keys_of v.branch) (g.K.Keeper.failing v.keeper) (g.K.Keeper.failing w.new.self.keeper) v (beside i.parts w.new.self)) c.self.view_is
    (full_compacted i.parts i.ledger w.new.self (keys_of i.ledger.branch) (g.K.Keeper.failing i.ledger.keeper) (g.K.Keeper.failing w.new.self.keeper) (w.ensures.full full))
