-- What the proof of `node::Node::merge_bundle` needs beside the tactics.
use Rattle.std.proofs.Common.{◌≡◌, option_map, OnOk, IfErr, subst, refl}
use Rattle.std.specs.Option.{ForSome}
use Rattle.content_lock.specs.CallsMade.{fewer}
use Rattle.union_merge.specs.Branch.{Files}
use Rattle.annex_base.specs.declared.kinds.Call.TheVariants.{PutFile}
use Rattle.node_past.specs.declared.refused.NodeRefused.TheVariants as refusals
use Rattle.node_past.specs.Calls.{Makes}
use Rattle.node_ledger.specs.Calls.{MeetsFull, lacks_of, to_merge}
use Rattle.node_ledger.specs.Refusals.{RefusesSo}
use Rattle.node_ledger.specs.Walks.{StopsAfter, merge_files, over}
use Rattle.node_past.proofs.CallLemmas.{same_refusal, stops_early}
use Rattle.node_ledger.proofs.LeftLemmas.{left_early, makes_left}
use Rattle.node_steps.specs.Nodes.{beside, told_of}
use Rattle.node_steps.proofs.KeptLemmas.{kept_merged, refuses_beside, stands_so}
use Rattle.run_data.specs.declared.entry.By.TheVariants.{Script}
use Rattle.repo_node.proofs.BesideLemmas.{err_merged, full_merged, ok_merged}
use Rattle.repo_node.proofs.WalkLemmas.{unread_stops}
use Rattle.node_ledger.specs.Debts.{failed_put}
use Rattle.repo_node.proofs.node.Node.merge_bundle.Goals as goal

pub invariant_of-self : goal.invariant_of-self
invariant_of-self g c =
    let i = c.self.inside in
    let w = c.merge in
    stands_so i.ledger w.new.self i.parts (g.K.Keeper.contents i.ledger.keeper) (g.K.Keeper.contents w.new.self.keeper) (g.K.Keeper.parts i.ledger.keeper) (g.K.Keeper.parts w.new.self.keeper) (g.K.Keeper.records i.ledger.keeper) (g.K.Keeper.records w.new.self.keeper) w.ensures.contents w.ensures.parts w.ensures.records
    (kept_merged w.result i.ledger w.new.self i.parts (told_of (g.K.Keeper.contents i.ledger.keeper) (g.K.Keeper.parts i.ledger.keeper)) c.in-Ok.other c.files_are_changed_alone.ensures.there c.files_are_changed_alone.ensures.other (c.direct_entries_keep_parts.ensures i.parts c.table.ensures.sound) w.ensures.ok w.ensures.err) c.self.invariant

pub returns-in-Ok-clause-ok : goal.returns-in-Ok-clause-ok
returns-in-Ok-clause-ok g c =
    λ files is.
    let i = c.self.inside in
    let w = c.merge in
    subst (λ (fs : Files). OnOk w.result (beside i.parts w.new.self ≡ over w.new.self.keeper (merge_files c.args.self.now fs))) (c.bundles_are_exact.ensures.one_branch c.args.bytes.now c.in-Ok.other files c.in-Ok.ensures.found is)
    (subst (λ v. OnOk w.result (beside i.parts w.new.self ≡ over w.new.self.keeper (merge_files v c.in-Ok.other))) c.self.view_is (ok_merged w.result i.parts i.ledger w.new.self c.in-Ok.other w.ensures.ok))

pub returns-in-Ok-clause-err : goal.returns-in-Ok-clause-err
returns-in-Ok-clause-err g c =
    λ files is.
    let i = c.self.inside in
    let w = c.merge in
    subst (λ (fs : Files). IfErr w.result (λ e. StopsAfter (merge_files c.args.self.now) fs e (beside i.parts w.new.self))) (c.bundles_are_exact.ensures.one_branch c.args.bytes.now c.in-Ok.other files c.in-Ok.ensures.found is)
    (subst (λ v. IfErr w.result (λ e. StopsAfter (merge_files v) c.in-Ok.other e (beside i.parts w.new.self))) c.self.view_is (err_merged w.result i.parts i.ledger w.new.self c.in-Ok.other w.ensures.err))

pub returns-in-Ok-clause-calls : goal.returns-in-Ok-clause-calls
returns-in-Ok-clause-calls g c =
    λ files is.
    let i = c.self.inside in
    let w = c.merge in
    subst (λ (fs : Files). Makes (to_merge c.args.self.now fs) PutFile w.result (g.K.Keeper.failing c.args.self.now.keeper) (g.K.Keeper.failing w.new.self.keeper)) (c.bundles_are_exact.ensures.one_branch c.args.bytes.now c.in-Ok.other files c.in-Ok.ensures.found is)
    (subst (λ v. Makes (to_merge v c.in-Ok.other) PutFile w.result (g.K.Keeper.failing v.keeper) (g.K.Keeper.failing w.new.self.keeper)) c.self.view_is w.ensures.calls)

pub returns-in-Ok-clause-left : goal.returns-in-Ok-clause-left
returns-in-Ok-clause-left g c =
    let i = c.self.inside in
    let w = c.merge in
    subst (λ v. (g.K.Keeper.failing w.new.self.keeper) ≡ option_map (fewer (failed_put w.result)) (g.K.Keeper.failing v.keeper)) c.self.view_is (makes_left (to_merge i.ledger c.in-Ok.other) w.result (g.K.Keeper.failing i.ledger.keeper) (g.K.Keeper.failing w.new.self.keeper) w.ensures.calls)

pub returns-in-Ok-clause-alone : goal.returns-in-Ok-clause-alone
returns-in-Ok-clause-alone g c =
    let i = c.self.inside in
    let w = c.merge in
    λ fault. subst (λ v. ForSome (g.K.Keeper.failing v.keeper) (λ failing. RefusesSo refusals.StoreFault PutFile v (beside i.parts w.new.self))) c.self.view_is
    (λ failing told. refuses_beside i.parts Script refusals.StoreFault PutFile i.ledger w.new.self (w.ensures.alone fault failing told))

pub returns-in-Ok-clause-full : goal.returns-in-Ok-clause-full
returns-in-Ok-clause-full g c =
    λ files is full.
    let i = c.self.inside in
    let w = c.merge in
    subst (λ (fs : Files). MeetsFull (merge_files c.args.self.now) lacks_of fs (g.K.Keeper.failing c.args.self.now.keeper) (g.K.Keeper.failing w.new.self.keeper) c.args.self.now (beside i.parts w.new.self)) (c.bundles_are_exact.ensures.one_branch c.args.bytes.now c.in-Ok.other files c.in-Ok.ensures.found is)
    (subst (λ v. MeetsFull (merge_files v) lacks_of c.in-Ok.other (g.K.Keeper.failing v.keeper) (g.K.Keeper.failing w.new.self.keeper) v (beside i.parts w.new.self)) c.self.view_is
    (full_merged i.parts i.ledger w.new.self c.in-Ok.other (g.K.Keeper.failing i.ledger.keeper) (g.K.Keeper.failing w.new.self.keeper) (w.ensures.full full)))

pub returns-in-Err-clause-wrong : goal.returns-in-Err-clause-wrong
returns-in-Err-clause-wrong g c =
    λ at same. c.in-Err.ensures.wrong at (same_refusal c.in-Err.refused (refusals.BadBundle at) same)

pub returns-in-Err-clause-err : goal.returns-in-Err-clause-err
returns-in-Err-clause-err g c =
    λ files is.
    unread_stops c.in-Err.refused c.args.bytes.now c.args.self.now files c.in-Err.ensures.wrong c.in-Err.ensures.no_fault c.in-Err.ensures.not_full is

pub returns-in-Err-clause-calls : goal.returns-in-Err-clause-calls
returns-in-Err-clause-calls g c =
    λ files is. stops_early (to_merge c.args.self.now files) PutFile c.in-Err.refused (g.K.Keeper.failing c.args.self.now.keeper) (g.K.Keeper.failing c.args.self.now.keeper) c.in-Err.ensures.no_fault refl

pub returns-in-Err-clause-left : goal.returns-in-Err-clause-left
returns-in-Err-clause-left g c =
    left_early c.in-Err.refused (g.K.Keeper.failing c.args.self.now.keeper) c.in-Err.ensures.no_fault

pub returns-in-Err-clause-alone : goal.returns-in-Err-clause-alone
returns-in-Err-clause-alone g c =
    λ is. absurd (c.in-Err.ensures.no_fault (same_refusal c.in-Err.refused refusals.StoreFault is))

pub returns-in-Err-clause-full : goal.returns-in-Err-clause-full
returns-in-Err-clause-full g c =
    λ files is full. absurd (c.in-Err.ensures.not_full (same_refusal c.in-Err.refused refusals.Full full))
