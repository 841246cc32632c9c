-- What the proof of `node::Node::step` needs beside the tactics.
use Rattle.std.proofs.Common.{◌≡◌, IfOk, OnErr, subst}
use Rattle.std.specs.Option.{ForSome}
use Rattle.node_ends.specs.Joined.{StayPaired}
use Rattle.node_model.specs.Step.{step}
use Rattle.node_past.specs.Stored.{TellsSame, store_view}
use Rattle.node_steps.specs.Nodes.{beside, told_of}
use Rattle.node_steps.specs.Stepping.{AddsIf, MovesSo}
use Rattle.repo_node.proofs.node.Node.step.Goals as goal

pub returns-clause-adds : goal.returns-clause-adds
returns-clause-adds g c =
    let i = c.self.inside in
    let w = c.step in
    let last = w.new.ledger in
    subst (λ v. IfOk w.result (λ b. AddsIf b v.parts.links (store_view (g.K.Keeper.contents v.keeper) (g.K.Keeper.parts v.keeper) (g.K.Keeper.failing v.keeper) (g.K.Keeper.faults v.keeper)) (store_view (g.K.Keeper.contents last.keeper) (g.K.Keeper.parts last.keeper) (g.K.Keeper.failing last.keeper) (g.K.Keeper.faults last.keeper)) v (beside w.new.parts w.new.ledger))) c.self.view_is w.ensures.adds

pub returns-clause-step : goal.returns-clause-step
returns-clause-step g c =
    let i = c.self.inside in
    let w = c.step in
    let last = w.new.ledger in
    subst (λ v. IfOk w.result (λ b. ForSome (told_of (g.K.Keeper.contents v.keeper) (g.K.Keeper.parts v.keeper)) (λ x. MovesSo b step (store_view (g.K.Keeper.contents v.keeper) (g.K.Keeper.parts v.keeper) (g.K.Keeper.failing v.keeper) (g.K.Keeper.faults v.keeper)) (store_view (g.K.Keeper.contents last.keeper) (g.K.Keeper.parts last.keeper) (g.K.Keeper.failing last.keeper) (g.K.Keeper.faults last.keeper)) v (beside w.new.parts w.new.ledger)))) c.self.view_is w.ensures.step

pub returns-clause-err_store : goal.returns-clause-err_store
returns-clause-err_store g c =
    let i = c.self.inside in
    let w = c.step in
    let last = w.new.ledger in
    subst (λ v. OnErr w.result (TellsSame (g.K.Keeper.contents v.keeper) (g.K.Keeper.contents last.keeper) (g.K.Keeper.parts v.keeper) (g.K.Keeper.parts last.keeper) (g.K.Keeper.records v.keeper) (g.K.Keeper.records last.keeper) (g.K.Keeper.files v.keeper) (g.K.Keeper.files last.keeper) (g.K.Keeper.failing v.keeper) (g.K.Keeper.failing last.keeper))) c.self.view_is w.ensures.err_store

pub returns-clause-paired : goal.returns-clause-paired
returns-clause-paired g c =
    let i = c.self.inside in
    let w = c.step in
    subst (λ v. StayPaired v.parts.links w.new.parts.links) c.self.view_is w.ensures.paired

pub returns-clause-err : goal.returns-clause-err
returns-clause-err g c =
    let i = c.self.inside in
    let w = c.step in
    subst (λ v. OnErr w.result ((beside w.new.parts w.new.ledger) ≡ record v { keeper = w.new.ledger.keeper })) c.self.view_is w.ensures.err
