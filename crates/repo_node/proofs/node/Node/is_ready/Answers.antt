-- What the proof of `node::Node::is_ready` needs beside the tactics.
use Rattle.std.proofs.Common.{IfOk, ap, subst, sym, ◌∙◌}
use Rattle.std.specs.Option.{ForSome}
use Rattle.node_model.specs.Step.{step}
use Rattle.node_steps.specs.Parts.{PartsView}
use Rattle.node_steps.specs.Kept.{Stands}
use Rattle.node_steps.specs.Nodes.{beside, told_of}
use Rattle.node_steps.specs.Stepping.{ReadySo}
use Rattle.repo_node.proofs.node.Node.is_ready.Goals as goal

pub invariant_of-self : goal.invariant_of-self
invariant_of-self g c =
    let i = c.self.inside in
    let w = c.is_ready in
    subst (λ (p : PartsView). Stands i.ledger p (g.K.Keeper.contents i.ledger.keeper) (g.K.Keeper.parts i.ledger.keeper) (g.K.Keeper.records i.ledger.keeper)) (sym w.ensures.same) c.self.invariant

pub returns-clause-ready : goal.returns-clause-ready
returns-clause-ready g c =
    let i = c.self.inside in
    let w = c.is_ready in
    subst (λ v. IfOk w.result (λ b. ForSome (told_of (g.K.Keeper.contents v.keeper) (g.K.Keeper.parts v.keeper)) (λ x. ReadySo b step v))) c.self.view_is w.ensures.ready

pub returns-clause-same : goal.returns-clause-same
returns-clause-same g c =
    let i = c.self.inside in
    let w = c.is_ready in
    ap (λ (p : PartsView). beside p i.ledger) w.ensures.same ∙ c.self.view_is
