-- What the proof of `node::Node::advance` needs beside the tactics.
use Rattle.std.proofs.Common.{◌≡◌, ap, subst, sym}
use Rattle.std.specs.Prelude.{max}
use Rattle.node_steps.specs.Kept.{Stands}
use Rattle.node_steps.specs.Nodes.{beside}
use Rattle.repo_node.proofs.node.Node.advance.Goals as goal

pub invariant_of-self : goal.invariant_of-self
invariant_of-self g c =
    let i = c.self.inside in
    let w = c.advance in
    subst (λ l. Stands l i.parts (g.K.Keeper.contents l.keeper) (g.K.Keeper.parts l.keeper) (g.K.Keeper.records l.keeper)) (sym w.ensures) (record { kept = c.self.invariant.kept; agrees = c.self.invariant.agrees; fed = c.self.invariant.fed })

pub returns : goal.returns
returns g c =
    let i = c.self.inside in
    let w = c.advance in
    subst (λ v. beside i.parts w.new.self ≡ record v { time = max v.time c.args.time; count = max v.count c.args.count }) c.self.view_is (ap (beside i.parts) w.ensures)
