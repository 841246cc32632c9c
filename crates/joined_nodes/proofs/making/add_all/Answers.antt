-- What the proof of `making::add_all` needs beside the tactics.
use Rattle.std.proofs.Common.{◌≡◌, ◌∷◌, [], ◌++◌, length, sym, ap, ◌∙◌, append_assoc, arith}
use Rattle.std.proofs.lemmas.List.{length-append}
use Rattle.std.specs.Vec.Iter.{into_iter_items}
use Rattle.repo_node.specs.Stored.{HasNothing}
use Rattle.joined_nodes.proofs.Made.{of_middle, one_new}
use Rattle.joined_nodes.proofs.making.add_all.Goals as goal

pub add_node-requires-clause-empty : goal.add_node-requires-clause-empty
add_node-requires-clause-empty g c =
    let at = c.loop-keeper in
    let x = c.in-Some.keeper in
    let steps : into_iter_items at.keeper-iterator ≡ x ∷ into_iter_items c.next.new.self = c.in-Some.ensures.steps.0 in
    of_middle (λ k. HasNothing (g.K.Keeper.contents k) (g.K.Keeper.parts k) (g.K.Keeper.records k) (g.K.Keeper.files k)) c.args.keepers.items at.yielded (into_iter_items c.next.new.self) x c.requires.empty
    (ap (λ ys. at.yielded ++ ys) (sym steps) ∙ (at.invariant.order ∙ c.into_iter-keeper-iterator.ensures.into_iter_gives.0))

pub loop-keeper-preserved : goal.loop-keeper-preserved
loop-keeper-preserved g c =
    let at = c.loop-keeper in
    let x = c.in-Some.keeper in
    let steps : into_iter_items at.keeper-iterator ≡ x ∷ into_iter_items c.next.new.self = c.in-Some.ensures.steps.0 in
    record {
      order = append_assoc at.yielded (x ∷ []) (into_iter_items c.next.new.self) ∙ (ap (λ ys. at.yielded ++ ys) (sym steps) ∙ at.invariant.order);
      left = let was = at.invariant.left in
          let gone = c.in-Some.ensures.steps.1 in
          let short = ap length steps in
          omega arith;
      new = one_new c.args.repos.now at.yielded x at.nodes.items c.add_node.new.nodes.items at.invariant.new c.in_ok-add_node.ensures.ok;
      links = let was = at.invariant.links in
          let one = c.add_node.ensures.links in
          let more = length-append at.yielded (x ∷ []) in
          omega arith;
      fresh = c.add_node.ensures.fresh;
      room = let was = at.invariant.room in
          let stays = c.add_node.ensures.room in
          omega arith;
    }
