-- What the proof of `node::Node::new` needs beside the tactics.
use Rattle.std.proofs.Common.{ap, ◌∙◌}
use Rattle.node_steps.proofs.StateLemmas.{stands_new}
use Rattle.repo_node.proofs.node.Node.new.Goals as goal

pub invariant_of-result : goal.invariant_of-result
invariant_of-result g c =
    let parts = c.in_ok-parts.parts in
    let made = c.in_ok-parts.ensures in
    let empty = c.requires.empty in
    let keeper = c.args.keeper in
    let known = g.K.Keeper.contents keeper in
    let stored = g.K.Keeper.parts keeper in
    let keeps = c.direct_entries_keep_parts.ensures parts c.table.ensures.sound in
    stands_new (g.K.Keeper.contents) (g.K.Keeper.parts) (g.K.Keeper.records) (g.K.Keeper.files keeper) c.new-2.result c.args.setup keeper c.in_ok-ids.ids parts c.new-2.ensures keeps made.table (ap (λ j. j.place) made.jobs) (ap (λ j. j.begun) made.jobs)
    c.requires.own made.parts (c.in_ok-ids.ensures ∙ c.as_slice.ensures) made.fed empty
