-- What the proof of `ends::Ends::take` needs beside the tactics.
use Rattle.std.proofs.Common.{rules, ◌≡◌, List, [], Some, subst}
use Rattle.link_ring.specs.Ends.{EndView}
use Rattle.node_model.specs.Ends.{end_takes}
use Rattle.node_ends.specs.Ends.{end_at, frame_at, name_of, text_in}
use Rattle.node_ends.specs.Going.{AreAfter}
use Rattle.node_ends.proofs.Naming.{after_taken}
use Rattle.node_ends.proofs.ends.Ends.take.Goals as goal

pub returns-clause-after : goal.returns-clause-after
returns-clause-after c =
    let a = name_of c.args.id in
    let old = c.self.inside.links.ends.items in
    let now = c.take.new.ends.items in
    let here : end_at now a ≡ end_takes (end_at old a) c.take.result.epoch (text_in c.take.result.body) = search rules in
    subst (λ (xs : List EndView). AreAfter xs now (Some (frame_at a c.take.result)) []) c.self.view_is
    (after_taken old now a c.take.result c.take.ensures.change.count here c.take.ensures.change.others)
