-- What the proof of `ends::Ends::send` needs beside the tactics.
use Rattle.std.proofs.Common.{rules, ◌≡◌, List, sym, subst}
use Rattle.link_ring.specs.Ends.{EndView}
use Rattle.node_model.specs.Ends.{end_sends}
use Rattle.node_ends.specs.Ends.{end_at, name_of}
use Rattle.node_ends.specs.Going.{AreAfter}
use Rattle.node_ends.proofs.Naming.{after_sent}
use Rattle.node_ends.proofs.ends.Ends.send.Goals as goal

pub returns-clause-after : goal.returns-clause-after
returns-clause-after c = λ was taken sent after.
    let a = name_of c.args.id in
    let old = c.self.inside.links.ends.items in
    let now = c.send-listed.new.ends.items in
    let f = c.send-listed.result in
    let peer : f.peer ≡ a.peer = search rules in
    let slot : f.slot ≡ a.slot = search rules in
    let up : f.up ≡ a.client = search rules in
    let here : end_at now a ≡ end_sends (end_at old a) f.body = search rules in
    after_sent was old now taken sent a f peer slot up c.send-listed.ensures.change.count here c.send-listed.ensures.change.others
    (subst (λ (xs : List EndView). AreAfter was xs taken sent) (sym c.self.view_is) after)
