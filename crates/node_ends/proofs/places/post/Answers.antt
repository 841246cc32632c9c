-- What the proof of `places::post` needs beside the tactics.
use Rattle.std.proofs.Common.{rules, ◌≡◌, List, ◌∷◌, [], subst}
use Rattle.std.proofs.lemmas.Option.{same_Some}
use Rattle.link_ring.specs.Ends.{EndView}
use Rattle.run_data.specs.declared.entry.FrameView.{FrameView}
use Rattle.node_model.specs.Ends.{end_sends, frames}
use Rattle.node_ends.specs.Ends.{end_at, name_of}
use Rattle.node_ends.specs.Going.{IsSent}
use Rattle.node_ends.specs.Sent.{text_of_sending}
use Rattle.node_ends.proofs.Naming.{after_sent}
use Rattle.node_ends.proofs.places.post.Goals as goal

pub returns-then-may_send-clause-sent : goal.returns-then-may_send-clause-sent
returns-then-may_send-clause-sent c = λ x is.
    let a = name_of c.args.id in
    let old = c.may_send.new.ends.items in
    let now = c.send-listed.new.ends.items in
    let f = c.send-listed.result in
    let view : frames a (end_at old a) (text_of_sending c.args.said ∷ []) ≡ f ∷ [] = search rules in
    let peer : f.peer ≡ a.peer = search rules in
    let slot : f.slot ≡ a.slot = search rules in
    let up : f.up ≡ a.client = search rules in
    let state : end_at now a ≡ end_sends (end_at old a) (text_of_sending c.args.said) = search rules in
    let here : end_at now a ≡ end_sends (end_at old a) f.body = search rules in
    subst (λ (g : FrameView). IsSent a c.args.sender c.args.word c.args.said c.args.ends.now.items now g) (same_Some f x is)
    (subst (λ (xs : List EndView). IsSent a c.args.sender c.args.word c.args.said xs now f) c.may_send.ensures.same
    (record {
      view = view;
      state = state;
      link = c.send-listed.ensures.change.here;
      others = c.send-listed.ensures.change.others;
      count = c.send-listed.ensures.change.count;
      after = λ first taken sent after. after_sent first old now taken sent a f peer slot up c.send-listed.ensures.change.count here c.send-listed.ensures.change.others after;
    }))
