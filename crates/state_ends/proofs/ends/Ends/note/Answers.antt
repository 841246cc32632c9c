-- What the proof of `ends::Ends::note` needs beside the tactics.
use Rattle.std.proofs.Common.{◌+◌, ◌^◌, length, sym, ap, subst, ◌∙◌, arith}
use Rattle.annex_base.proofs.Lists.{filter_shorter}
use Rattle.node_model.specs.Ends.{End, end_took, sends_at, sent_at, taken_at}
use Rattle.state_ends.specs.Bounds.{IsBelow}
use Rattle.state_ends.specs.Ends.{end_of}
use Rattle.state_ends.proofs.EndLemmas.{below_all, below_more, sends_all}
use Rattle.state_ends.proofs.ends.Ends.note.Goals as goal

pub send_all-requires-clause-below : goal.send_all-requires-clause-below
send_all-requires-clause-below c = c.take_if.ensures.below (2 ^ 126) (omega arith) c.requires.below

pub returns-clause-ends : goal.returns-clause-ends
returns-clause-ends c = λ s st are. record {
  ends = λ a.
      let e = c.args.entry.now in
      ap (λ x. sends_all (end_took x (taken_at a e.taken)) (sent_at a e.sent)) (are.ends a)
      ∙ ap (λ x. sends_all x (sent_at a e.sent)) (sym (c.take_if.ensures.ends a))
      ∙ ap (λ fs. sends_all (end_of c.take_if.new.ends a) (sent_at a fs)) (sym c.as_slice.ensures)
      ∙ sym (c.send_all.ensures.ends a);
}

pub returns-clause-below : goal.returns-clause-below
returns-clause-below c = λ limit le below a.
    let sent = c.args.entry.now.sent in
    let was = end_of c.take_if.new.ends a in
    let fewer = filter_shorter (sends_at a) sent in
    let now = c.send_all.ensures.ends a ∙ ap (λ fs. sends_all was (sent_at a fs)) c.as_slice.ensures in
    subst (λ (x : End). IsBelow (limit + length sent) x) (sym now)
    (below_more (limit + length (sent_at a sent)) (limit + length sent) (sends_all was (sent_at a sent)) (omega (arith, fewer))
    (below_all limit was (sent_at a sent) (c.take_if.ensures.below limit le below a)))
