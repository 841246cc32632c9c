-- What the proof of `ends::send_all` needs beside the tactics.
use Rattle.std.proofs.Common.{◌+◌, ◌-◌, ◌≤◌, ◌^◌, length, take, List, [], ◌∷◌, ◌++◌, sym, ap, subst, ◌∙◌, arith}
use Rattle.std.proofs.lemmas.List.{length-take, take_more}
use Rattle.std.specs.Prelude.{if◌then◌else◌}
use Rattle.annex_base.proofs.Lists.{filter_shorter}
use Rattle.node_model.specs.Ends.{End, end_sends, sends_at, sent_at}
use Rattle.run_data.specs.declared.entry.FrameView.{FrameView}
use Rattle.state_ends.specs.Bounds.{IsBelow}
use Rattle.state_ends.specs.Ends.{end_of}
use Rattle.state_ends.proofs.EndLemmas.{below_all, below_more, sends_all, sent_more}
use Rattle.state_ends.proofs.ends.send_all.Goals as goal

pub send-requires-clause-below : goal.send-requires-clause-below
send-requires-clause-below c = λ a.
    let before = take c.loop-frame.frame-index c.args.frames.now in
    let was = end_of c.args.ends.now a in
    let fewer : length (sent_at a before) ≤ length before = filter_shorter (sends_at a) before in
    let short : length before ≤ c.loop-frame.frame-index = omega (arith, length-take c.loop-frame.frame-index c.args.frames.now) in
    let low : 2 ^ 126 + length (sent_at a before) ≤ 2 ^ 127 = omega (arith, fewer, short) in
    subst (λ (x : End). IsBelow (2 ^ 127) x) (sym (c.loop-frame.invariant.ends a))
    (below_more (2 ^ 126 + length (sent_at a before)) (2 ^ 127) (sends_all was (sent_at a before)) low (below_all (2 ^ 126) was (sent_at a before) (c.requires.below a)))

pub loop-frame-preserved : goal.loop-frame-preserved
loop-frame-preserved c =
    let i = c.loop-frame.frame-index in
    let frames = c.args.frames.now in
    let f = c.frame-item.result in
    record {
      room = c.send.ensures.room (length frames - (i + 1)) (record { clients = omega (arith, c.loop-frame.invariant.room.clients); servers = omega (arith, c.loop-frame.invariant.room.servers) });
      ends = λ a.
          let was = end_of c.args.ends.now a in
          c.send.ensures.ends a
          ∙ ap (λ (x : End). if sends_at a f then end_sends x f.body else x) (c.loop-frame.invariant.ends a)
          ∙ sent_more a was (take i frames) f
          ∙ ap (λ (g : FrameView). sends_all was (sent_at a (take i frames ++ g ∷ []))) c.frame-item.is
          ∙ ap (λ (fs : List FrameView). sends_all was (sent_at a fs)) (sym (take_more frames i f c.loop-frame-test.true));
    }
