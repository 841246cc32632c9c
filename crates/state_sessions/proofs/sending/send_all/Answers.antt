-- What the proof of `sending::send_all` needs beside the tactics.
use Rattle.std.proofs.Common.{◌+◌, ◌<◌, ◌^◌, take, List, [], ◌∷◌, ◌++◌, sym, ap, subst, ◌∙◌, arith}
use Rattle.std.specs.List.{list_any}
use Rattle.std.proofs.lemmas.List.{take_more}
use Rattle.annex_base.proofs.Conditions.{by_test}
use Rattle.run_data.specs.declared.entry.FrameView.{FrameView}
use Rattle.node_model.specs.Ends.{sends_at, server_end}
use Rattle.node_model.specs.Sessions as sessions
use Rattle.state_sessions.specs.Doings.{number_in}
use Rattle.state_sessions.specs.Tables.{after_sent, is_at, session_in}
use Rattle.state_sessions.proofs.SessionLemmas.{sent_before, sent_next, sent_so, unsent}
use Rattle.state_sessions.proofs.sending.send_all.Goals as goal

pub loop-place-preserved : goal.loop-place-preserved
loop-place-preserved c =
    let i = c.loop-place.place in
    let frames = c.args.frames.now in
    let f = c.index-frames-place.result in
    let took = c.args.took in
    let before = c.loop-place.invariant in
    record {
      room = omega (arith, before.room, c.send_one.ensures.room);
      session = λ peer slot.
          let p = sends_at (server_end peer slot) in
          let was = session_in c.args.table.now.entries peer slot in
          c.send_one.ensures.session peer slot
          ∙ ap (λ (fs : List FrameView). after_sent took fs f peer slot (session_in c.loop-place.table.entries peer slot)) c.split_at.ensures.front
          ∙ ap (after_sent took (take i frames) f peer slot) (before.session peer slot)
          ∙ sent_next (is_at took peer slot) p (take i frames) f was
          ∙ ap (λ (g : FrameView). sent_so (is_at took peer slot) p (take i frames ++ g ∷ []) was) c.index-frames-place.is
          ∙ ap (λ (fs : List FrameView). sent_so (is_at took peer slot) p fs was) (sym (take_more frames i f c.loop-place-test.true));
      small = λ limit peer slot below.
          let p = sends_at (server_end peer slot) in
          let was = session_in c.args.table.now.entries peer slot in
          let x = session_in c.loop-place.table.entries peer slot in
          by_test (list_any p (take i frames))
          (λ some. subst (λ (s : sessions.Session). number_in s.doing < limit + 2 ^ 64)
          (sym (c.send_one.ensures.session peer slot ∙ ap (λ (fs : List FrameView). after_sent took fs f peer slot x) c.split_at.ensures.front ∙ sent_before took (take i frames) f peer slot x some))
          (before.small limit peer slot below))
          (λ none. c.send_one.ensures.small limit peer slot
          (subst (λ (s : sessions.Session). number_in s.doing < limit) (sym (before.session peer slot ∙ unsent (is_at took peer slot) p (take i frames) was none)) below));
    }
