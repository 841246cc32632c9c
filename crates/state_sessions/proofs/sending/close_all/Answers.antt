-- What the proof of `sending::close_all` needs beside the tactics.
use Rattle.std.proofs.Common.{take, List, [], ◌∷◌, ◌++◌, sym, ap, ◌∙◌}
use Rattle.std.proofs.lemmas.List.{take_more}
use Rattle.run_data.specs.declared.entry.FrameView.{FrameView}
use Rattle.node_model.specs.Ends.{sends_at, sent_at, server_end}
use Rattle.node_model.specs.Sessions as sessions
use Rattle.node_model.specs.Sessions.{sends_close, session_left}
use Rattle.state_sessions.specs.Tables.{session_in}
use Rattle.state_sessions.proofs.SessionLemmas.{closes_more}
use Rattle.state_sessions.proofs.sending.close_all.Goals as goal

pub loop-frame-preserved : goal.loop-frame-preserved
loop-frame-preserved c = λ peer slot.
    let i = c.loop-frame.frame-index in
    let frames = c.args.frames.now in
    let f = c.frame-item.result in
    let p = sends_at (server_end peer slot) in
    let was = session_in c.args.table.now.entries peer slot in
    c.close_one.ensures peer slot
    ∙ ap (λ (s : sessions.Session). session_left (sends_close (sent_at (server_end peer slot) (f ∷ []))) s) (c.loop-frame.invariant peer slot)
    ∙ closes_more p (take i frames) f was
    ∙ ap (λ (g : FrameView). session_left (sends_close (sent_at (server_end peer slot) (take i frames ++ g ∷ []))) was) c.frame-item.is
    ∙ ap (λ (fs : List FrameView). session_left (sends_close (sent_at (server_end peer slot) fs)) was) (sym (take_more frames i f c.loop-frame-test.true))
