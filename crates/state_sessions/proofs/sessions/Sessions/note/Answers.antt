-- What the proof of `sessions::Sessions::note` needs beside the tactics.
use Rattle.std.proofs.Common.{◌≡◌, ◌+◌, ◌<◌, ◌^◌, List, Option, sym, ap, subst, ◌∙◌, arith}
use Rattle.run_data.specs.declared.entry.FrameView.{FrameView}
use Rattle.node_model.specs.Ends.{sends_at, sent_at, server_end, taken_at}
use Rattle.node_model.specs.Sessions as sessions
use Rattle.node_model.specs.Sessions.{sends_close, session_after, session_left}
use Rattle.state_ends.specs.declared.side.Connection.{Connection}
use Rattle.state_sessions.specs.Doings.{number_in}
use Rattle.state_sessions.specs.Tables.{is_at, session_in, taken_in}
use Rattle.state_sessions.proofs.SessionLemmas.{goes_so, left_small, sent_so}
use Rattle.state_sessions.proofs.sessions.Sessions.note.Goals as goal

pub send_all-requires-clause-small : goal.send_all-requires-clause-small
send_all-requires-clause-small c = λ peer slot.
    let low = c.take_if.ensures.small (2 ^ 125) peer slot (omega arith) (c.requires.below peer slot) in omega (arith, low)

pub returns-clause-sessions : goal.returns-clause-sessions
returns-clause-sessions c = λ content s st heard agrees are. record {
  sessions = λ peer slot.
      let e = c.args.entry.now in
      let a = server_end peer slot in
      let p = sends_at a in
      let was = session_in c.args.self.now.table.entries peer slot in
      let mid = session_in c.take_if.new.table.entries peer slot in
      let shut = sends_close (sent_at a e.sent) in
      let sent : sent_so (is_at c.taken_in-took.result peer slot) p c.as_slice.result.now mid ≡ session_in c.send_all.new.table.entries peer slot = sym (c.send_all.ensures.session peer slot) in
      ap (λ (x : sessions.Session). session_after st.content e.kind x (sent_at a e.sent) (taken_at a e.taken)) (are.sessions peer slot)
      ∙ ap (session_left shut) (goes_so st.content e.kind was e.taken e.sent c.args.heard peer slot (λ f taken up. heard f taken up st.content was agrees))
      ∙ ap (λ (x : sessions.Session). session_left shut (sent_so (is_at (taken_in e.taken) peer slot) p e.sent x)) (sym (c.take_if.ensures.session peer slot))
      ∙ ap (λ (took : Option Connection). session_left shut (sent_so (is_at took peer slot) p e.sent mid)) (sym c.taken_in-took.ensures)
      ∙ ap (λ (fs : List FrameView). session_left shut (sent_so (is_at c.taken_in-took.result peer slot) p fs mid)) (sym c.as_slice.ensures)
      ∙ ap (session_left shut) sent
      ∙ ap (λ (fs : List FrameView). session_left (sends_close (sent_at a fs)) (session_in c.send_all.new.table.entries peer slot)) (sym c.as_slice-2.ensures)
      ∙ sym (c.close_all.ensures peer slot);
}

pub returns-clause-below : goal.returns-clause-below
returns-clause-below c = λ limit le below peer slot.
    let shut = sends_close (sent_at (server_end peer slot) c.as_slice-2.result.now) in
    let x = session_in c.send_all.new.table.entries peer slot in
    let one = c.take_if.ensures.small limit peer slot le (below peer slot) in
    let two = c.send_all.ensures.small (limit + 2 ^ 64) peer slot one in
    let low : number_in x.doing < limit + 2 ^ 65 = omega (arith, two) in
    subst (λ (s : sessions.Session). number_in s.doing < limit + 2 ^ 65) (sym (c.close_all.ensures peer slot)) (left_small shut x (limit + 2 ^ 65) low)
