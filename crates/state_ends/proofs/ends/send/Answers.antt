-- What the proof of `ends::send` needs beside the tactics.
use Rattle.std.proofs.Common.{true, false}
use Rattle.state_ends.proofs.EndLemmas.{sent_down, sent_up}
use Rattle.state_ends.proofs.ends.send.Goals as goal

pub send_in-requires-clause-small : goal.send_in-requires-clause-small
send_in-requires-clause-small c =
    let at = c.connection_of-at.result in c.requires.below (record { peer = at.peer; slot = at.slot; client = true })

pub send_in-requires-else-frame-clause-small : goal.send_in-requires-else-frame-clause-small
send_in-requires-else-frame-clause-small c =
    let at = c.connection_of-at.result in c.requires.below (record { peer = at.peer; slot = at.slot; client = false })

pub returns-then-frame-clause-ends : goal.returns-then-frame-clause-ends
returns-then-frame-clause-ends c = λ a.
    let h = rw c.connection_of-at.ensures at c.send_in.ensures.end in
    sent_up c.args.frame.now c.args.ends.now.clients.entries c.send_in.new.side.entries c.args.ends.now.servers.entries c.if-frame.true h a

pub returns-else-frame-clause-ends : goal.returns-else-frame-clause-ends
returns-else-frame-clause-ends c = λ a.
    let h = rw c.connection_of-at.ensures at c.send_in-else-frame.ensures.end in
    sent_down c.args.frame.now c.args.ends.now.clients.entries c.args.ends.now.servers.entries c.send_in-else-frame.new.side.entries c.if-frame.false h a
