-- What the proof of `ends::take` needs beside the tactics.
use Rattle.state_ends.proofs.EndLemmas.{taken_down, taken_up}
use Rattle.state_ends.proofs.ends.take.Goals as goal

pub returns-then-frame-clause-ends : goal.returns-then-frame-clause-ends
returns-then-frame-clause-ends c = λ a.
    let h = rw c.connection_of-at.ensures at c.take_in.ensures.end in
    taken_up c.args.frame.now c.args.ends.now.clients.entries c.args.ends.now.servers.entries c.take_in.new.side.entries c.if-frame.true h a

pub returns-else-frame-clause-ends : goal.returns-else-frame-clause-ends
returns-else-frame-clause-ends c = λ a.
    let h = rw c.connection_of-at.ensures at c.take_in-else-frame.ensures.end in
    taken_down c.args.frame.now c.args.ends.now.clients.entries c.take_in-else-frame.new.side.entries c.args.ends.now.servers.entries c.if-frame.false h a
