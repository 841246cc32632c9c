-- By the kind of the reply.
use Rattle.p2p_server.proofs.ReplyLines.{short, wire}
use Rattle.p2p_server.proofs.laws.replies_are_short_lines.Goals as goal

pub returns-clause-line : goal.returns-clause-line
returns-clause-line c = λ m r. let w = wire m r in c.sent_messages_have_lines.ensures m w.0 w.1 w.2

pub returns-clause-short : goal.returns-clause-short
returns-clause-short c = short
