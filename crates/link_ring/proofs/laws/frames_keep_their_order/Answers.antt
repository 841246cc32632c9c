-- What the proof of `laws::frames_keep_their_order` needs beside the tactics.
use Rattle.link_ring.proofs.Order.{next_live, in_order}
use Rattle.link_ring.proofs.laws.frames_keep_their_order.Goals as goal

pub returns-clause-none_old : goal.returns-clause-none_old
returns-clause-none_old c = next_live

pub returns-clause-order : goal.returns-clause-order
returns-clause-order c = in_order
