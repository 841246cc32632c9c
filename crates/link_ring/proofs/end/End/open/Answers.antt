-- What the proof of `end::End::open` needs beside the tactics.
use Rattle.std.proofs.Common.{rules, subst}
use Rattle.link_ring.specs.Ends.{EndView, ArePaired}
use Rattle.link_ring.specs.Ways.{Opens}
use Rattle.link_ring.proofs.Pairs.{paired_call}
use Rattle.link_ring.proofs.end.End.open.Goals as goal

pub returns-clause-paired : goal.returns-clause-paired
returns-clause-paired c = λ other pair. subst (λ (e : EndView). ArePaired e other) (search rules) (paired_call Opens c.args.self.now other pair)
