-- What the proof of `laws::ends_stay_paired` needs beside the tactics.
use Rattle.std.proofs.Common.{arith}
use Rattle.link_ring.proofs.Pairs.{paired_call, paired_carry}
use Rattle.link_ring.proofs.laws.ends_stay_paired.Goals as goal

pub returns-clause-fresh : goal.returns-clause-fresh
returns-clause-fresh c = record { first = omega arith; second = omega arith }

pub returns-clause-other : goal.returns-clause-other
returns-clause-other c = λ a b pair. record { first = pair.second; second = pair.first }

pub returns-clause-call : goal.returns-clause-call
returns-clause-call c = paired_call

pub returns-clause-carry : goal.returns-clause-carry
returns-clause-carry c = λ a b pair. paired_carry a b
