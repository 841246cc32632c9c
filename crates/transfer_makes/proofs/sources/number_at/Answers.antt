-- By the place.
use Rattle.std.proofs.Common.{arith}
use Rattle.transfer_makes.proofs.Others.{number_past, number_within}
use Rattle.transfer_makes.proofs.sources.number_at.Goals as goal

pub returns-then-place-count : goal.returns-then-place-count
returns-then-place-count c = number_within c.args.count c.args.place (omega arith)

pub returns-else-place-count : goal.returns-else-place-count
returns-else-place-count c = number_past c.args.count c.args.place (omega arith)
