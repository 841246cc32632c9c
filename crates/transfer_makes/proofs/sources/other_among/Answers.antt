-- By the place.
use Rattle.std.proofs.Common.{arith}
use Rattle.transfer_makes.proofs.Others.{other_before, other_behind, other_past}
use Rattle.transfer_makes.proofs.sources.other_among.Goals as goal

pub returns-then-place-repo : goal.returns-then-place-repo
returns-then-place-repo c = other_before c.args.repo c.args.count c.args.place c.requires (omega arith)

pub returns-then-place-count : goal.returns-then-place-count
returns-then-place-count c = other_behind c.args.repo c.args.count c.args.place c.requires (omega arith) (omega arith)

pub returns-else-place-count : goal.returns-else-place-count
returns-else-place-count c = other_past c.args.repo c.args.count c.args.place c.requires (omega arith)
