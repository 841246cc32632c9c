-- What the proof of `carrying::carry_with` needs beside the tactics.
use Rattle.std.proofs.Common.{arith}
use Rattle.joined_nodes.proofs.CarriedAll.{two_turned}
use Rattle.joined_nodes.proofs.carrying.carry_with.Goals as goal

pub returns-then-other-repo : goal.returns-then-other-repo
returns-then-other-repo g c =
    ((λ is. absurd (omega (arith, c.if-other-repo.true, is)), λ apart. two_turned c.args.other c.args.repo c.args.nodes.now c.carry_two.new.nodes c.carry_two.ensures.carried), c.carry_two.ensures.nodes)
