-- What the proof of `carrying::carry_all` needs beside the tactics.
use Rattle.std.proofs.Common.{rules, ◌≡◌, ◌<◌, length, subst}
use Rattle.joined_nodes.specs.Carrying.{AreCarriedTo}
use Rattle.joined_nodes.proofs.CarriedAll.{one_more}
use Rattle.joined_nodes.proofs.carrying.carry_all.Goals as goal

pub loop-other-preserved : goal.loop-other-preserved
loop-other-preserved g c =
    let below : c.loop-other.other < length c.args.nodes.now = search rules in
    one_more c.loop-other.other c.args.repo c.args.nodes.now c.loop-other.nodes c.carry_with.new.nodes c.requires.there below c.loop-other.invariant c.carry_with.ensures

pub returns : goal.returns
returns g c =
    let all : c.loop-other.other ≡ length c.args.nodes.now = search rules in
    subst (λ n. AreCarriedTo n c.args.repo c.args.nodes.now c.loop-other.nodes) all c.loop-other.invariant
