-- What the proof of `groups::each_once` needs beside the tactics.
use Rattle.std.proofs.Common.{List, ℕ, Bor, map, ap, ◌∙◌}
use Rattle.wanted_rules.specs.Reads.{once_with}
use Rattle.wanted_rules.proofs.GroupLemmas.{next_once}
use Rattle.wanted_rules.proofs.groups.each_once.Goals as goal

pub loop-group-preserved : goal.loop-group-preserved
loop-group-preserved c =
    let once = map (λ (g : Bor (List ℕ)). g.now) c.loop-group.once.items in
    c.in_ok-put_once.ensures
    ∙ ap (once_with once) c.bytes.ensures
    ∙ next_once c.args.groups.now c.loop-group.group-index c.group-item.result once c.loop-group-test.true c.group-item.is c.loop-group.invariant
