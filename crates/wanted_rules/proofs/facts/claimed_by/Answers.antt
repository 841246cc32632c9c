-- What the proof of `facts::claimed_by` needs beside the tactics.
use Rattle.std.proofs.Common.{◌∙◌}
use Rattle.trust_groups.specs.View.{settings_of}
use Rattle.wanted_rules.proofs.WishLemmas.{next_claimed}
use Rattle.wanted_rules.proofs.facts.claimed_by.Goals as goal

pub loop-other-preserved : goal.loop-other-preserved
loop-other-preserved c =
    c.in_ok-add_claimant.ensures
    ∙ next_claimed (settings_of c.args.settings.now) c.args.repo c.args.gone c.args.repos.now c.loop-other.other-index c.other-item.result c.loop-other.claimed c.loop-other-test.true c.other-item.is c.loop-other.invariant
