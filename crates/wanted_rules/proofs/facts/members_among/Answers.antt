-- What the proof of `facts::members_among` needs beside the tactics.
use Rattle.std.proofs.Common.{◌∙◌}
use Rattle.trust_groups.specs.View.{settings_of}
use Rattle.wanted_rules.proofs.WishLemmas.{next_members}
use Rattle.wanted_rules.proofs.facts.members_among.Goals as goal

pub loop-repo-preserved : goal.loop-repo-preserved
loop-repo-preserved c =
    c.in_ok-add_members.ensures
    ∙ next_members (settings_of c.args.settings.now) c.args.repos.now c.loop-repo.repo-index c.repo-item.result c.loop-repo.members c.loop-repo-test.true c.repo-item.is c.loop-repo.invariant
