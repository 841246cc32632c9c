-- What the proof of `settings::Settings::new` needs beside the tactics.
use Rattle.trust_groups.proofs.ExprLemmas.{none_read}
use Rattle.trust_groups.proofs.GlobLemmas.{none_kept}
use Rattle.trust_groups.proofs.settings.Settings.new.Goals as goal

pub invariant_of-result : goal.invariant_of-result
invariant_of-result c = (
  none_kept c.new-globs.result.entries c.new-files.result.entries c.new-files.ensures.empty,
  none_read c.new-exprs.result c.new-files.result.entries c.new-files.ensures.empty,
)
