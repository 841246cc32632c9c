-- What the proof of `sets::Sets::read` needs beside the tactics.
use Rattle.std.proofs.Common.{ap, length-set, not, ◌∙◌}
use Rattle.union_merge.specs.Branch.{Files, lines_at}
use Rattle.trust_groups.specs.Settings.{settings}
use Rattle.report_tables.proofs.SetTables.{read_there, sets_read, was_there}
use Rattle.report_tables.proofs.sets.Sets.read.Goals as goal

pub returns-in_ok-settings-clause-has : goal.returns-in_ok-settings-clause-has
returns-in_ok-settings-clause-has c = λ repositories past has is. record {
  number_is = length-set c.args.self.now.read.items c.args.repo _ ∙ has.number_is;
  each = λ r below. sets_read c.args.self.now.read.items c.args.repo r c.in_ok-settings.settings past c.requires
      (c.in_ok-settings.ensures.exact ∙ ap (λ (files : Files). settings (lines_at files)) is) (has.each r below);
}

pub returns-in_ok-settings-clause-there : goal.returns-in_ok-settings-clause-there
returns-in_ok-settings-clause-there c = read_there c.args.self.now.read.items c.args.repo c.in_ok-settings.settings c.requires

pub returns-else-is_none-clause-there : goal.returns-else-is_none-clause-there
returns-else-is_none-clause-there c = was_there c.args.self.now.read.items c.args.repo c.index.result.now c.requires c.index.ensures (c.is_none.ensures ∙ ap not c.if-is_none.false)
