-- What the proof of `table::LockTable::unbar` needs beside the tactics.
use Rattle.std.proofs.Common.{ap, ◌∙◌}
use Rattle.content_lock.specs.Rows.{Rows, bar_at}
use Rattle.content_lock.specs.Tokens.{BarView}
use Rattle.content_lock.proofs.StoredLemmas.{unbar_others}
use Rattle.content_lock.proofs.table.LockTable.unbar.Goals as goal

pub returns-clause-others : goal.returns-clause-others
returns-clause-others c = λ other differ has.
    let rows = c.self.view_is in
    let given = (λ i. bar_at (rows i) (ap (λ (b : BarView). b.key) c.bar.view_is i)) ∙ c.requires.given in
    unbar_others c.self.inside.bars.entries c.swap_remove.new.self.entries c.bar.inside.key c.args.bar.job c.swap_remove.ensures.updates.0 given other differ
    (ap (λ (r : Rows). bar_at r other.key) rows ∙ has)
