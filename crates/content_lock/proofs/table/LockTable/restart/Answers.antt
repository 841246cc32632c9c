-- What the proof of `table::LockTable::restart` needs beside the tactics.
use Rattle.std.proofs.Common.{List, map, sym, ap, subst, true, ◌≡◌, ◌∙◌}
use Rattle.annex_base.specs.Lists.{Each}
use Rattle.run_data.specs.declared.row.Hold.{Hold}
use Rattle.content_lock.specs.Rows.{Rows}
use Rattle.content_lock.specs.Stored.{label_of}
use Rattle.content_lock.proofs.StoredLemmas.{labels_restarted, restarted_kept}
use Rattle.content_lock.proofs.TokenLemmas.{nobody_owns}
use Rattle.content_lock.proofs.table.LockTable.restart.Goals as goal

pub returns-clause-stored : goal.returns-clause-stored
returns-clause-stored c =
    ap (map label_of) c.restart.ensures ∙ labels_restarted c.args.now c.self.inside.holds ∙ ap (λ (r : Rows). map label_of r.holds) c.self.view_is

pub returns-clause-nobody : goal.returns-clause-nobody
returns-clause-nobody c = λ by.
    nobody_owns by c.restart.new.self (subst (λ (hs : List Hold). Each (λ h. h.kept ≡ true) hs) (sym c.restart.ensures) (restarted_kept c.args.now c.self.inside.holds))
