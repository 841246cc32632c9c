-- What the proof of `tree::replace` needs beside the tactics.
use Rattle.std.proofs.Common.{ap, sym, ◌∙◌}
use Rattle.annex_base.proofs.Results.{OnErr-always}
use Rattle.annex_key.specs.TreeView.{view_of}
use Rattle.annex_base.proofs.Rows.{lookup-shown, shown-insert_entry}
use Rattle.annex_key.proofs.TreeLaws.{seen-sorted}
use Rattle.annex_key.proofs.tree.replace.Goals as goal

pub returns-in_err-insert-clause-none : goal.returns-in_err-insert-clause-none
returns-in_err-insert-clause-none c =
    OnErr-always _ c.from_residual.result (sym (lookup-shown c.args.keys.now.entries c.args.path.items) ∙ c.in_err-insert.ensures.absent)

pub returns-in_err-insert-clause-sorted : goal.returns-in_err-insert-clause-sorted
returns-in_err-insert-clause-sorted c = seen-sorted c.insert.new.self.entries c.insert.ensures.ordered

pub returns-clause-ok : goal.returns-clause-ok
returns-clause-ok c = ap view_of c.in_ok-insert.ensures.entries ∙ shown-insert_entry c.args.keys.now.entries c.args.path c.args.key

pub returns-clause-old : goal.returns-clause-old
returns-clause-old c = c.in_ok-insert.ensures.old ∙ lookup-shown c.args.keys.now.entries c.args.path.items

pub returns-clause-sorted : goal.returns-clause-sorted
returns-clause-sorted c = seen-sorted c.insert.new.self.entries c.insert.ensures.ordered
