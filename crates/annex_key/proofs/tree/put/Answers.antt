-- What the proof of `tree::put` needs beside the tactics.
use Rattle.std.proofs.Common.{ap, sym, ◌∙◌}
use Rattle.std.specs.Option.{option_copied}
use Rattle.annex_key.specs.Tree.{key_of}
use Rattle.annex_key.specs.TreeView.{view_of}
use Rattle.annex_key.proofs.IndexedLemmas.{index_set, index_back, added_same, taken_same, left_same, with_same}
use Rattle.annex_key.proofs.tree.put.Goals as goal

pub returns-in-Ok-clause-indexed : goal.returns-in-Ok-clause-indexed
returns-in-Ok-clause-indexed c =
    let t = view_of c.args.keys.now.entries in
    let path = c.args.path.now in
    let added = c.in_ok-added.ensures.cases ∙ c.in_ok-text.ensures in
    index_set t (view_of c.replace.new.keys.entries) c.args.paths.now c.add_path.new.index c.leave_key.new.index path c.args.key.now (option_copied c.as_ref.result) c.requires
    (c.as_ref.ensures.value ∙ c.in-Ok.ensures.old ∙ ap (key_of t) c.in_ok-row.ensures.items)
    (with_same t (view_of c.replace.new.keys.entries) c.in_ok-row.row.items path c.in_ok-copy.copy c.args.key.now c.in_ok-row.ensures.items c.in_ok-copy.ensures c.in-Ok.ensures.ok)
    c.replace.ensures.sorted
    (added_same c.args.paths.now c.add_path.new.index c.in_ok-copy-2.field-0 c.args.key.now c.in_ok-added.added path c.in_ok-copy-2.ensures added c.in_ok-add_path.ensures.ok)
    (left_same c.add_path.new.index c.leave_key.new.index (option_copied c.as_ref.result) c.args.key.now c.in_ok-text.text path c.in_ok-text.ensures c.leave_key.ensures)

pub returns-clause-indexed : goal.returns-clause-indexed
returns-clause-indexed c =
    let t = view_of c.args.keys.now.entries in
    let path = c.args.path.now in
    let added = c.in_ok-added.ensures.cases ∙ c.in_ok-text.ensures in
    index_back t (view_of c.replace.new.keys.entries) c.args.paths.now c.add_path.new.index c.take_path.new.index path c.args.key.now c.requires
    (ap (key_of t) (sym c.in_ok-row.ensures.items) ∙ c.in-Err.ensures.none)
    c.in-Err.ensures.err
    (added_same c.args.paths.now c.add_path.new.index c.in_ok-copy-2.field-0 c.args.key.now c.in_ok-added.added path c.in_ok-copy-2.ensures added c.in_ok-add_path.ensures.ok)
    (taken_same c.add_path.new.index c.take_path.new.index c.args.key.now c.in_ok-text.text path c.in_ok-text.ensures c.take_path.ensures)
