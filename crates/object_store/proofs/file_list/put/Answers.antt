-- What the proof of `file_list::put` needs beside the tactics.
use Rattle.std.proofs.Common.{Some, ap, ◌∙◌}
use Rattle.object_store.specs.ByKey.{bytes_at}
use Rattle.object_store.specs.Stores.{with_at}
use Rattle.object_store.proofs.ByKeyLemmas.{updated}
use Rattle.object_store.proofs.file_list.put.Goals as goal

pub returns-clause-ok : goal.returns-clause-ok
returns-clause-ok c =
    let old = bytes_at c.args.files.now.entries in
    updated c.args.files.now.entries c.insert.new.self.entries c.in_ok-name.name (Some c.in_ok-file.file) c.in_ok-insert.ensures.updates.0
    ∙ ap (λ k. with_at old k (Some c.in_ok-file.file)) c.in_ok-name.ensures
    ∙ ap (λ b. with_at old c.args.path.now (Some b)) c.in_ok-file.ensures
