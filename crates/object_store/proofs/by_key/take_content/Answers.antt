-- What the proof of `by_key::take_content` needs beside the tactics.
use Rattle.std.proofs.Common.{None}
use Rattle.object_store.specs.ByKey.{bytes_at}
use Rattle.object_store.specs.Stores.{with_at}
use Rattle.object_store.proofs.ByKeyLemmas.{small_as, small_none, small_with, updated}
use Rattle.object_store.proofs.by_key.take_content.Goals as goal

pub returns-clause-contents : goal.returns-clause-contents
returns-clause-contents c = updated c.args.contents.now.entries c.remove.new.self.entries c.args.key.now None c.remove.ensures.updates.0

pub returns-clause-small : goal.returns-clause-small
returns-clause-small c =
    let old = bytes_at c.args.contents.now.entries in
    small_as (with_at old c.args.key.now None) (bytes_at c.remove.new.self.entries) (returns-clause-contents c)
    (small_with old c.args.key.now None c.requires small_none)
