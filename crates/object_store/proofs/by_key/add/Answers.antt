-- What the proof of `by_key::add` needs beside the tactics.
use Rattle.std.proofs.Common.{◌++◌, Some, ap, ◌∙◌}
use Rattle.object_store.specs.ByKey.{part_at}
use Rattle.object_store.specs.Stores.{with_at}
use Rattle.object_store.proofs.ByKeyLemmas.{part_from, short_as, short_with}
use Rattle.object_store.proofs.by_key.add.Goals as goal

pub returns-clause-ok : goal.returns-clause-ok
returns-clause-ok c =
    let old = c.args.parts.now.entries in
    let own = c.in_ok-own.own in
    part_from old c.put.new.map.entries own (Some c.append.new.self) c.in_ok-put.ensures.ok
    ∙ ap (λ k. with_at (part_at old) k c.append.new.self) c.in_ok-own.ensures
    ∙ ap (with_at (part_at old) c.args.key.now) (c.in_ok-append.ensures.ok ∙ ap (λ l. l ++ c.args.piece.now) c.new-blocks.ensures)

pub returns-clause-short : goal.returns-clause-short
returns-clause-short c =
    let old = c.args.parts.now.entries in
    let own = c.in_ok-own.own in
    short_as (with_at (part_at old) own c.append.new.self) (part_at c.put.new.map.entries) (part_from old c.put.new.map.entries own (Some c.append.new.self) c.in_ok-put.ensures.ok)
    (short_with (part_at old) own c.append.new.self c.requires c.in_ok-append.ensures.small)
