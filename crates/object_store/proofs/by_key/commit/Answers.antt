-- What the proof of `by_key::commit` needs beside the tactics.
use Rattle.std.proofs.Common.{Some, ap, ◌∙◌}
use Rattle.object_store.specs.ByKey.{bytes_at, part_at}
use Rattle.object_store.specs.Stores.{with_at}
use Rattle.object_store.proofs.ByKeyLemmas.{short_some, small_as, small_with}
use Rattle.object_store.proofs.by_key.commit.Goals as goal

pub returns-in_err-make_place-clause-small : goal.returns-in_err-make_place-clause-small
returns-in_err-make_place-clause-small c =
    small_as (bytes_at c.args.contents.now.entries) (bytes_at c.make_place.new.contents.entries) c.in_err-make_place.ensures.err c.requires.small

pub returns-clause-content : goal.returns-clause-content
returns-clause-content c =
    let old = bytes_at c.args.contents.now.entries in
    c.fill_place.ensures ∙ c.in_ok-make_place.ensures.others (Some c.take_part-part.result)
    ∙ ap (λ p. with_at old c.args.key.now (Some p)) c.take_part-part.ensures.value

pub returns-clause-small : goal.returns-clause-small
returns-clause-small c =
    let old = bytes_at c.args.contents.now.entries in
    let part = part_at c.args.parts.now.entries c.args.key.now in
    small_as (with_at old c.args.key.now (Some part)) (bytes_at c.fill_place.new.contents.entries) (returns-clause-content c)
    (small_with old c.args.key.now (Some part) c.requires.small (short_some part (c.requires.short c.args.key.now)))
