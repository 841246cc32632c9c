-- What the proof of `by_key::make_place` needs beside the tactics.
use Rattle.std.proofs.Common.{Some, ap, ◌∙◌}
use Rattle.std.specs.Prelude.{is_some}
use Rattle.object_store.specs.ByKey.{bytes_at}
use Rattle.object_store.specs.Stores.{with_at}
use Rattle.object_store.proofs.ByKeyLemmas.{with_here, with_twice}
use Rattle.object_store.proofs.by_key.make_place.Goals as goal

pub returns-clause-there : goal.returns-clause-there
returns-clause-there c =
    let old = bytes_at c.args.contents.now.entries in
    let e = c.in_ok-put.ensures.ok ∙ ap (λ k. with_at old k (Some c.new-empty.result)) c.in_ok-own.ensures in
    ap (λ f. is_some (f c.args.key.now)) e ∙ ap is_some (with_here old c.args.key.now (Some c.new-empty.result))

pub returns-clause-others : goal.returns-clause-others
returns-clause-others c w =
    let old = bytes_at c.args.contents.now.entries in
    let e = c.in_ok-put.ensures.ok ∙ ap (λ k. with_at old k (Some c.new-empty.result)) c.in_ok-own.ensures in
    ap (λ f. with_at f c.args.key.now w) e ∙ with_twice old c.args.key.now (Some c.new-empty.result) w
