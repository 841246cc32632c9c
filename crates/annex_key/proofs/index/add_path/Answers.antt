-- What the proof of `index::add_path` needs beside the tactics.
use Rattle.std.proofs.Common.{Some, ap, sym, ◌∙◌}
use Rattle.std.specs.Option.{option_copied_mut}
use Rattle.annex_base.proofs.Results.{OnErr-always}
use Rattle.annex_key.proofs.IndexLemmas.{index_added, index_same, set_more, set_one, sets_after, written}
use Rattle.annex_key.proofs.index.add_path.Goals as goal

pub returns-in_err-insert-clause-err : goal.returns-in_err-insert-clause-err
returns-in_err-insert-clause-err c =
    let found = sym c.get_mut.ensures.value ∙ ap option_copied_mut c.in-Some.is in
    let now = c.get_mut.follows.lender c.insert.new.self in
    let sets = written c.args.index.now now c.args.key c.in-Some.paths.now c.insert.new.self (c.get_mut.follows.holds c.insert.new.self) found in
    OnErr-always _ c.from_residual.result (index_same c.args.index.now now c.args.key c.in-Some.paths.now c.insert.new.self sets found c.in_err-insert.ensures.err)

pub returns-in-Some-clause-ok : goal.returns-in-Some-clause-ok
returns-in-Some-clause-ok c =
    let found = sym c.get_mut.ensures.value ∙ ap option_copied_mut c.in-Some.is in
    let now = c.get_mut.follows.lender c.insert.new.self in
    let sets = written c.args.index.now now c.args.key c.in-Some.paths.now c.insert.new.self (c.get_mut.follows.holds c.insert.new.self) found in
    index_added c.args.index.now now c.args.key c.args.path (Some c.insert.new.self) sets
    (set_more c.in-Some.paths.now c.insert.new.self c.args.path _ found c.in_ok-insert.ensures.updates.0)

pub returns-clause-ok : goal.returns-clause-ok
returns-clause-ok c =
    let none = sym c.get_mut.ensures.value ∙ ap option_copied_mut c.in_default.is in
    let sets = sets_after c.args.index.now c.get_mut.follows.lender-at-none c.insert-3.new.self c.args.key (Some c.insert-2.new.self) c.get_mut.follows.holds-at-none c.in_ok-insert-3.ensures.updates.0 in
    index_added c.args.index.now c.insert-3.new.self c.args.key c.args.path (Some c.insert-2.new.self) sets
    (set_one c.new-paths.result c.insert-2.new.self c.args.path _ none c.new-paths.ensures.empty c.in_ok-insert-2.ensures.updates.0)
