-- What the proof of `index::take_path` needs beside the tactics.
use Rattle.std.proofs.Common.{Some, None, ap, sym, ◌∙◌}
use Rattle.std.specs.Option.{option_copied_mut}
use Rattle.annex_key.proofs.IndexLemmas.{index_taken, set_less, sets_none, has_none, written}
use Rattle.annex_key.proofs.index.take_path.Goals as goal

pub returns-then-is_last : goal.returns-then-is_last
returns-then-is_last c =
    let found = sym c.get_mut.ensures.value ∙ ap option_copied_mut c.in-Some.is in
    let now = c.get_mut.follows.lender c.remove.new.self in
    let sets = written c.args.index.now now c.args.key.now c.in-Some.paths.now c.remove.new.self (c.get_mut.follows.holds c.remove.new.self) found in
    index_taken c.args.index.now c.remove-then-is_last.new.self c.args.key.now c.args.path.now None
    (sets_none c.args.index.now now c.remove-then-is_last.new.self c.args.key.now (Some c.remove.new.self) sets c.remove-then-is_last.ensures.updates.0)
    (λ p. has_none c.remove.new.self p (c.is_empty-is_last.ensures.0 c.if-is_last.true) ∙ set_less c.in-Some.paths.now c.remove.new.self c.args.path.now _ found c.remove.ensures.updates.0 p)

pub returns-else-is_last : goal.returns-else-is_last
returns-else-is_last c =
    let found = sym c.get_mut.ensures.value ∙ ap option_copied_mut c.in-Some.is in
    let now = c.get_mut.follows.lender c.remove.new.self in
    let sets = written c.args.index.now now c.args.key.now c.in-Some.paths.now c.remove.new.self (c.get_mut.follows.holds c.remove.new.self) found in
    index_taken c.args.index.now now c.args.key.now c.args.path.now (Some c.remove.new.self) sets
    (set_less c.in-Some.paths.now c.remove.new.self c.args.path.now _ found c.remove.ensures.updates.0)
