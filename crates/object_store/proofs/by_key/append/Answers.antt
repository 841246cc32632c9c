-- What the proof of `by_key::append` needs beside the tactics.
use Rattle.std.proofs.Common.{◌≡◌, ◌++◌, [], Some, true, ap, sym, ◌∙◌}
use Rattle.std.specs.Prelude.{is_some}
use Rattle.std.specs.Option.{unwrap_or}
use Rattle.annex_base.proofs.Results.{OnErr-always}
use Rattle.object_store.specs.ByKey.{bytes_at, part_at}
use Rattle.object_store.specs.Stores.{with_at}
use Rattle.object_store.proofs.ByKeyLemmas.{part_from, updated, with_same}
use Rattle.object_store.proofs.by_key.append.Goals as goal

pub returns-in_err-append-clause-err : goal.returns-in_err-append-clause-err
returns-in_err-append-clause-err c =
    let old = c.args.parts.now.entries in
    let key = c.args.key.now in
    let w = c.append.new.self in
    let new = (c.get_mut.follows.lender w).entries in
    let found : is_some (bytes_at old key) ≡ true = ap is_some (sym c.in-Some.ensures.value) in
    let same : w ≡ part_at old key = c.in_err-append.ensures.err ∙ ap (λ o. unwrap_or o []) c.in-Some.ensures.value in
    OnErr-always (part_at new ≡ part_at old) c.from_residual.result
    (part_from old new key (Some w) (updated old new key (Some w) ((c.get_mut.follows.holds w).3 found).0) ∙ with_same (part_at old) key w same)

pub returns-in-Some-clause-ok : goal.returns-in-Some-clause-ok
returns-in-Some-clause-ok c =
    let old = c.args.parts.now.entries in
    let key = c.args.key.now in
    let w = c.append.new.self in
    let new = (c.get_mut.follows.lender w).entries in
    let found : is_some (bytes_at old key) ≡ true = ap is_some (sym c.in-Some.ensures.value) in
    part_from old new key (Some w) (updated old new key (Some w) ((c.get_mut.follows.holds w).3 found).0)
    ∙ ap (with_at (part_at old) key) (c.in_ok-append.ensures.ok ∙ ap (λ o. unwrap_or o [] ++ c.args.piece.now) c.in-Some.ensures.value)
