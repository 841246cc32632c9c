-- What the proof of `holds::enlist` needs beside the tactics.
use Rattle.std.proofs.Common.{Some, ap, sym, ◌∙◌, is_some}
use Rattle.std.specs.Option.{option_copied_mut}
use Rattle.annex_base.proofs.Results.{OnErr-always}
use Rattle.content_lock.specs.Indexed.{items_in}
use Rattle.content_lock.proofs.IndexedLemmas.{listed_still}
use Rattle.content_lock.proofs.holds.enlist.Goals as goal

pub returns-in_err-push-clause-err : goal.returns-in_err-push-clause-err
returns-in_err-push-clause-err c =
    let found = sym c.get_mut.ensures.value ∙ ap option_copied_mut c.in-Some.is in
    let now = c.get_mut.follows.lender c.push.new.self in
    let sets = ((c.get_mut.follows.holds c.push.new.self).3 (ap is_some found)).0 in
    OnErr-always _ c.from_residual.result
    (listed_still c.args.numbers.now.entries now.entries c.args.key.now (Some c.push.new.self) sets (c.in_err-push.ensures.items ∙ ap items_in (sym found)))
