-- What the proof of `holds::first_blocker` needs beside the tactics.
use Rattle.std.proofs.Common.{ap, sym, ◌∙◌, None, ℕ, Option, get_or}
use Rattle.std.proofs.lemmas.List.Sums.{fold_more}
use Rattle.content_lock.specs.declared.hold.Blocker.{Blocker}
use Rattle.content_lock.specs.Indexed.{after_hold, hold_at}
use Rattle.content_lock.proofs.holds.first_blocker.Goals as goal

pub loop-number-preserved : goal.loop-number-preserved
loop-number-preserved c =
    let key = c.args.key.now in
    let step : Option Blocker → ℕ → Option Blocker = λ found n. after_hold key c.args.now (hold_at c.args.by_number.now.entries n) found in
    c.named_after-found.ensures ∙ ap (λ o. after_hold key c.args.now o c.loop-number.found) c.get.ensures.value ∙ ap (λ f. step f (get_or c.args.numbers.now c.loop-number.number-index 0)) c.loop-number.invariant
    ∙ sym (fold_more step None c.args.numbers.now c.loop-number.number-index 0 c.loop-number-test.true)
