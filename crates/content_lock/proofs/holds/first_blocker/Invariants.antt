-- What holds at each turn of the loops of `holds::first_blocker`.
use Rattle.std.proofs.Common.{◌≡◌, fold, take, None}
use Rattle.content_lock.specs.Indexed.{after_hold, hold_at}
use Rattle.content_lock.proofs.holds.first_blocker.Given as goal

-- what the numbers so far give
abbrev pub invariant-loop-number : goal.invariant-loop-number
invariant-loop-number l = l.found ≡ fold (λ found n. after_hold l.key l.now (hold_at l.by_number.entries n) found) None (take l.number-index l.numbers)
