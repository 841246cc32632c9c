-- What holds at each turn of the loops of `filling::write_filling`.
use Rattle.std.proofs.Common.{◌-◌, ◌≡◌, ◌≤◌, length}
use Rattle.script_words.specs.Contents.{fill_bytes, with_front}
use Rattle.script_words.proofs.filling.write_filling.Given as goal

abbrev pub invariant-loop-at : goal.invariant-loop-at
invariant-loop-at l =
    (l.room ≡ with_front (fill_bytes l.at l.first) l.fn.room) × (l.at ≤ l.count) × (l.count ≤ length l.fn.room)

-- proposed from the loop's first test
abbrev pub decreases-loop-at : goal.decreases-loop-at
decreases-loop-at l = l.count - l.at
