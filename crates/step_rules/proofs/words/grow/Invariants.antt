-- What holds at each turn of the loop of `words::grow`.
use Rattle.std.proofs.Common.{◌≡◌, ◌+◌, ◌-◌, ℕ, length}
use Rattle.job_makes.specs.Turns.{word_in}
use Rattle.step_rules.proofs.words.grow.Given as goal

abbrev pub invariant-loop-words : goal.invariant-loop-words
invariant-loop-words l = (c : ℕ) → word_in l.words.items c ≡ word_in l.fn.words.items c

abbrev pub decreases-loop-words : goal.decreases-loop-words
decreases-loop-words l = (l.place + 1) - length l.words.items
