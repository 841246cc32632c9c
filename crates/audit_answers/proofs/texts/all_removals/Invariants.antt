-- What holds at each turn of the loop of `texts::all_removals`.
use Rattle.std.proofs.Common.{◌≡◌, ◌≤◌, ◌*◌, take}
use Rattle.audit_answers.specs.Texts.{all_removals}
use Rattle.audit_answers.proofs.texts.all_removals.Given as goal

-- the removals of the keys so far were counted, each key's less than 2^32
abbrev pub invariant-loop-key : goal.invariant-loop-key
invariant-loop-key l = (l.count ≡ all_removals (take l.key-index l.keys)) × (l.count ≤ l.key-index * 4294967295)
