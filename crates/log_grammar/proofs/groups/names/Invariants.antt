-- What holds at each turn of the loops of `groups::names`.
use Rattle.std.proofs.Common.{◌≡◌, map, take}
use Rattle.log_grammar.proofs.groups.names.Given as goal

-- the names of the words so far
abbrev pub invariant-loop-word : goal.invariant-loop-word
invariant-loop-word l = l.names ≡ map (λ w. w.now) (take l.word-index l.words)
