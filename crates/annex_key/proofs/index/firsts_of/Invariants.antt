-- What holds at each turn of the loops of `index::firsts_of`.
use Rattle.annex_key.proofs.FirstLemmas.{FirstsSoFar}
use Rattle.annex_key.proofs.index.firsts_of.Given as goal

abbrev pub invariant-loop-key : goal.invariant-loop-key
invariant-loop-key l = FirstsSoFar l.index l.firsts l.key-iterator
