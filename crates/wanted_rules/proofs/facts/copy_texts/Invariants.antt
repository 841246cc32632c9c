-- What holds at each turn of the loops of `facts::copy_texts`.
use Rattle.std.proofs.Common.{◌≡◌, take}
use Rattle.wanted_rules.proofs.facts.copy_texts.Given as goal

abbrev pub invariant-loop-text : goal.invariant-loop-text
invariant-loop-text l = l.copied ≡ take l.text-index l.texts
