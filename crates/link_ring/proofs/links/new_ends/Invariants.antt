-- What holds at each turn of the loops of `links::new_ends`.
use Rattle.std.proofs.Common.{◌≡◌, replicate}
use Rattle.link_ring.specs.Ends.{fresh}
use Rattle.link_ring.proofs.links.new_ends.Given as goal

abbrev pub invariant-loop : goal.invariant-loop
invariant-loop l = l.ends.items ≡ replicate l.counter fresh
