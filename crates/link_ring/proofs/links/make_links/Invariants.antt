-- What holds at each turn of the loops of `links::make_links`.
use Rattle.std.proofs.Common.{◌≡◌, ◌*◌, All, replicate, vec_len}
use Rattle.link_ring.specs.Ends.{fresh}
use Rattle.link_ring.proofs.links.make_links.Given as goal

abbrev pub invariant-loop : goal.invariant-loop
invariant-loop l = record {
  count : vec_len l.links ≡ l.counter;
  fresh : All (λ k. k.ends.items ≡ replicate (l.repositories * 8) fresh) l.links.items;
}
