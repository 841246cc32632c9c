-- The stores that were passed have their nodes.
use Rattle.std.proofs.Common.{◌≡◌, ◌+◌, ◌≤◌, ◌++◌, length, vec_len, vec_capacity}
use Rattle.std.specs.Vec.Iter.{into_iter_items, into_iter_len}
use Rattle.annex_base.specs.Lists.{Each}
use Rattle.joined_nodes.specs.Making.{AreFresh, AreNewSoFar}
use Rattle.joined_nodes.proofs.making.add_all.Given as goal

abbrev pub invariant-loop-keeper : goal.invariant-loop-keeper
invariant-loop-keeper g l = record {
  order : l.yielded ++ into_iter_items l.keeper-iterator ≡ into_iter_items l.initial.keeper-iterator;
  left : into_iter_len l.keeper-iterator ≡ length (into_iter_items l.keeper-iterator);
  new : AreNewSoFar l.repos l.yielded l.nodes.items;
  links : vec_len l.links + length l.yielded ≡ length l.repos;
  fresh : Each (AreFresh (length l.repos)) l.links.items;
  room : length l.repos ≤ vec_capacity l.nodes;
}
