-- What holds at each turn of the loop of `closing::listings`.
use Rattle.std.proofs.Common.{◌≡◌, ◌≤◌, vec_capacity, vec_len}
use Rattle.annex_base.specs.Lists.{Each}
use Rattle.node_steps.specs.Shutting.{IsListing}
use Rattle.node_steps.proofs.closing.listings.Given as goal

abbrev pub invariant-loop : goal.invariant-loop
invariant-loop l = record {
  lists : Each IsListing l.lists.items;
  count : vec_len l.lists ≡ l.counter;
  room : l.count ≤ vec_capacity l.lists;
}
