-- What holds at each turn of the loop of `closing::count_open`.
use Rattle.std.proofs.Common.{◌≡◌, ◌≤◌, ◌+◌, true, drop, is_some, map}
use Rattle.annex_base.specs.Lists.{Each}
use Rattle.node_ends.specs.Ends.{link_at, name_of}
use Rattle.node_steps.specs.Closing.{open_count}
use Rattle.node_steps.proofs.closing.count_open.Given as goal

abbrev pub invariant-loop-at : goal.invariant-loop-at
invariant-loop-at l = record {
  there : Each (λ id. is_some (link_at l.parts.links (name_of id)) ≡ true) (drop l.at l.ids);
  low : l.count ≤ l.at;
  counts : l.count + open_count l.parts.links (map name_of (drop l.at l.ids)) ≡ open_count l.parts.links (map name_of l.ids);
}
