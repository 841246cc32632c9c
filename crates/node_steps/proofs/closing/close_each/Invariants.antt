-- What holds at each turn of the loop of `closing::close_each`.
use Rattle.std.proofs.Common.{◌≡◌, ◌<◌, ◌≤◌, ◌+◌, true, All, drop, is_some, length, map, vec_capacity, vec_len}
use Rattle.annex_base.specs.Lists.{Each}
use Rattle.node_ends.specs.Ends.{link_at, name_of}
use Rattle.run_data.specs.Histories.{most_entries}
use Rattle.node_steps.specs.Closing.{open_count}
use Rattle.node_steps.specs.Shutting.{IsListing}
use Rattle.node_steps.proofs.CloseLemmas.{ShutsOn}
use Rattle.node_steps.proofs.closing.close_each.Given as goal

abbrev pub invariant-loop-at : goal.invariant-loop-at
invariant-loop-at l = record {
  there : Each (λ id. is_some (link_at l.parts.links (name_of id)) ≡ true) (drop l.at l.ids);
  lists : Each IsListing l.lists.items;
  enough : vec_len l.lists + l.at ≡ length l.ids;
  numbers : All (λ h. h.number < vec_len l.past.history + 1) l.parts.table.holds;
  few : vec_len l.past.history + open_count l.parts.links (map name_of (drop l.at l.ids)) ≤ most_entries;
  room : vec_len l.past.history + vec_len l.lists ≤ vec_capacity l.past.history;
  closes : ShutsOn l.ids (drop l.at l.ids) l.fn.parts l.parts l.fn.past l.past;
}
