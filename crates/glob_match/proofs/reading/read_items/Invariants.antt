-- What holds at each turn of the loops of `reading::read_items`.
use Rattle.std.proofs.Common.{◌≡◌, ◌++◌, length, flat_map, true}
use Rattle.std.specs.List.{list_all}
use Rattle.glob_match.specs.Glob.{is_item, item_text}
use Rattle.glob_match.proofs.reading.read_items.Given as goal

abbrev pub invariant-loop-first : goal.invariant-loop-first
invariant-loop-first l = (list_all is_item l.items.items ≡ true) × (l.pattern ≡ flat_map item_text l.items.items ++ l.rest)

abbrev pub decreases-loop-first : goal.decreases-loop-first
decreases-loop-first l = length l.rest
