-- Those of the repositories that were passed.
use Rattle.std.proofs.Common.{◌≡◌, take}
use Rattle.std.specs.Prelude.{map}
use Rattle.trust_groups.specs.View.{settings_of}
use Rattle.drop_worker.specs.Standings.{standing_of}
use Rattle.node_drops.specs.Reads.{standings_by}
use Rattle.node_drops.proofs.known.standings.Given as goal

abbrev pub invariant-loop-id : goal.invariant-loop-id
invariant-loop-id l = map standing_of l.standings.items ≡ standings_by (settings_of l.settings) l.key (take l.id-index l.ids)
