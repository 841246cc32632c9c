-- What holds at each turn of the loops of `standing::standings`.
use Rattle.std.proofs.Common.{◌≡◌, map, take}
use Rattle.trust_groups.specs.View.{settings_of}
use Rattle.node_model.specs.Evidence.{standing_by}
use Rattle.state_reads.specs.Standings.{standing_of}
use Rattle.state_reads.proofs.standing.standings.Given as goal

abbrev pub invariant-loop-id : goal.invariant-loop-id
invariant-loop-id l = map standing_of l.standings.items ≡ map (standing_by (settings_of l.settings) l.key) (take l.id-index l.ids)
