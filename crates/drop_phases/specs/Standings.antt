-- How the settings see a repository, as the Rust value says it (own).
use Rattle.node_model.specs.Evidence as drops
use Rattle.drop_phases.specs.declared.here.Standing.{Standing}
use Rattle.drop_phases.specs.declared.here.Standing.TheVariants as standings

abbrev pub standing_of : Standing → drops.Standing
standing_of standings.Claimed = drops.Claimed
standing_of (standings.Ignored cause) = drops.Ignored cause
standing_of standings.Asked = drops.Asked
