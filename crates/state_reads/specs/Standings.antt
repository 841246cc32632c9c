-- How the logs see a repository, as the Rust value says it (own).
use Rattle.node_model.specs.Evidence as drops
use Rattle.state_reads.specs.declared.standing.Standing.{Standing}
use Rattle.state_reads.specs.declared.standing.Standing.TheVariants as standings

abbrev pub standing_of : Standing → drops.Standing
standing_of standings.Claimed = drops.Claimed
standing_of (standings.Ignored cause) = drops.Ignored cause
standing_of standings.Asked = drops.Asked
