-- How far a job has come in a content.
use Rattle.std.proofs.Common.{ℕ, ◌≤◌, arith}
use Rattle.state_jobs.specs.Phases.{IsBelow}
use Rattle.state_jobs.specs.declared.phase.Phase.{Phase}
use Rattle.state_jobs.specs.declared.phase.Phase.TheVariants.{GetsBytes, PutsBytes}

pub below_more : (limit more : ℕ) (phase : Phase) → limit ≤ more → IsBelow limit phase → IsBelow more phase
below_more limit more (GetsBytes peer start size left) le below = omega (arith, below)
below_more limit more (PutsBytes peer start at left) le below = omega (arith, below)
below_more limit more phase le below = omega (arith, below)
