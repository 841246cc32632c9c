-- The past after each step of a repository is the past before it with entries of that repository in front.
use Rattle.driver_model.specs.ScriptSteps.{begins, compacts_files, has, merges_files, sets, sets_part, writes}
use Rattle.driver_model.specs.Turning.{turn}
use Rattle.driver_model.proofs.OwnEntries.{adds_own, begins_owns, compacted_owns, has_owns, merged_owns, part_owns, sets_owns, turn_owns, writes_owns}
use Rattle.driver_model.proofs.limits.steps_add_own_entries.Goals as goal

pub returns : goal.returns
returns c = record {
  turn = λ g r d. adds_own r d (turn g r d) (turn_owns r g d);
  has = λ g r key bytes d. adds_own r d (has g r key bytes d) (has_owns r g key bytes d);
  part = λ g r key bytes d. adds_own r d (sets_part g r key bytes d) (part_owns r g key bytes d);
  writes = λ r file line d. adds_own r d (writes r file line d) (writes_owns r file line d);
  sets = λ g r kind topic value d. adds_own r d (sets g r kind topic value d) (sets_owns r g kind topic value d);
  merges = λ r files d. adds_own r d (merges_files r files d) (merged_owns r files d);
  compacts = λ r files d. adds_own r d (compacts_files r files d) (compacted_owns r files d);
  begins = λ r job d. adds_own r d (begins r job d) (begins_owns r job d);
}
