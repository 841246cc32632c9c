-- The past after each step is the past before it with entries in front.
use Rattle.driver_model.specs.Driving.{turns, with_mark}
use Rattle.driver_model.specs.Rounds.{blocks, round, settles}
use Rattle.driver_model.specs.ScriptSteps.{begins, closes, compacts, crashes, enters, has, merges, sets, sets_part, will_fail, writes}
use Rattle.driver_model.specs.Syncs.{carries_out, drops_spared, each_merges, merges_each, shares_logs, transfers}
use Rattle.driver_model.specs.Turning.{turn}
use Rattle.driver_model.proofs.Adding.{begins_adds, blocks_adds, carries_adds, closes_adds, compacts_adds, crashes_adds, drops_spared_adds, each_merges_adds, enters_adds, fail_adds, has_adds, line_adds, mark_adds, merges_adds, merges_each_adds, only_adds, part_adds, round_adds, sets_adds, settles_adds, shares_adds, transfers_adds, turn_adds, turns_adds, waits_adds, writes_adds}
use Rattle.driver_model.proofs.steps.drivers_only_add.Goals as goal

pub returns : goal.returns
returns c = record {
  turn = λ g r d. only_adds d (turn g r d) (turn_adds g r d);
  has = λ g r key bytes d. only_adds d (has g r key bytes d) (has_adds g r key bytes d);
  part = λ g r key bytes d. only_adds d (sets_part g r key bytes d) (part_adds g r key bytes d);
  sets = λ g r kind topic value d. only_adds d (sets g r kind topic value d) (sets_adds g r kind topic value d);
  writes = λ r file line d. only_adds d (writes r file line d) (writes_adds r file line d);
  merges = λ r other d. only_adds d (merges r other d) (merges_adds r other d);
  compacts = λ r d. only_adds d (compacts r d) (compacts_adds r d);
  begins = λ r job d. only_adds d (begins r job d) (begins_adds r job d);
  closes = λ g r other d. only_adds d (closes g r other d) (closes_adds g r other d);
  crashes = λ g r clock d. only_adds d (crashes g r clock d) (crashes_adds g r clock d);
  waits = waits_adds;
  enters = λ path key d. only_adds d (enters path key d) (enters_adds path key d);
  will_fail = λ r call d. only_adds d (will_fail r call d) (fail_adds r call d);
  mark = λ d. only_adds d (with_mark d) (mark_adds d);
  turns = λ g r n d. only_adds d (turns g r n d) (turns_adds g r n d);
  round = λ g d. only_adds d (round g d) (round_adds g d);
  settles = λ g d. only_adds d (settles g d) (settles_adds g d);
  blocks = λ g lines d. only_adds d (blocks g lines d) (blocks_adds g lines d);
  merges_each = λ r others d. only_adds d (merges_each r others d) (merges_each_adds r others d);
  each_merges = λ r others d. only_adds d (each_merges r others d) (each_merges_adds r others d);
  carries = λ g r actions d. only_adds d (carries_out g r actions d) (carries_adds g r actions d);
  shares = λ g r d. only_adds d (shares_logs g r d) (shares_adds g r d);
  transfers = λ g r d. only_adds d (transfers g r d) (transfers_adds g r d);
  drops = λ g r d. only_adds d (drops_spared g r d) (drops_spared_adds g r d);
  line = λ g line d. (line_adds g line d).0;
}
