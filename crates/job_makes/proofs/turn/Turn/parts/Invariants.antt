-- What holds at each turn of the loop of `turn::Turn::parts`.
use Rattle.std.proofs.Common.{◌≡◌, ◌-◌}
use Rattle.std.specs.Prelude.{flat_map}
use Rattle.std.specs.List.{range_with_len}
use Rattle.node_model.specs.JobStep.{farewells}
use Rattle.node_model.specs.SetUp.{SetUp}
use Rattle.node_model.specs.State.{State}
use Rattle.step_judging.specs.Same.{same_frames}
use Rattle.job_makes.specs.Partings.{parting}
use Rattle.job_makes.specs.Turns.{turn_in}
use Rattle.job_makes.proofs.turn.Turn.parts.Given as goal

abbrev pub invariant-loop-peer : goal.invariant-loop-peer
invariant-loop-peer l =
    (s : SetUp) (st : State) → same_frames (flat_map (parting (turn_in l.self s st) l.lost) (range_with_len l.peer (l.count - l.peer))) l.left ≡ same_frames (farewells (turn_in l.self s st) l.lost) l.self.told.now.sent
