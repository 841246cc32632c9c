-- What the proof of `laws::judges_carry_enough` needs beside the tactics.
use Rattle.step_judging.proofs.CarriedJudge.{judge_same}
use Rattle.step_judging.proofs.laws.judges_carry_enough.Goals as goal

pub returns : goal.returns
returns c = λ run past e repos h. judge_same c.carried_states_agree.ensures.own_states c.carried_states_agree.ensures.own_steps run repos past e h
