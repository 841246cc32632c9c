-- What the proof of `laws::runs_break_no_rule` needs beside the tactics.
use Rattle.step_judging.proofs.Runs.{run_judged, step_judged}
use Rattle.step_judging.proofs.laws.runs_break_no_rule.Goals as goal

pub returns-clause-next : goal.returns-clause-next
returns-clause-next c = λ run past e repos h. step_judged c.key_texts_have_no_fault.ensures.sound c.steps_find_their_cause.ensures c.states_are_sound.ensures.sound run repos past e h

pub returns-clause-all : goal.returns-clause-all
returns-clause-all c = λ run repos. run_judged c.key_texts_have_no_fault.ensures.sound c.steps_find_their_cause.ensures c.states_are_sound.ensures.sound run repos
