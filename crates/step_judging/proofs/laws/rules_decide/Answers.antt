-- What the proof of `laws::rules_decide` needs beside the tactics.
use Rattle.step_judging.proofs.Judged.{step_unbroken, unbroken_step}
use Rattle.step_judging.proofs.laws.rules_decide.Goals as goal

pub returns-clause-permits : goal.returns-clause-permits
returns-clause-permits c = λ s past e numbered h. unbroken_step c.key_texts_have_no_fault.ensures.sound c.steps_find_their_cause.ensures s numbered past e h

pub returns-clause-breaks : goal.returns-clause-breaks
returns-clause-breaks c = λ s past e numbered sound x. step_unbroken c.key_texts_have_no_fault.ensures.sound c.steps_find_their_cause.ensures s numbered past e sound x
