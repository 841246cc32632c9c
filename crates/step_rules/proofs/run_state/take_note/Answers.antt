-- What the proof of `run_state::take_note` needs beside the tactics.
use Rattle.step_rules.proofs.Changing.{bounded_stays, member_stays, on_err, on_ok}
use Rattle.step_rules.proofs.run_state.take_note.Goals as goal

pub returns-clause-ok : goal.returns-clause-ok
returns-clause-ok c = on_ok c.after.result (λ then. λ s st words begins is. then s st words begins (member_stays c.args.member.now c.ready.new.self c.in_ok-ready.ensures.same s st words is)) c.after.ensures.ok

pub returns-clause-err : goal.returns-clause-err
returns-clause-err c = on_err c.after.result (λ then. λ s st words is. then s st words (member_stays c.args.member.now c.ready.new.self c.in_ok-ready.ensures.same s st words is)) c.after.ensures.err

pub returns-clause-bounded : goal.returns-clause-bounded
returns-clause-bounded c = λ count made b. c.after.ensures.bounded count made (bounded_stays c.args.member.now c.ready.new.self c.in_ok-ready.ensures.same count made b)

pub returns-clause-err_bounded : goal.returns-clause-err_bounded
returns-clause-err_bounded c = on_err c.after.result (λ then. λ count made b. then count made (bounded_stays c.args.member.now c.ready.new.self c.in_ok-ready.ensures.same count made b)) c.after.ensures.err_bounded
