-- What the proof of `answers::check_present` needs beside the tactics.
use Rattle.std.proofs.Common.{true, false, None, refl, ◌∙◌}
use Rattle.annex_base.specs.declared.kinds.Call.TheVariants as calls
use Rattle.session_state.specs.Answers.{here_of}
use Rattle.session_state.proofs.Replies.{check_there, check_gone, check_barred}
use Rattle.session_state.proofs.Calling.{makes_one}
use Rattle.session_state.proofs.Doings.{checks}
use Rattle.session_answers.proofs.answers.check_present.Goals as goal

pub returns-in-Ok-Present-clause-does : goal.returns-in-Ok-Present-clause-does
returns-in-Ok-Present-clause-does g c = λ p is part right.
    let found = rw c.in-Ok-Present.field-0-is at c.in-Ok-Present.ensures.found in
    checks _ _ p _ _ _ _ _ _ _ _ c.granted.ensures (c.in-Ok-Present.ensures.contents ∙ is)
    (check_there (here_of c.args.scene c.args.table.now p None part right) c.args.key refl (found.0 p is) found.1)

pub returns-in-Ok-Absent-clause-does : goal.returns-in-Ok-Absent-clause-does
returns-in-Ok-Absent-clause-does g c = λ p is part right.
    let gone = rw c.in-Ok-Absent.field-0-is at c.in-Ok-Absent.ensures.found in
    checks _ _ p _ _ _ _ _ _ _ _ c.denied.ensures (c.in-Ok-Absent.ensures.contents ∙ is)
    (check_gone (here_of c.args.scene c.args.table.now p None part right) c.args.key refl (gone p is))

pub returns-in-Ok-Barred-clause-does : goal.returns-in-Ok-Barred-clause-does
returns-in-Ok-Barred-clause-does g c = λ p is part right.
    let found = rw c.in-Ok-Barred.field-0-is at c.in-Ok-Barred.ensures.found in
    checks _ _ p _ _ _ _ _ _ _ _ c.denied-in-Ok-Barred.ensures (c.in-Ok-Barred.ensures.contents ∙ is)
    (check_barred (here_of c.args.scene c.args.table.now p None part right) c.args.key _ refl (found.0 p is) found.1)

pub returns-in-Ok-Present-clause-calls : goal.returns-in-Ok-Present-clause-calls
returns-in-Ok-Present-clause-calls g c = rw c.granted.ensures (makes_one calls.Has false _ _ c.in-Ok-Present.ensures.failing)

pub returns-in-Ok-Absent-clause-calls : goal.returns-in-Ok-Absent-clause-calls
returns-in-Ok-Absent-clause-calls g c = rw c.denied.ensures (makes_one calls.Has false _ _ c.in-Ok-Absent.ensures.failing)

pub returns-in-Ok-Barred-clause-calls : goal.returns-in-Ok-Barred-clause-calls
returns-in-Ok-Barred-clause-calls g c = rw c.denied-in-Ok-Barred.ensures (makes_one calls.Has false _ _ c.in-Ok-Barred.ensures.failing)

pub returns-in-Err-clause-calls : goal.returns-in-Err-clause-calls
returns-in-Err-clause-calls g c = rw c.failed.ensures (makes_one calls.Has true _ _ c.in-Err.ensures.failing)
