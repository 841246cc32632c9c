-- What the proof of `answers::remove` needs beside the tactics.
use Rattle.std.proofs.Common.{false, Some, None, refl, ◌∙◌}
use Rattle.annex_base.specs.declared.kinds.Call.TheVariants as calls
use Rattle.session_state.specs.Answers.{here_of}
use Rattle.session_state.proofs.Replies.{remove_there, remove_gone, remove_barred, remove_held, remove_failed, remove_leaves}
use Rattle.session_state.proofs.Doings.{checks, faults, removes, no_bar}
use Rattle.session_state.proofs.Calling.{makes_turn, makes_turns}
use Rattle.session_state.proofs.RowCalls.{remove_fails, remove_left}
use Rattle.session_state.proofs.Telling.{told_after_change}
use Rattle.session_answers.proofs.answers.remove.Goals as goal

pub returns-in-Ok-Gone-clause-does : goal.returns-in-Ok-Gone-clause-does
returns-in-Ok-Gone-clause-does g c = λ p is part right.
    let found = rw c.in-Ok-Gone.field-0-is at c.in-Ok-Gone.ensures.found in
    removes _ _ p _ _ _ _ _ _ _ _ c.granted.ensures c.owner.ensures (c.in-Ok-Gone.ensures.gone c.in-Ok-Gone.field-0-is) is
    (remove_there (here_of c.args.scene c.args.table.now p None part right) c.args.key refl (found.0 p is) found.1 found.2)

pub returns-in-Ok-Gone-clause-after : goal.returns-in-Ok-Gone-clause-after
returns-in-Ok-Gone-clause-after g c =
    let found = rw c.in-Ok-Gone.field-0-is at c.in-Ok-Gone.ensures.found in
    rw c.granted.ensures (no_bar _ _ _ found.1)

pub returns-in-Ok-Gone-clause-told : goal.returns-in-Ok-Gone-clause-told
returns-in-Ok-Gone-clause-told g c = told_after_change _ _ _ (c.in-Ok-Gone.ensures.gone c.in-Ok-Gone.field-0-is)

pub returns-in-Ok-Absent-clause-does : goal.returns-in-Ok-Absent-clause-does
returns-in-Ok-Absent-clause-does g c = λ p is part right.
    let gone = rw c.in-Ok-Absent.field-0-is at c.in-Ok-Absent.ensures.found in
    checks _ _ p _ _ _ _ _ _ _ _ c.granted-in-Ok-Absent.ensures (c.in-Ok-Absent.ensures.absent c.in-Ok-Absent.field-0-is ∙ is)
    (remove_gone (here_of c.args.scene c.args.table.now p None part right) c.args.key refl (gone p is))

pub returns-in-Err-Barred-clause-does : goal.returns-in-Err-Barred-clause-does
returns-in-Err-Barred-clause-does g c = λ p is part right.
    let found = rw c.in-Err-Barred.field-0-is at c.in-Err-Barred.ensures.why in
    checks _ _ p _ _ _ _ _ _ _ _ c.denied.ensures (c.in-Err-Barred.ensures.err_contents ∙ is)
    (remove_barred (here_of c.args.scene c.args.table.now p None part right) c.args.key _ refl (found.0 p is) found.1)

pub returns-in-Err-Held-clause-does : goal.returns-in-Err-Held-clause-does
returns-in-Err-Held-clause-does g c = λ p is part right.
    let found = rw c.in-Err-Held.field-0-is at c.in-Err-Held.ensures.why in
    checks _ _ p _ _ _ _ _ _ _ _ c.denied-in-Err-Held.ensures (c.in-Err-Held.ensures.err_contents ∙ is)
    (remove_held (here_of c.args.scene c.args.table.now p None part right) c.args.key refl (found.0 p is) found.1 found.2)

pub returns-in-Err-StoreFault-clause-does : goal.returns-in-Err-StoreFault-clause-does
returns-in-Err-StoreFault-clause-does g c = λ p is part right.
    let why = rw c.in-Err-StoreFault.field-0-is at c.in-Err-StoreFault.ensures.why in
    faults _ _ p _ _ _ _ _ _ c.failed.ensures (c.in-Err-StoreFault.ensures.err_contents ∙ is)
    (remove_failed (here_of c.args.scene c.args.table.now p (Some _) part right) c.args.key _ p _ _ is refl refl why)

pub returns-in-Err-StoreFault-clause-after : goal.returns-in-Err-StoreFault-clause-after
returns-in-Err-StoreFault-clause-after g c =
    let why = rw c.in-Err-StoreFault.field-0-is at c.in-Err-StoreFault.ensures.why in
    rw c.failed.ensures (remove_leaves _ _ _ _ _ _ _ why)

pub returns-in-Ok-Gone-clause-calls : goal.returns-in-Ok-Gone-clause-calls
returns-in-Ok-Gone-clause-calls g c = λ p is.
    let found = rw c.in-Ok-Gone.field-0-is at c.in-Ok-Gone.ensures.found in
    let turns = rw c.in-Ok-Gone.field-0-is at c.in-Ok-Gone.ensures.failing in
    rw (c.granted.ensures, found.0 p is, found.1, found.2) (makes_turns calls.Has calls.Remove false _ _ turns)

pub returns-in-Ok-Gone-clause-left : goal.returns-in-Ok-Gone-clause-left
returns-in-Ok-Gone-clause-left g c =
    let turns = rw c.in-Ok-Gone.field-0-is at c.in-Ok-Gone.ensures.failing in
    rw c.granted.ensures (makes_turns calls.Has calls.Remove false _ _ turns).left

pub returns-in-Ok-Absent-clause-calls : goal.returns-in-Ok-Absent-clause-calls
returns-in-Ok-Absent-clause-calls g c = λ p is.
    let gone = rw c.in-Ok-Absent.field-0-is at c.in-Ok-Absent.ensures.found in
    let turns = rw c.in-Ok-Absent.field-0-is at c.in-Ok-Absent.ensures.failing in
    rw (c.granted-in-Ok-Absent.ensures, gone p is) (makes_turn calls.Has false _ _ turns)

pub returns-in-Ok-Absent-clause-left : goal.returns-in-Ok-Absent-clause-left
returns-in-Ok-Absent-clause-left g c =
    let turns = rw c.in-Ok-Absent.field-0-is at c.in-Ok-Absent.ensures.failing in
    rw c.granted-in-Ok-Absent.ensures (makes_turn calls.Has false _ _ turns).left

pub returns-in-Err-Barred-clause-calls : goal.returns-in-Err-Barred-clause-calls
returns-in-Err-Barred-clause-calls g c = λ p is.
    let found = rw c.in-Err-Barred.field-0-is at c.in-Err-Barred.ensures.why in
    let turns = rw c.in-Err-Barred.field-0-is at c.in-Err-Barred.ensures.failing in
    rw (c.denied.ensures, found.0 p is, found.1) (makes_turn calls.Has false _ _ turns)

pub returns-in-Err-Barred-clause-left : goal.returns-in-Err-Barred-clause-left
returns-in-Err-Barred-clause-left g c =
    let turns = rw c.in-Err-Barred.field-0-is at c.in-Err-Barred.ensures.failing in
    rw c.denied.ensures (makes_turn calls.Has false _ _ turns).left

pub returns-in-Err-Held-clause-calls : goal.returns-in-Err-Held-clause-calls
returns-in-Err-Held-clause-calls g c = λ p is.
    let found = rw c.in-Err-Held.field-0-is at c.in-Err-Held.ensures.why in
    let turns = rw c.in-Err-Held.field-0-is at c.in-Err-Held.ensures.failing in
    rw (c.denied-in-Err-Held.ensures, found.0 p is, found.1, found.2) (makes_turn calls.Has false _ _ turns)

pub returns-in-Err-Held-clause-left : goal.returns-in-Err-Held-clause-left
returns-in-Err-Held-clause-left g c =
    let turns = rw c.in-Err-Held.field-0-is at c.in-Err-Held.ensures.failing in
    rw c.denied-in-Err-Held.ensures (makes_turn calls.Has false _ _ turns).left

pub returns-in-Err-StoreFault-clause-calls : goal.returns-in-Err-StoreFault-clause-calls
returns-in-Err-StoreFault-clause-calls g c = λ p is.
    let why = rw c.in-Err-StoreFault.field-0-is at c.in-Err-StoreFault.ensures.why in
    let turns = rw c.in-Err-StoreFault.field-0-is at c.in-Err-StoreFault.ensures.failing in
    rw c.failed.ensures (remove_fails _ _ p c.args.key _ _ _ _ _ why turns is)

pub returns-in-Err-StoreFault-clause-left : goal.returns-in-Err-StoreFault-clause-left
returns-in-Err-StoreFault-clause-left g c =
    let why = rw c.in-Err-StoreFault.field-0-is at c.in-Err-StoreFault.ensures.why in
    let turns = rw c.in-Err-StoreFault.field-0-is at c.in-Err-StoreFault.ensures.failing in
    rw c.failed.ensures (remove_left _ _ c.args.key _ _ _ _ _ why turns)

pub returns-in-Ok-Gone-clause-contents : goal.returns-in-Ok-Gone-clause-contents
returns-in-Ok-Gone-clause-contents g c = rw c.granted.ensures (c.in-Ok-Gone.ensures.gone c.in-Ok-Gone.field-0-is)

pub returns-in-Ok-Absent-clause-contents : goal.returns-in-Ok-Absent-clause-contents
returns-in-Ok-Absent-clause-contents g c = rw c.granted-in-Ok-Absent.ensures (c.in-Ok-Absent.ensures.absent c.in-Ok-Absent.field-0-is)
