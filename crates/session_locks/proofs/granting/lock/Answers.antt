-- What the proof of `answers::lock` needs beside the tactics.
use Rattle.std.proofs.Common.{false, Some, None, refl, ◌∙◌}
use Rattle.annex_base.specs.declared.kinds.Call.TheVariants as calls
use Rattle.session_state.specs.Answers.{here_of}
use Rattle.session_state.proofs.Replies.{lock_gone, lock_barred, lock_failed, share_leaves}
use Rattle.session_state.proofs.Doings.{checks, faults}
use Rattle.session_state.proofs.Calling.{makes_turn, makes_turns, turn_unfailed}
use Rattle.session_state.proofs.RowCalls.{hold_fails, hold_left}
use Rattle.session_locks.proofs.granting.lock.Goals as goal

pub returns-in-Err-Absent-clause-does : goal.returns-in-Err-Absent-clause-does
returns-in-Err-Absent-clause-does g c = λ p is part right.
    let gone = rw c.in-Err-Absent.field-0-is at c.in-Err-Absent.ensures.why in
    checks _ _ p _ _ _ _ _ _ _ _ c.denied-in-Err-Absent.ensures (c.in-Err-Absent.ensures.contents ∙ is)
    (lock_gone (here_of c.args.scene c.args.table.now p None part right) c.args.key refl c.if-not-scene.false (gone p is))

pub returns-in-Err-Barred-clause-does : goal.returns-in-Err-Barred-clause-does
returns-in-Err-Barred-clause-does g c = λ p is part right.
    let found = rw c.in-Err-Barred.field-0-is at c.in-Err-Barred.ensures.why in
    checks _ _ p _ _ _ _ _ _ _ _ c.denied-in-Err-Barred.ensures (c.in-Err-Barred.ensures.contents ∙ is)
    (lock_barred (here_of c.args.scene c.args.table.now p None part right) c.args.key _ refl c.if-not-scene.false (found.0 p is) found.1)

pub returns-in-Err-StoreFault-clause-does : goal.returns-in-Err-StoreFault-clause-does
returns-in-Err-StoreFault-clause-does g c = λ p is part right.
    let why = rw c.in-Err-StoreFault.field-0-is at c.in-Err-StoreFault.ensures.why in
    faults _ _ p _ _ _ _ _ _ c.failed.ensures (c.in-Err-StoreFault.ensures.contents ∙ is)
    (lock_failed (here_of c.args.scene c.args.table.now p (Some _) part right) c.args.key _ p _ is refl refl c.if-not-scene.false why)

pub returns-in-Err-StoreFault-clause-after : goal.returns-in-Err-StoreFault-clause-after
returns-in-Err-StoreFault-clause-after g c =
    let why = rw c.in-Err-StoreFault.field-0-is at c.in-Err-StoreFault.ensures.why in
    rw (c.in-Err-StoreFault.ensures.err, c.failed.ensures) (share_leaves _ _ _ _ _ why)

pub returns-in-Err-Absent-clause-calls : goal.returns-in-Err-Absent-clause-calls
returns-in-Err-Absent-clause-calls g c = λ p is.
    let gone = rw c.in-Err-Absent.field-0-is at c.in-Err-Absent.ensures.why in
    let turns = rw c.in-Err-Absent.field-0-is at c.in-Err-Absent.ensures.failing in
    rw (c.denied-in-Err-Absent.ensures, c.if-not-scene.false, gone p is) (makes_turn calls.Has false _ _ turns)

pub returns-in-Err-Absent-clause-left : goal.returns-in-Err-Absent-clause-left
returns-in-Err-Absent-clause-left g c =
    let turns = rw c.in-Err-Absent.field-0-is at c.in-Err-Absent.ensures.failing in
    rw c.denied-in-Err-Absent.ensures (makes_turn calls.Has false _ _ turns).left

pub returns-in-Err-Barred-clause-calls : goal.returns-in-Err-Barred-clause-calls
returns-in-Err-Barred-clause-calls g c = λ p is.
    let found = rw c.in-Err-Barred.field-0-is at c.in-Err-Barred.ensures.why in
    let turns = rw c.in-Err-Barred.field-0-is at c.in-Err-Barred.ensures.failing in
    rw (c.denied-in-Err-Barred.ensures, c.if-not-scene.false, found.0 p is, found.1) (makes_turn calls.Has false _ _ turns)

pub returns-in-Err-Barred-clause-left : goal.returns-in-Err-Barred-clause-left
returns-in-Err-Barred-clause-left g c =
    let turns = rw c.in-Err-Barred.field-0-is at c.in-Err-Barred.ensures.failing in
    rw c.denied-in-Err-Barred.ensures (makes_turn calls.Has false _ _ turns).left

pub returns-in-Err-StoreFault-clause-calls : goal.returns-in-Err-StoreFault-clause-calls
returns-in-Err-StoreFault-clause-calls g c = λ p is.
    let why = rw c.in-Err-StoreFault.field-0-is at c.in-Err-StoreFault.ensures.why in
    let turns = rw c.in-Err-StoreFault.field-0-is at c.in-Err-StoreFault.ensures.failing in
    rw (c.failed.ensures, c.if-not-scene.false) (hold_fails _ _ p c.args.key _ _ _ why turns is)

pub returns-in-Err-StoreFault-clause-left : goal.returns-in-Err-StoreFault-clause-left
returns-in-Err-StoreFault-clause-left g c =
    let why = rw c.in-Err-StoreFault.field-0-is at c.in-Err-StoreFault.ensures.why in
    let turns = rw c.in-Err-StoreFault.field-0-is at c.in-Err-StoreFault.ensures.failing in
    rw c.failed.ensures (hold_left _ _ c.args.key _ _ _ why turns)

pub returns-in-Ok-clause-calls : goal.returns-in-Ok-clause-calls
returns-in-Ok-clause-calls g c = λ p is.
    rw (c.granted.ensures, c.if-not-scene.false, c.in-Ok.ensures.free.0 p is, c.in-Ok.ensures.free.1) (makes_turns calls.Has calls.Hold false _ _ c.in-Ok.ensures.failing)

pub returns-in-Ok-clause-left : goal.returns-in-Ok-clause-left
returns-in-Ok-clause-left g c = rw c.granted.ensures (makes_turns calls.Has calls.Hold false _ _ c.in-Ok.ensures.failing).left

pub returns-in-Err-NoMemory-clause-err_failing : goal.returns-in-Err-NoMemory-clause-err_failing
returns-in-Err-NoMemory-clause-err_failing g c =
    let turns = rw c.in-Err-NoMemory.field-0-is at c.in-Err-NoMemory.ensures.failing in
    turn_unfailed calls.Has _ _ turns
