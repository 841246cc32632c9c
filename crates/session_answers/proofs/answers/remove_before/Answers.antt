-- What the proof of `answers::remove_before` needs beside the tactics.
use Rattle.std.proofs.Common.{◌≡◌, ℕ, ◌≤◌, ◌<◌, ◌*◌, ◌/◌, true, false, nat_lt, refl, arith}
use Rattle.session_state.proofs.Calling.{makes_none}
use Rattle.session_answers.proofs.answers.remove_before.Goals as goal

in_time : (clock before : ℕ) → clock / 1000 < before → nat_lt clock (1000 * before) ≡ true
in_time clock before below = grind arith

pub returns-then-scene-before-clause-does : goal.returns-then-scene-before-clause-does
returns-then-scene-before-clause-does g c = λ p is part right.
    let soon = in_time c.args.scene.clock c.args.before c.if-scene-before.true in
    let done = c.remove.ensures.does p is part right in
    record { answers = rw soon done.answers; changes = done.changes }

pub returns-then-scene-before-clause-calls : goal.returns-then-scene-before-clause-calls
returns-then-scene-before-clause-calls g c = λ p is.
    let soon = in_time c.args.scene.clock c.args.before c.if-scene-before.true in
    rw soon (c.remove.ensures.calls p is)

late : (clock before : ℕ) → before ≤ clock / 1000 → nat_lt clock (1000 * before) ≡ false
late clock before off = grind arith

pub returns-else-scene-before-clause-calls : goal.returns-else-scene-before-clause-calls
returns-else-scene-before-clause-calls g c = λ p is.
    rw (c.denied.ensures, late c.args.scene.clock c.args.before c.if-scene-before.false) (makes_none _ _ refl)
