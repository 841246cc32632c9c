-- What the proof of `kept::kept_keys` needs beside the tactics.
use Rattle.std.proofs.Common.{◌≡◌, ℕ, ◌∙◌, ap, arith, length}
use Rattle.kept_copies.specs.Scripts.{kept_of}
use Rattle.storm_line.proofs.FirstKeys.{first_keys, kept_more}
use Rattle.storm_line.proofs.kept.kept_keys.Goals as goal

pub loop-number-preserved : goal.loop-number-preserved
loop-number-preserved c =
    let has = rw (ap length c.as_slice-entries.ensures, c.in_ok-key.ensures) at (c.in_ok-has.ensures _ c.in_ok-move_to.ensures) in
    let few = c.one_if-kept.ensures.few in
    let before = c.loop-number.invariant.1 in
    (kept_more c.args.run.now c.loop-number.number c.loop-number.kept _ _ c.loop-number.invariant.0 has c.one_if-kept.ensures.is, omega (arith, few, before))

pub returns : goal.returns
returns c =
    let last : c.loop-number.number ≡ 16 = omega arith in
    c.loop-number.invariant.0 ∙ ap (λ (n : ℕ). kept_of c.args.run.now (first_keys n)) last
