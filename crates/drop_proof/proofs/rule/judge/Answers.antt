-- What the proof of `rule::judge` needs beside the tactics.
use Rattle.std.proofs.Common.{arith, ◌≡◌, true, refl}
use Rattle.drop_proof.specs.Judging.{is_enough}
use Rattle.drop_proof.proofs.JudgingLemmas.{is_enough-from_MeetsRule, least_end-IsFirstEnd}
use Rattle.drop_proof.proofs.rule.judge.Goals as goal

enough : (c : goal.After-first_end) → is_enough c.args.side c.args.need c.args.evidence.now ≡ true
enough c = is_enough-from_MeetsRule c.args.side c.args.need c.args.evidence.now (omega arith, omega arith)

pub returns-then-full-full_needed-clause-exact : goal.returns-then-full-full_needed-clause-exact
returns-then-full-full_needed-clause-exact c = rw (enough c, c.first_end.ensures) refl

pub returns-then-full-full_needed-clause-enough : goal.returns-then-full-full_needed-clause-enough
returns-then-full-full_needed-clause-enough c end h = enough c

pub returns-then-full-full_needed-clause-held : goal.returns-then-full-full_needed-clause-held
returns-then-full-full_needed-clause-held c end h =
    least_end-IsFirstEnd c.args.evidence.now end (grind (arith, c.first_end.ensures, h))

pub returns-then-full-full_needed-clause-when_lacking : goal.returns-then-full-full_needed-clause-when_lacking
returns-then-full-full_needed-clause-when_lacking c h = grind (arith, h, enough c)
