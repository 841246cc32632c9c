-- A part that isn't empty is read.
use Rattle.std.proofs.Common.{◌≡◌, ◌≢◌, ℕ, true, nat_lt, refl, arith}
use Rattle.annex_base.specs.declared.kinds.Call.TheVariants as calls
use Rattle.session_state.proofs.Calling.{makes_first, makes_none}
use Rattle.part_filling.proofs.resuming.resume.Goals as goal

some : (n : ℕ) → n ≢ 0 → nat_lt 0 n ≡ true
some n apart = grind arith

pub returns-then-at-size-clause-calls : goal.returns-then-at-size-clause-calls
returns-then-at-size-clause-calls g c = rw (some c.args.size c.if-size-eq0.false) (makes_first calls.ReadPart _ _ _ _ _ c.in_ok-digester.ensures.calls (makes_none _ _ refl))

pub returns-clause-calls : goal.returns-clause-calls
returns-clause-calls g c = rw (some c.args.size c.if-size-eq0.false) (makes_first calls.ReadPart _ _ _ _ _ c.in_ok-digester.ensures.calls (makes_none _ _ refl))
