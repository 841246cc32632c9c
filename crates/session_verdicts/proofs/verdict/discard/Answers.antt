-- Which calls were made.
use Rattle.std.proofs.Common.{false}
use Rattle.annex_base.specs.declared.kinds.Call.TheVariants as calls
use Rattle.session_state.proofs.Calling.{makes_one}
use Rattle.session_verdicts.proofs.verdict.discard.Goals as goal

pub returns-in-Ok-clause-calls : goal.returns-in-Ok-clause-calls
returns-in-Ok-clause-calls g c = rw c.says.ensures (makes_one calls.DropPart false _ _ c.in-Ok.ensures.failing)
