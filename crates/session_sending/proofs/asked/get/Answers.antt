-- Which calls were made.
use Rattle.std.proofs.Common.{ℕ, Option, false}
use Rattle.annex_base.specs.declared.kinds.Call.TheVariants as calls
use Rattle.session_state.proofs.Calling.{makes_one, memory_left}
use Rattle.session_sending.proofs.asked.get.Goals as goal

pub returns-in-Ok-clause-calls : goal.returns-in-Ok-clause-calls
returns-in-Ok-clause-calls g c = rw c.says.ensures (makes_one calls.Size false _ _ c.in-Ok.ensures.failing)

pub returns-clause-err_failing : goal.returns-clause-err_failing
returns-clause-err_failing g c = memory_left (Option ℕ) calls.Size _ _ _ c.in-Err-NoMemory.field-0-is c.in-Err-NoMemory.ensures.failing
