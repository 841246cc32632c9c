-- What is committed is told where the parts are.
use Rattle.session_state.proofs.Telling.{told_after_commit}
use Rattle.std.proofs.Common.{false}
use Rattle.annex_base.specs.declared.kinds.Call.TheVariants as calls
use Rattle.session_state.proofs.Calling.{makes_one, memory_left}
use Rattle.session_verdicts.proofs.verdict.commit.Goals as goal

pub returns-in-Ok-clause-told : goal.returns-in-Ok-clause-told
returns-in-Ok-clause-told g c = told_after_commit _ _ _ c.args.key c.in-Ok.ensures.content

pub returns-in-Ok-clause-calls : goal.returns-in-Ok-clause-calls
returns-in-Ok-clause-calls g c = rw c.says.ensures (makes_one calls.Commit false _ _ c.in-Ok.ensures.failing)

pub returns-clause-err_failing : goal.returns-clause-err_failing
returns-clause-err_failing g c = memory_left (Unit {0}) calls.Commit _ _ _ c.in-Err-NoMemory.field-0-is c.in-Err-NoMemory.ensures.failing

pub returns-in-Ok-clause-contents : goal.returns-in-Ok-clause-contents
returns-in-Ok-clause-contents g c = rw c.says.ensures c.in-Ok.ensures.content
