-- The calls by which a part is asked for.
use Rattle.std.proofs.Common.{ℕ, refl, ap, ◌∙◌}
use Rattle.std.specs.Prelude.{Err}
use Rattle.annex_base.specs.declared.kinds.Call.TheVariants as calls
use Rattle.session_state.proofs.Calling.{all_well, memory_left, unfailed}
use Rattle.part_filling.proofs.PartCalls.{reads_all, reads_not, told_part}
use Rattle.session_parts.proofs.asking.ask.Goals as goal

pub returns-in-Err-NoMemory-clause-err_failing : goal.returns-in-Err-NoMemory-clause-err_failing
returns-in-Err-NoMemory-clause-err_failing g c = memory_left ℕ calls.PartSize _ _ _ c.in-Err-NoMemory.field-0-is c.in-Err-NoMemory.ensures.failing

pub returns-in-Err-Failed-resume-clause-calls : goal.returns-in-Err-Failed-resume-clause-calls
returns-in-Err-Failed-resume-clause-calls g c = λ part tells.
    let failed = ap Err c.in-Err-Failed-resume.field-0-is in
    rw c.failed-in-Err-Failed-resume.ensures
    (reads_not part c.in-Ok.size _ _ _ (told_part _ part c.in-Ok.size c.args.key.now tells c.in-Ok.ensures.ok) (c.in-Err-Failed-resume.ensures.some failed) c.in-Ok.ensures.failing (c.in-Err-Failed-resume.ensures.failed failed))

pub returns-in-Err-Failed-resume-clause-left : goal.returns-in-Err-Failed-resume-clause-left
returns-in-Err-Failed-resume-clause-left g c =
    let failed = ap Err c.in-Err-Failed-resume.field-0-is in
    rw c.failed-in-Err-Failed-resume.ensures
    (reads_not c.in-Ok.size c.in-Ok.size _ _ _ refl (c.in-Err-Failed-resume.ensures.some failed) c.in-Ok.ensures.failing (c.in-Err-Failed-resume.ensures.failed failed)).left

pub returns-in-Err-NoMemory-resume-clause-err_failing : goal.returns-in-Err-NoMemory-resume-clause-err_failing
returns-in-Err-NoMemory-resume-clause-err_failing g c =
    c.in-Err-NoMemory-resume.ensures.memory (ap Err c.in-Err-NoMemory-resume.field-0-is) ∙ unfailed calls.PartSize _ _ c.in-Ok.ensures.failing

pub returns-in-Ok-fill-clause-calls : goal.returns-in-Ok-fill-clause-calls
returns-in-Ok-fill-clause-calls g c = λ part tells.
    rw c.says.ensures (reads_all part c.in-Ok.size _ _ _ (told_part _ part c.in-Ok.size c.args.key.now tells c.in-Ok.ensures.ok) c.in-Ok.ensures.failing c.in-Ok-resume.ensures.calls)

pub returns-in-Ok-fill-clause-left : goal.returns-in-Ok-fill-clause-left
returns-in-Ok-fill-clause-left g c = rw c.says.ensures (reads_all c.in-Ok.size c.in-Ok.size _ _ _ refl c.in-Ok.ensures.failing c.in-Ok-resume.ensures.calls).left

pub returns-in-Err-NoMemory-fill-clause-err_failing : goal.returns-in-Err-NoMemory-fill-clause-err_failing
returns-in-Err-NoMemory-fill-clause-err_failing g c = all_well _ _ _ c.in-Ok-resume.ensures.calls ∙ unfailed calls.PartSize _ _ c.in-Ok.ensures.failing
