-- The calls by which the part is asked for.
use Rattle.std.proofs.Common.{ℕ, ap, ◌∙◌}
use Rattle.std.specs.Prelude.{Err, Some}
use Rattle.annex_base.specs.declared.kinds.Call.TheVariants as calls
use Rattle.annex_base.proofs.Results.{OnErr-always}
use Rattle.session_state.proofs.Calling.{all_well, memory_left, unfailed}
use Rattle.part_filling.proofs.PartCalls.{reads_all, reads_not, sizes_not, told_part}
use Rattle.transfer_turns.specs.Steps.{seen}
use Rattle.transfer_turns.proofs.Leavings.{but_none}
use Rattle.get_phases.proofs.Leaving.{leaves_all, leaves_then}
use Rattle.get_phases.proofs.asking.ask.Goals as goal

-- ---- the size

pub returns-in-Err-Failed-clause-leaves : goal.returns-in-Err-Failed-clause-leaves
returns-in-Err-Failed-clause-leaves g c =
    let r = c.in-Err-Failed.ensures in
    record { contents = r.contents; parts = r.parts; records = r.records; files = r.files; later = r.later; cause = r.cause (ap Err c.in-Err-Failed.field-0-is); left = (sizes_not 0 _ _ (rw c.in-Err-Failed.field-0-is at r.failing)).left }

pub returns-in-Err-Failed-clause-calls : goal.returns-in-Err-Failed-clause-calls
returns-in-Err-Failed-clause-calls g c = λ part tells. sizes_not part _ _ (rw c.in-Err-Failed.field-0-is at c.in-Err-Failed.ensures.failing)

pub returns-in-Err-NoMemory-clause-err : goal.returns-in-Err-NoMemory-clause-err
returns-in-Err-NoMemory-clause-err g c =
    let r = c.in-Err-NoMemory.ensures in
    record { contents = r.contents; parts = r.parts; records = r.records; files = r.files; later = r.later; failing = memory_left ℕ calls.PartSize _ _ _ c.in-Err-NoMemory.field-0-is r.failing }

-- ---- the bytes

pub returns-in-Err-Failed-resume-clause-leaves : goal.returns-in-Err-Failed-resume-clause-leaves
returns-in-Err-Failed-resume-clause-leaves g c =
    let s = c.in-Ok.ensures in
    let r = c.in-Err-Failed-resume.ensures in
    let failed = ap Err c.in-Err-Failed-resume.field-0-is in
    leaves_then (Some calls.ReadPart) (seen (g.K.Keeper.contents c.args.keeper.now) (g.K.Keeper.parts c.args.keeper.now) (g.K.Keeper.records c.args.keeper.now) (g.K.Keeper.files c.args.keeper.now) (g.K.Keeper.faults c.args.keeper.now) (g.K.Keeper.failing c.args.keeper.now)) (seen (g.K.Keeper.contents c.part_size.new.self) (g.K.Keeper.parts c.part_size.new.self) (g.K.Keeper.records c.part_size.new.self) (g.K.Keeper.files c.part_size.new.self) (g.K.Keeper.faults c.part_size.new.self) (g.K.Keeper.failing c.part_size.new.self)) (seen (g.K.Keeper.contents c.resume.new.keeper) (g.K.Keeper.parts c.resume.new.keeper) (g.K.Keeper.records c.resume.new.keeper) (g.K.Keeper.files c.resume.new.keeper) (g.K.Keeper.faults c.resume.new.keeper) (g.K.Keeper.failing c.resume.new.keeper))
    (record { contents = s.contents; parts = s.parts; records = s.records; files = s.files; later = s.later; failing = unfailed calls.PartSize _ _ s.failing })
    (record { contents = r.contents; parts = r.parts; records = r.records; files = r.files; later = r.later; cause = r.cause failed; left = (r.failed failed).count })

pub returns-in-Err-Failed-resume-clause-calls : goal.returns-in-Err-Failed-resume-clause-calls
returns-in-Err-Failed-resume-clause-calls g c = λ part tells.
    let failed = ap Err c.in-Err-Failed-resume.field-0-is in
    reads_not part c.in-Ok.size _ _ _ (told_part _ part c.in-Ok.size c.args.key.now tells c.in-Ok.ensures.ok) (c.in-Err-Failed-resume.ensures.some failed) c.in-Ok.ensures.failing (c.in-Err-Failed-resume.ensures.failed failed)

pub returns-in-Err-NoMemory-resume-clause-err : goal.returns-in-Err-NoMemory-resume-clause-err
returns-in-Err-NoMemory-resume-clause-err g c =
    let s = c.in-Ok.ensures in
    let r = c.in-Err-NoMemory-resume.ensures in
    leaves_all (seen (g.K.Keeper.contents c.args.keeper.now) (g.K.Keeper.parts c.args.keeper.now) (g.K.Keeper.records c.args.keeper.now) (g.K.Keeper.files c.args.keeper.now) (g.K.Keeper.faults c.args.keeper.now) (g.K.Keeper.failing c.args.keeper.now)) (seen (g.K.Keeper.contents c.part_size.new.self) (g.K.Keeper.parts c.part_size.new.self) (g.K.Keeper.records c.part_size.new.self) (g.K.Keeper.files c.part_size.new.self) (g.K.Keeper.faults c.part_size.new.self) (g.K.Keeper.failing c.part_size.new.self)) (seen (g.K.Keeper.contents c.resume.new.keeper) (g.K.Keeper.parts c.resume.new.keeper) (g.K.Keeper.records c.resume.new.keeper) (g.K.Keeper.files c.resume.new.keeper) (g.K.Keeper.faults c.resume.new.keeper) (g.K.Keeper.failing c.resume.new.keeper))
    (record { contents = s.contents; parts = s.parts; records = s.records; files = s.files; later = s.later; failing = unfailed calls.PartSize _ _ s.failing })
    (record { contents = r.contents; parts = r.parts; records = r.records; files = r.files; later = r.later; failing = r.memory (ap Err c.in-Err-NoMemory-resume.field-0-is) })

-- ---- the request

pub returns-in_err-output-clause-err : goal.returns-in_err-output-clause-err
returns-in_err-output-clause-err g c =
    let s = c.in-Ok.ensures in
    let r = c.in-Ok-resume.ensures in
    OnErr-always _ c.from_residual.result (
    leaves_all (seen (g.K.Keeper.contents c.args.keeper.now) (g.K.Keeper.parts c.args.keeper.now) (g.K.Keeper.records c.args.keeper.now) (g.K.Keeper.files c.args.keeper.now) (g.K.Keeper.faults c.args.keeper.now) (g.K.Keeper.failing c.args.keeper.now)) (seen (g.K.Keeper.contents c.part_size.new.self) (g.K.Keeper.parts c.part_size.new.self) (g.K.Keeper.records c.part_size.new.self) (g.K.Keeper.files c.part_size.new.self) (g.K.Keeper.faults c.part_size.new.self) (g.K.Keeper.failing c.part_size.new.self)) (seen (g.K.Keeper.contents c.resume.new.keeper) (g.K.Keeper.parts c.resume.new.keeper) (g.K.Keeper.records c.resume.new.keeper) (g.K.Keeper.files c.resume.new.keeper) (g.K.Keeper.faults c.resume.new.keeper) (g.K.Keeper.failing c.resume.new.keeper))
    (record { contents = s.contents; parts = s.parts; records = s.records; files = s.files; later = s.later; failing = unfailed calls.PartSize _ _ s.failing })
    (record { contents = r.contents; parts = r.parts; records = r.records; files = r.files; later = r.later; failing = all_well _ _ _ r.calls })
    )

pub returns-clause-asks : goal.returns-clause-asks
returns-clause-asks g c = record {
  get = c.in_ok-output.ensures;
  size = c.in-Ok.ensures.ok;
  fed = λ p is. c.in-Ok-resume.ensures.fed p (c.in-Ok.ensures.parts ∙ is) (c.in-Ok.ensures.ok p is);
}

pub returns-clause-leaves : goal.returns-clause-leaves
returns-clause-leaves g c =
    let s = c.in-Ok.ensures in
    let r = c.in-Ok-resume.ensures in
    but_none (seen (g.K.Keeper.contents c.args.keeper.now) (g.K.Keeper.parts c.args.keeper.now) (g.K.Keeper.records c.args.keeper.now) (g.K.Keeper.files c.args.keeper.now) (g.K.Keeper.faults c.args.keeper.now) (g.K.Keeper.failing c.args.keeper.now)) (seen (g.K.Keeper.contents c.resume.new.keeper) (g.K.Keeper.parts c.resume.new.keeper) (g.K.Keeper.records c.resume.new.keeper) (g.K.Keeper.files c.resume.new.keeper) (g.K.Keeper.faults c.resume.new.keeper) (g.K.Keeper.failing c.resume.new.keeper)) (leaves_all (seen (g.K.Keeper.contents c.args.keeper.now) (g.K.Keeper.parts c.args.keeper.now) (g.K.Keeper.records c.args.keeper.now) (g.K.Keeper.files c.args.keeper.now) (g.K.Keeper.faults c.args.keeper.now) (g.K.Keeper.failing c.args.keeper.now)) (seen (g.K.Keeper.contents c.part_size.new.self) (g.K.Keeper.parts c.part_size.new.self) (g.K.Keeper.records c.part_size.new.self) (g.K.Keeper.files c.part_size.new.self) (g.K.Keeper.faults c.part_size.new.self) (g.K.Keeper.failing c.part_size.new.self)) (seen (g.K.Keeper.contents c.resume.new.keeper) (g.K.Keeper.parts c.resume.new.keeper) (g.K.Keeper.records c.resume.new.keeper) (g.K.Keeper.files c.resume.new.keeper) (g.K.Keeper.faults c.resume.new.keeper) (g.K.Keeper.failing c.resume.new.keeper))
    (record { contents = s.contents; parts = s.parts; records = s.records; files = s.files; later = s.later; failing = unfailed calls.PartSize _ _ s.failing })
    (record { contents = r.contents; parts = r.parts; records = r.records; files = r.files; later = r.later; failing = all_well _ _ _ r.calls }))

pub returns-clause-calls : goal.returns-clause-calls
returns-clause-calls g c = λ part tells. reads_all part c.in-Ok.size _ _ _ (told_part _ part c.in-Ok.size c.args.key.now tells c.in-Ok.ensures.ok) c.in-Ok.ensures.failing c.in-Ok-resume.ensures.calls
