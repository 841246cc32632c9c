-- What the proof of `owing::fails_to_pay` needs beside the tactics.
use Rattle.std.proofs.Common.{None, ◌∙◌, ◌&&◌, []}
use Rattle.std.specs.Option.{option_eq}
use Rattle.step_judging.specs.Same.{same_frame, same_frames, same_kind, same_lines}
use Rattle.run_data.specs.declared.entry.EntryKind.TheVariants.{Fault}
use Rattle.step_makes.proofs.owing.fails_to_pay.Goals as goal

pub returns : goal.returns
returns c =
    let told = c.args.told.now in
    c.tells.ensures
    ∙ (λ i. c.is_fault-kind_is.ensures i && option_eq same_frame None told.taken && c.says_nothing.ensures i && same_lines [] told.lines)
    ∙ (λ i. same_kind (Fault c.args.call ((c.line.view_is i).by)) told.kind && option_eq same_frame None told.taken && same_frames [] (c.as_slice.ensures i) && same_lines [] told.lines)
