-- What the proof of `slots::noslots` needs beside the tactics.
use Rattle.std.proofs.Common.{ℕ, ◌+◌, ◌∙◌, ap, sym, add-zero}
use Rattle.std.proofs.lemmas.Slice.Zip.{either_empty_from_Zip}
use Rattle.storm_line.proofs.Beginnings.{slots_end}
use Rattle.storm_line.proofs.slots.noslots.Goals as goal

pub returns : goal.returns
returns c =
    let over = either_empty_from_Zip c.loop-command.command-iterator c.next.new.self c.next.result c.in-None.is c.next.ensures.steps in
    sym (c.loop-command.invariant.0 ∙ ap (λ (n : ℕ). c.loop-command.count + n) (slots_end c.args.run.now c.loop-command.from _ _ over) ∙ add-zero c.loop-command.count)
