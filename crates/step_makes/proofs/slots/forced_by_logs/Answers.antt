-- What the proof of `slots::forced_by_logs` needs beside the tactics.
use Rattle.std.proofs.Common.{sym, ap, ◌∙◌}
use Rattle.state_reads.specs.Known.{KnownLogs}
use Rattle.drop_makes.specs.Knowings.{drop_in}
use Rattle.step_makes.proofs.slots.forced_by_logs.Goals as goal

pub is_forced-requires : goal.is_forced-requires
is_forced-requires c = c.in_ok-known.ensures.turn

pub returns : goal.returns
returns c = λ s st read.
    let x = c.args.turn.now in
    c.is_forced.ensures s st (c.readings_are_kept.ensures x c.args.logs.now s st read ∙ ap (λ (l : KnownLogs). drop_in x l s st) (sym c.in_ok-known.ensures.logs))
