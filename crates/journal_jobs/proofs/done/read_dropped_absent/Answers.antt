-- What the proof of `done::read_dropped_absent` needs beside the tactics.
use Rattle.std.proofs.Common.{refl}
use Rattle.journal_jobs.proofs.done.read_dropped_absent.Goals as goal

pub returns : goal.returns
returns c =
    let read = rw c.in-Some-2.is at c.in_ok-parts.ensures in
    rw (← c.in-Some.ensures, ← read, c.proof_of.ensures) refl
