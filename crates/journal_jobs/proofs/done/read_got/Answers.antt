-- What the proof of `done::read_got` needs beside the tactics.
use Rattle.std.proofs.Common.{refl}
use Rattle.journal_jobs.proofs.done.read_got.Goals as goal

pub returns : goal.returns
returns c =
    rw (← c.in_ok-fields.ensures, ← c.in_ok-name.ensures.parts, ← c.in_ok-source.ensures, ← c.in_ok-offset.ensures, ← c.in_ok-start.ensures) refl
