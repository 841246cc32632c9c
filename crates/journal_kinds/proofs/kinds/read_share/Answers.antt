-- What the proof of `kinds::read_share` needs beside the tactics.
use Rattle.std.proofs.Common.{refl}
use Rattle.journal_kinds.proofs.kinds.read_share.Goals as goal

pub returns : goal.returns
returns c =
    let read = rw c.in-Some-2.is at c.in_ok-end.ensures in
    rw (← c.in-Some.ensures, ← c.in-Some-cut.ensures.parts, ← c.in-Some-read_large.ensures, ← read) refl
