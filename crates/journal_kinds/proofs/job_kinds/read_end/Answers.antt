-- What the proof of `job_kinds::read_end` needs beside the tactics.
use Rattle.std.proofs.Common.{refl}
use Rattle.journal_kinds.proofs.job_kinds.read_end.Goals as goal

pub returns-in_default-2 : goal.returns-in_default-2
returns-in_default-2 c =
    let read = rw (c.in_default-2.is, c.word_of-word.ensures.same) at c.in_ok-outcome.ensures in
    rw (← c.in-Some.ensures, ← c.in-Some-cut.ensures.parts, ← c.in-Some-read_small.ensures, ← read) refl

pub returns : goal.returns
returns c =
    let read = rw (c.in-Some-2.is, c.word_of-word.ensures.same) at c.in_ok-outcome.ensures in
    rw (← c.in-Some.ensures, ← c.in-Some-cut.ensures.parts, ← c.in-Some-read_small.ensures, ← read) refl
