-- What the proof of `kinds::read_check` needs beside the tactics.
use Rattle.std.proofs.Common.{refl}
use Rattle.journal_kinds.proofs.kinds.read_check.Goals as goal

pub returns-in_default : goal.returns-in_default
returns-in_default c = rw (← c.in_default.ensures) refl

pub returns-in_default-cut : goal.returns-in_default-cut
returns-in_default-cut c = rw (← c.in-Some.ensures, ← c.in_default-cut.ensures.parts) refl

pub returns-in_default-read_found : goal.returns-in_default-read_found
returns-in_default-read_found c =
    rw (← c.in-Some.ensures, ← c.in-Some-cut.ensures.parts, ← c.in_default-read_found.ensures) refl

pub returns-in_default-2 : goal.returns-in_default-2
returns-in_default-2 c =
    let read = rw c.in_default-2.is at c.in_ok-key.ensures in
    rw (← c.in-Some.ensures, ← c.in-Some-cut.ensures.parts, ← c.in-Some-read_found.ensures, ← read) refl

pub returns : goal.returns
returns c =
    let read = rw c.in-Some-2.is at c.in_ok-key.ensures in
    rw (← c.in-Some.ensures, ← c.in-Some-cut.ensures.parts, ← c.in-Some-read_found.ensures, ← read) refl
