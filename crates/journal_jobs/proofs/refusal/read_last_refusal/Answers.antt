-- What the proof of `refusal::read_last_refusal` needs beside the tactics.
use Rattle.std.proofs.Common.{refl}
use Rattle.journal_jobs.proofs.refusal.read_last_refusal.Goals as goal

pub returns-in-Some-read_alone : goal.returns-in-Some-read_alone
returns-in-Some-read_alone c =
    rw (← c.in_default.ensures, ← c.in_default-read_old_protocol.ensures, ← c.in-Some-read_alone.ensures) refl

pub returns-in-Some-read_alone-2 : goal.returns-in-Some-read_alone-2
returns-in-Some-read_alone-2 c =
    rw (← c.in_default.ensures, ← c.in_default-read_old_protocol.ensures, ← c.in_default-read_alone.ensures, ← c.in-Some-read_alone-2.ensures) refl

pub returns : goal.returns
returns c =
    rw (← c.in_default.ensures, ← c.in_default-read_old_protocol.ensures, ← c.in_default-read_alone.ensures, ← c.in_default-read_alone-2.ensures) refl
