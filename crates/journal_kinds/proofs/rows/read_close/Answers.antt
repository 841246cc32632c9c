-- What the proof of `rows::read_close` needs beside the tactics.
use Rattle.std.proofs.Common.{refl}
use Rattle.journal_kinds.proofs.rows.read_close.Goals as goal

pub returns : goal.returns
returns c = rw (← c.in_ok-peer.ensures, ← c.in_ok-peer-2.ensures.parts, ← c.in_ok-peer-3.ensures, ← c.in_ok-slot.ensures) refl
