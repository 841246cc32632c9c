-- What the proof of `kind::put_crash` needs beside the tactics.
use Rattle.std.proofs.Common.{append_assoc}
use Rattle.journal_text.proofs.kind.put_crash.Goals as goal

pub returns : goal.returns
returns c = simp (c.in_ok-put_number.ensures.ok, c.in_ok-extend_from_slice.ensures.items, append_assoc)
