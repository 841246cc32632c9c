-- What the proof of `kind::put_close` needs beside the tactics.
use Rattle.std.proofs.Common.{append_assoc}
use Rattle.journal_text.proofs.kind.put_close.Goals as goal

pub returns : goal.returns
returns c = simp (c.in_ok-extend_from_slice-4.ensures.items, c.side_word.ensures, c.in_ok-extend_from_slice-3.ensures.items, c.in_ok-put_number.ensures.ok, c.in_ok-extend_from_slice-2.ensures.items, c.in_ok-put_name.ensures.ok, c.in_ok-extend_from_slice.ensures.items, append_assoc)
