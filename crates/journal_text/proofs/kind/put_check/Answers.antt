-- What the proof of `kind::put_check` needs beside the tactics.
use Rattle.std.proofs.Common.{append_assoc}
use Rattle.journal_text.proofs.kind.put_check.Goals as goal

pub returns : goal.returns
returns c = simp (c.in_ok-put_key.ensures, c.in_ok-extend_from_slice-2.ensures.items, c.found_word.ensures, c.in_ok-extend_from_slice.ensures.items, append_assoc)
