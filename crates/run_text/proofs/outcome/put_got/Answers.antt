-- What the proof of `outcome::put_got` needs beside the tactics.
use Rattle.std.proofs.Common.{append_assoc}
use Rattle.run_text.proofs.outcome.put_got.Goals as goal

pub returns : goal.returns
returns c = simp (c.in_ok-put_number_or_dash.ensures.ok, c.in_ok-extend_from_slice-2.ensures.items, c.in_ok-put_name_or_dash.ensures.ok, c.in_ok-extend_from_slice.ensures.items, append_assoc)
