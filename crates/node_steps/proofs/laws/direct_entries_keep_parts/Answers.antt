-- What the proof of `laws::direct_entries_keep_parts` needs beside the tactics.
use Rattle.node_steps.proofs.StateLemmas.{laws_of}
use Rattle.node_steps.proofs.laws.direct_entries_keep_parts.Goals as goal

pub returns : goal.returns
returns c = λ p sound. laws_of c.parts_stay.ensures c.tables_fill_as_states.ensures c.direct_entries_leave_rows.ensures.holds c.direct_entries_leave_rows.ensures.bars p sound
