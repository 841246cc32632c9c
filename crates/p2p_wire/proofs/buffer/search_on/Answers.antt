-- What the proof of `buffer::search_on` needs beside the tactics.
use Rattle.std.proofs.Common.{arith}
use Rattle.p2p_wire.proofs.BufferLemmas.{line_within}
use Rattle.p2p_wire.proofs.buffer.search_on.Goals as goal

pub split_at-requires : goal.split_at-requires
split_at-requires c = let within = line_within c.args.bytes.now in omega (arith, c.requires, within)
