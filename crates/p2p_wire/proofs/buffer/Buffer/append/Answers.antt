-- What the proof of `buffer::Buffer::append` needs beside the tactics.
use Rattle.std.proofs.Common.{◌≡◌, length, drop, sym, arith}
use Rattle.std.specs.Prelude.{vec_len}
use Rattle.std.proofs.lemmas.List.{drop-append-le}
use Rattle.p2p_wire.proofs.BufferLemmas.{line_grows}
use Rattle.p2p_wire.proofs.buffer.Buffer.append.Goals as goal

pub invariant_of-self-2 : goal.invariant_of-self-2
invariant_of-self-2 c =
    let grown = c.in_ok-extend_from_slice.ensures.items in
    let old = c.self.inside.bytes.items in
    let len : length old ≡ vec_len c.self.inside.bytes = sym c.self.inside.bytes.ok.0 in
    let more = line_grows (drop c.self.inside.start old) c.args.piece.now in
    let longer = c.in_ok-extend_from_slice.ensures.len in
    let cut = drop-append-le c.self.inside.start old c.args.piece.now (omega (arith, len, c.self.invariant.0)) in (
      omega (arith, longer, c.self.invariant.0),
      rw (grown, cut) (omega (arith, more, c.self.invariant.1)),
    )
