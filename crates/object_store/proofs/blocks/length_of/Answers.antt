-- What the proof of `blocks::length_of` needs beside the tactics.
use Rattle.std.proofs.Common.{arith}
use Rattle.object_store.proofs.BlockLemmas.{length-blocks}
use Rattle.object_store.proofs.blocks.length_of.Goals as goal

pub overflow_mul-result : goal.overflow_mul-result
overflow_mul-result c = omega (arith, c.requires.small, length-blocks c.args.full.now c.args.last.now c.requires)

pub overflow_add-result : goal.overflow_add-result
overflow_add-result c = omega (arith, c.requires.small, length-blocks c.args.full.now c.args.last.now c.requires)

pub returns : goal.returns
returns c = length-blocks c.args.full.now c.args.last.now c.requires
