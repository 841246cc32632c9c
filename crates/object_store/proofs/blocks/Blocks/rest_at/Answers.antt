-- What the proof of `blocks::Blocks::rest_at` needs beside the tactics.
use Rattle.std.proofs.Common.{◌%◌, length, drop, ap, ◌∙◌, arith}
use Rattle.object_store.proofs.BlockLemmas.{rest_of_block, within_block}
use Rattle.object_store.proofs.blocks.Blocks.rest_at.Goals as goal

pub split_at-requires : goal.split_at-requires
split_at-requires c = omega (arith, ap length c.block-block.ensures, within_block c.args.self.now c.args.place c.requires)

pub returns-clause-some : goal.returns-clause-some
returns-clause-some c = omega (arith, c.split_at.ensures.back_len, ap length c.block-block.ensures, within_block c.args.self.now c.args.place c.requires)

pub returns-clause-value : goal.returns-clause-value
returns-clause-value c =
    c.split_at.ensures.back ∙ ap (drop (c.args.place % 32768)) c.block-block.ensures ∙ rest_of_block c.args.self.now c.args.place
