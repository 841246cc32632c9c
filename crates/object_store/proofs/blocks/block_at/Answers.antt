-- What the proof of `blocks::block_at` needs beside the tactics.
use Rattle.std.proofs.Common.{sym, ap, ◌∙◌, arith}
use Rattle.object_store.proofs.BlockLemmas.{last_block, no_block, whole_block}
use Rattle.object_store.proofs.blocks.block_at.Goals as goal

pub returns-then-number-full : goal.returns-then-number-full
returns-then-number-full c =
    c.deref.ensures.value ∙ ap (λ b. b.items) c.index-full-number.is ∙ sym (whole_block c.args.full.now c.args.last.now c.args.number c.index-full-number.result c.requires.whole c.if-number-full.true)

pub returns-then-number-full-2 : goal.returns-then-number-full-2
returns-then-number-full-2 c = sym (last_block c.args.full.now c.args.last.now c.args.number c.requires c.if-number-full-2.true)

pub returns : goal.returns
returns c = sym (no_block c.args.full.now c.args.last.now c.args.number c.requires (omega (arith, c.if-number-full.false, c.if-number-full-2.false)))
