-- What the proof of `blocks::Blocks::read` needs beside the tactics.
use Rattle.std.proofs.Common.{◌≡◌, ◌+◌, ◌-◌, ◌%◌, ◌≤◌, length, take, drop, ap, ◌∙◌, arith, length-drop, length-take}
use Rattle.std.proofs.lemmas.List.{take-take}
use Rattle.object_store.proofs.BlockLemmas.{read_more}
use Rattle.object_store.proofs.blocks.Blocks.read.Goals as goal

pub loop-filled-preserved : goal.loop-filled-preserved
loop-filled-preserved c =
    let f = c.loop-filled.filled in
    let k = c.min-count.result in
    let most = c.min-most.result in
    let bytes = c.args.self.now in
    let within : f + k ≤ most = omega (arith, c.min-count.ensures, c.loop-filled-test.true) in
    let fits : f + k ≤ length (drop c.args.at bytes) = omega (arith, within, c.min-most.ensures, c.saturating_sub.ensures, c.len.ensures.value, length-drop c.args.at bytes) in
    let left = 32768 - (c.args.at + f) % 32768 in
    let short : k ≤ left = omega (arith, c.min-count.ensures, ap length c.rest_at-rest.ensures.value, length-take left (drop (c.args.at + f) bytes)) in
    let front : c.split_at.result.0.now ≡ take k (drop (c.args.at + f) bytes) =
    c.split_at.ensures.front ∙ ap (take k) c.rest_at-rest.ensures.value ∙ take-take k left (drop (c.args.at + f) bytes) short in
    record {
      within = within;
      room = read_more bytes c.args.room.now c.loop-filled.room c.copy_from_slice.new.self c.args.at f k (f + k - f) c.loop-filled.invariant.room fits (omega (arith, c.loop-filled.invariant.within, c.min-most.ensures)) (omega arith) (c.copy_from_slice.ensures.after ∙ front);
    }
