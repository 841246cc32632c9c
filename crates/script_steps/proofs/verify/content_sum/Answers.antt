-- What the proof of `verify::content_sum` needs beside the tactics.
use Rattle.std.proofs.Common.{◌≡◌, ◌∙◌, ◌+◌, ◌≤◌, ◌++◌, length, take, sym, ap, subst, arith}
use Rattle.key_verify.specs.Sums.{HasTaken}
use Rattle.script_words.specs.Contents.{piece}
use Rattle.script_steps.proofs.PieceLemmas.{piece_joins, front_is, piece_within, piece_short, length-with_front}
use Rattle.script_steps.proofs.verify.content_sum.Goals as goal

pub loop-at-preserved : goal.loop-at-preserved
loop-at-preserved c =
    let at = c.loop-at.at in
    let content = c.args.content.now in
    let room = c.loop-at.room in
    let next = piece content at (length room) in
    let is : c.piece-count.result ≡ length next = c.piece-count.ensures.count in
    let front : c.split_at.result.0.now ≡ next = c.split_at.ensures.front ∙ ap (take c.piece-count.result) c.piece-count.ensures.front ∙ front_is next room c.piece-count.result is in
    let joins : take at content ++ c.split_at.result.0.now ≡ take (at + c.piece-count.result) content =
    ap (λ p. take at content ++ p) front ∙ piece_joins content at (length room) c.piece-count.result c.loop-at.invariant.within is in
    record {
      within = omega (arith, is, piece_within at (length room) content c.loop-at.invariant.within);
      small = c.loop-at.invariant.small;
      room = ap length c.piece-count.ensures.front ∙ length-with_front next room (piece_short content at (length room)) ∙ c.loop-at.invariant.room;
      count = omega (arith, c.update.ensures.count, c.loop-at.invariant.count, ap length front, is);
      taken = λ key fresh. subst (λ bytes. HasTaken c.update.new.self key bytes) joins (c.update.ensures.taken key (take at content) (c.loop-at.invariant.taken key fresh));
    }
