-- What the proof of `filling::fill_piece` needs beside the tactics.
use Rattle.std.proofs.Common.{length, ap, ◌∙◌}
use Rattle.std.specs.Prelude.{min}
use Rattle.script_words.proofs.FillLemmas.{piece_fill, length-fill_bytes}
use Rattle.script_words.proofs.filling.fill_piece.Goals as goal

pub returns-clause-count : goal.returns-clause-count
returns-clause-count c =
    rw (piece_fill c.args.size c.args.start c.args.at (length c.args.room.now), length-fill_bytes)
    (c.min-count.ensures ∙ ap (λ n. min n (length c.args.room.now)) c.saturating_sub-left.ensures)

pub returns-clause-front : goal.returns-clause-front
returns-clause-front c =
    let count = c.min-count.ensures ∙ ap (λ n. min n (length c.args.room.now)) c.saturating_sub-left.ensures in
    rw (piece_fill c.args.size c.args.start c.args.at (length c.args.room.now), ← count) c.write_filling.ensures
