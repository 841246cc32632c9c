-- What the proof of `reading::read` needs beside the tactics.
use Rattle.std.proofs.Common.{◌≡◌, ◌∙◌, ap, length, List, ℕ}
use Rattle.std.specs.Str.{chars, encode_utf8_all}
use Rattle.std.proofs.lemmas.Str.{encodes-chars}
use Rattle.glob_match.proofs.reading.read.Goals as goal

pub read_pattern-requires : goal.read_pattern-requires
read_pattern-requires c =
    let whole : length (encode_utf8_all (chars c.args.text.now)) ≡ length c.args.text.now = ap length (encodes-chars c.args.text.now c.utf8.text) in
    ap (λ (w : List ℕ). length (encode_utf8_all w)) (c.deref.ensures.value ∙ c.in_ok-pattern.ensures) ∙ whole
