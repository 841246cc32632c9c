-- What the proof of `reading::name_front` needs beside the tactics.
use Rattle.std.proofs.Common.{◌≤◌, ◌≡◌, length, not, arith}
use Rattle.std.specs.List.{position_or_len}
use Rattle.std.specs.Str.Lossy.{utf8_valid_len}
use Rattle.std.proofs.lemmas.List.Sums.{prefix_len-le-length}
use Rattle.std.proofs.lemmas.Str.{utf8_valid_len-IsUtf8}
use Rattle.annex_base.specs.Lines.{is_newline}
use Rattle.annex_key.proofs.reading.name_front.Goals as goal

pub returns-in-Ok : goal.returns-in-Ok
returns-in-Ok c =
    let whole : utf8_valid_len c.args.name.now ≡ length c.args.name.now = utf8_valid_len-IsUtf8 c.args.name.now c.in-Ok.ensures.cases.1 in
    let within : position_or_len is_newline c.args.name.now ≤ length c.args.name.now = prefix_len-le-length (λ b. not (is_newline b)) c.args.name.now in
    omega (arith, c.line_len-line.ensures)
