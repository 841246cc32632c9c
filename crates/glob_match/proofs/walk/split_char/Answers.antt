-- What the proof of `walk::split_char` needs beside the tactics.
use Rattle.std.proofs.Common.{◌≡◌, ◌++◌, sym, ap}
use Rattle.std.specs.Char.{encode_utf8}
use Rattle.std.specs.Str.Iter.{chars_rest}
use Rattle.std.proofs.lemmas.Str.{chars_past_char}
use Rattle.glob_match.specs.Walk.{char_at}
use Rattle.glob_match.proofs.walk.split_char.Goals as goal

pub returns : goal.returns
returns c =
    let step : chars_rest c.chars-rest.result ≡ encode_utf8 c.in_ok-first.first ++ chars_rest c.next.new.self = c.in_ok-first.ensures.steps.0 in
    let cut : c.args.text.now ≡ encode_utf8 c.in_ok-first.first ++ c.as_str.result.now = cc (c.chars-rest.ensures.rest, c.as_str.ensures) in
    sym (ap char_at (chars_past_char c.args.text.now c.as_str.result.now c.in_ok-first.first c.utf8.text cut))
