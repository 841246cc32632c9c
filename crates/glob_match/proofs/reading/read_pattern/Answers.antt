-- What the proof of `reading::read_pattern` needs beside the tactics.
use Rattle.std.proofs.Common.{◌≡◌, arith, length, ◌∙◌, ◌-◌, flat_map, sym}
use Rattle.std.proofs.lemmas.Bool.{eqb-true}
use Rattle.std.specs.Str.{encode_utf8_all}
use Rattle.glob_match.specs.Glob.{item_text}
use Rattle.glob_match.proofs.ReadingLemmas.{read_all, read_open, rest_bytes, not_zero}
use Rattle.glob_match.proofs.reading.read_pattern.Goals as goal

pub returns-then-is_empty : goal.returns-then-is_empty
returns-then-is_empty c = read_all c.in_ok-items.items.items c.in_ok-items.rest.now c.args.pattern.now c.in_ok-items.ensures (eqb-true (length c.in_ok-items.rest.now) 0 (sym c.is_empty.ensures ∙ c.if-is_empty.true))

pub byte_len-requires : goal.byte_len-requires
byte_len-requires c = omega (arith, rest_bytes c.in_ok-items.items.items c.in_ok-items.rest.now c.args.pattern.now c.in_ok-items.ensures, c.requires, c.ranges.total)

pub overflow_sub-result : goal.overflow_sub-result
overflow_sub-result c = omega (arith, rest_bytes c.in_ok-items.items.items c.in_ok-items.rest.now c.args.pattern.now c.in_ok-items.ensures, c.requires, c.byte_len.ensures)

pub returns : goal.returns
returns c =
    let place : c.args.total - c.byte_len.result ≡ length (encode_utf8_all (flat_map item_text c.in_ok-items.items.items)) =
    omega (arith, rest_bytes c.in_ok-items.items.items c.in_ok-items.rest.now c.args.pattern.now c.in_ok-items.ensures, c.requires, c.byte_len.ensures) in
    read_open c.in_ok-items.items.items c.in_ok-items.rest.now c.args.pattern.now (c.args.total - c.byte_len.result) c.in_ok-items.ensures (not_zero (length c.in_ok-items.rest.now) (sym c.is_empty.ensures ∙ c.if-is_empty.false)) place
