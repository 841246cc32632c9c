-- What the proof of `parts::split_file` needs beside the tactics.
use Rattle.std.proofs.Common.{sym, rules}
use Rattle.branch_bundle.proofs.PartLemmas.{length_none, found_parts, no_number, no_count, no_path, no_empty, no_room}
use Rattle.branch_bundle.proofs.parts.split_file.Goals as goal

pub returns-in_default-cut_at : goal.returns-in_default-cut_at
returns-in_default-cut_at c = no_number c.args.text.now c.in-Some.numbered.now c.in-Some.ensures c.in_default-cut_at.ensures

pub returns-in_default-parse_decimal : goal.returns-in_default-parse_decimal
returns-in_default-parse_decimal c = no_count c.args.text.now c.in-Some.numbered.now c.in-Some-cut_at.number.now c.in-Some-cut_at.rest.now c.in-Some.ensures c.in-Some-cut_at.ensures (sym c.in_default-parse_decimal.ensures) (search rules)

pub returns-in_default-cut_at-2 : goal.returns-in_default-cut_at-2
returns-in_default-cut_at-2 c = no_path c.args.text.now c.in-Some.numbered.now c.in-Some-cut_at.number.now c.in-Some-cut_at.rest.now c.in-Some.ensures c.in-Some-cut_at.ensures c.in_default-cut_at-2.ensures

pub returns-then-is_empty : goal.returns-then-is_empty
returns-then-is_empty c =
    no_empty c.args.text.now c.in-Some.numbered.now c.in-Some-cut_at.number.now c.in-Some-cut_at.rest.now c.in-Some-cut_at-2.path.now c.in-Some-cut_at-2.rest.now c.in-Some-parse_decimal.count
    c.in-Some.ensures c.in-Some-cut_at.ensures (sym c.in-Some-parse_decimal.ensures) c.in-Some-cut_at-2.ensures (length_none c.in-Some-cut_at-2.path.now c.if-is_empty.ensures)

pub returns-then-count-rest : goal.returns-then-count-rest
returns-then-count-rest c =
    no_room c.args.text.now c.in-Some.numbered.now c.in-Some-cut_at.number.now c.in-Some-cut_at.rest.now c.in-Some-cut_at-2.path.now c.in-Some-cut_at-2.rest.now c.in-Some-parse_decimal.count
    c.in-Some.ensures c.in-Some-cut_at.ensures (sym c.in-Some-parse_decimal.ensures) c.in-Some-cut_at-2.ensures c.if-count-rest.true

pub returns : goal.returns
returns c =
    found_parts c.args.text.now c.in-Some.numbered.now c.in-Some-cut_at.number.now c.in-Some-cut_at.rest.now c.in-Some-cut_at-2.path.now c.in-Some-cut_at-2.rest.now c.split_at.result.0.now c.split_at.result.1.now c.in-Some-parse_decimal.count
    c.in-Some.ensures c.in-Some-cut_at.ensures (sym c.in-Some-parse_decimal.ensures) c.in-Some-cut_at-2.ensures c.if-count-rest.false c.if-is_empty.ensures c.split_at.ensures.front c.split_at.ensures.back
