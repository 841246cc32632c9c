-- What the proof of `place::begins_number` needs beside the tactics.
use Rattle.std.proofs.Common.{◌∙◌, rules, ap, sym, arith, length}
use Rattle.std.proofs.lemmas.Bool.{true≢false}
use Rattle.branch_bundle.proofs.FillLemmas.{Each-from_reads, no_more, some_more}
use Rattle.branch_bundle.proofs.TestLemmas.{number_none_test, number_free_test, number_cut_test, count_text, number_large_test, number_bad_test}
use Rattle.branch_bundle.proofs.place.begins_number.Goals as goal

pub returns-then-is_empty : goal.returns-then-is_empty
returns-then-is_empty c =
    number_none_test c.args.before.now c.args.text.now c.is_empty.result (Each-from_reads c.args.before.now (λ i. search rules)) (no_more c.args.text.now c.if-is_empty.ensures) c.if-is_empty.true

pub returns-else-is_empty : goal.returns-else-is_empty
returns-else-is_empty c =
    number_free_test c.args.before.now c.args.text.now c.is_number.result (Each-from_reads c.args.before.now (λ i. search rules)) c.in_default.ensures
    (λ none. omega (arith, some_more c.args.text.now c.if-is_empty.ensures, ap length none)) c.is_number.ensures

pub returns-in-Some-parse_decimal : goal.returns-in-Some-parse_decimal
returns-in-Some-parse_decimal c =
    number_cut_test c.args.before.now c.args.text.now c.in-Some.number.now c.in-Some.rest.now c.in-Some-parse_decimal.count c.begins_path.result c.in-Some.ensures
    (count_text c.in-Some.number.now c.in-Some-parse_decimal.count c.in-Some-parse_decimal.ensures) c.begins_path.ensures

pub returns-then-is_number : goal.returns-then-is_number
returns-then-is_number c =
    number_large_test c.args.before.now c.args.text.now c.in-Some.number.now c.in-Some.rest.now c.begins_path-then-is_number.result (Each-from_reads c.args.before.now (λ i. search rules)) c.in-Some.ensures
    c.in-None.ensures (c.is_number-in-None.ensures.0 c.if-is_number.true) (search rules) c.begins_path-then-is_number.ensures

pub returns-else-is_number : goal.returns-else-is_number
returns-else-is_number c =
    number_bad_test c.args.before.now c.args.text.now c.in-Some.number.now c.in-Some.rest.now c.is_number-in-None.result c.in-Some.ensures
    (λ number. true≢false (sym (c.is_number-in-None.ensures.1 number) ∙ c.if-is_number.false)) c.if-is_number.false
