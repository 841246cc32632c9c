-- What the proof of `word::name_and_value` needs beside the tactics.
use Rattle.wanted_expr.proofs.CutLemmas.{within, name_is, with_value}
use Rattle.wanted_expr.proofs.word.name_and_value.Goals as goal

pub split_at-requires : goal.split_at-requires
split_at-requires c = within c.args.text.now c.name_len-end.result c.name_len-end.ensures

pub returns-in-None-clause-name : goal.returns-in-None-clause-name
returns-in-None-clause-name c = name_is c.args.text.now c.split_at.result.0.now c.name_len-end.result c.name_len-end.ensures c.split_at.ensures.front

pub returns-in-Some-clause-name : goal.returns-in-Some-clause-name
returns-in-Some-clause-name c = name_is c.args.text.now c.split_at.result.0.now c.name_len-end.result c.name_len-end.ensures c.split_at.ensures.front

pub returns-in-Some-clause-value : goal.returns-in-Some-clause-value
returns-in-Some-clause-value c = with_value c.args.text.now c.split_at.result.0.now c.split_at.result.1.now c.in-Some.value.now c.in-Some.field-0-0.now c.name_len-end.result c.name_len-end.ensures c.split_at.ensures.front c.split_at.ensures.back c.in-Some.ensures.cases.0
