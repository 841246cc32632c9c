-- What the proof of `decimal::parse_decimal` needs beside the tactics.
use Rattle.std.proofs.Common.{◌<◌, ◌≤◌, ◌⊎◌, inl, inr, length, get_or, sym, ◌∙◌}
use Rattle.annex_base.proofs.DecimalLemmas.{number_of-sign, number_of-text, number_of-parsed}
use Rattle.annex_base.proofs.decimal.parse_decimal.Goals as goal
use Rattle.annex_base.proofs.decimal.parse_decimal.Goals.{then-word-gt1+else-word-le48, else-word-gt1}

pub returns-then-word-le48 : goal.returns-then-word-le48
returns-then-word-le48 c = sym (number_of-sign c.args.word.now c.if-word-gt1.true c.if-word-le48.true)

pub returns-in_default : goal.returns-in_default
returns-in_default c = sym (number_of-text c.args.word.now c.in_default.ensures.cases.0)

pub returns : goal.returns
returns c =
    let front : (length c.args.word.now ≤ 1) ⊎ (48 < get_or c.args.word.now 0 0) = elim c.if-word-gt1.branch [
      | then-word-gt1+else-word-le48 w ↦ inr w.if-word-le48.false
      | else-word-gt1 w ↦ inl w.if-word-gt1.false
    ] in
    let text = c.in-Ok.ensures.cases.0 in
    c.ok.ensures.value ∙ number_of-parsed c.args.word.now c.parse.result (rw text at c.parse.ensures.value.0) front
