-- What the proof of `word::copies` needs beside the tactics.
use Rattle.std.proofs.Common.{◌∙◌, sym}
use Rattle.wanted_expr.proofs.CopiesLemmas.{copies_cut}
use Rattle.wanted_expr.proofs.word.copies.Goals as goal

pub returns-in-Some-split_first : goal.returns-in-Some-split_first
returns-in-Some-split_first c =
    copies_cut c.args.value.now c.split_at.result.0.now c.in-Some-split_first.digits.now c.in-Some-split_first.field-0-0.now c.in-Some.colon c.kind_and_count.result
    c.split_at.ensures.front (sym c.split_at.ensures.back ∙ c.in-Some-split_first.ensures.cases.0) c.in-Some.ensures.1 c.in-Some.ensures.2 c.kind_and_count.ensures
