-- What the proof of `word::read_word` needs beside the tactics.
use Rattle.std.proofs.Common.{◌≡◌, ◌++◌, sym, ◌∙◌}
use Rattle.std.specs.Prelude.{codes}
use Rattle.wanted_expr.proofs.ReadWordLemmas.{found_alone, found_valued, bare_with_value}
use Rattle.wanted_expr.proofs.word.read_word.Goals as goal

pub returns-then-is_bare : goal.returns-then-is_bare
returns-then-is_bare c =
    let spelled : c.args.text.now ≡ c.name_and_value.result.0.now ++ codes "=" ++ c.in-Some.value.now = rw c.in-Some.is at c.name_and_value.ensures.value in
    bare_with_value c.args.text.now c.name_and_value.result.0.now c.in-Some.value.now c.name_and_value.ensures.name spelled (sym c.is_bare.ensures ∙ c.if-is_bare.true)

pub returns-in-None : goal.returns-in-None
returns-in-None c =
    let alone : c.args.text.now ≡ c.name_and_value.result.0.now = rw c.in-None.is at c.name_and_value.ensures.value in
    found_alone c.args.text.now c.name_and_value.result.0.now c.word_alone.result c.name_and_value.ensures.name alone c.word_alone.ensures

pub returns-else-is_bare : goal.returns-else-is_bare
returns-else-is_bare c =
    let spelled : c.args.text.now ≡ c.name_and_value.result.0.now ++ codes "=" ++ c.in-Some.value.now = rw c.in-Some.is at c.name_and_value.ensures.value in
    found_valued c.args.text.now c.name_and_value.result.0.now c.in-Some.value.now c.valued.result c.name_and_value.ensures.name spelled (sym c.is_bare.ensures ∙ c.if-is_bare.false) c.valued.ensures
