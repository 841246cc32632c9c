-- What the proof of `place::begins_file` needs beside the tactics.
use Rattle.std.proofs.Common.{rules}
use Rattle.branch_bundle.proofs.FillLemmas.{Each-from_reads}
use Rattle.branch_bundle.proofs.TestLemmas.{file_word_test, file_number_test}
use Rattle.branch_bundle.proofs.place.begins_file.Goals as goal

pub returns-in-Some : goal.returns-in-Some
returns-in-Some c = file_number_test c.args.before.now c.args.text.now c.in-Some.rest.now c.begins_number.result c.in-Some.ensures c.begins_number.ensures

pub returns-in-None : goal.returns-in-None
returns-in-None c =
    file_word_test c.args.before.now c.args.text.now c.is_some.result c.strip-in-None.result (Each-from_reads c.args.before.now (λ i. search rules)) c.in-None.ensures c.strip-in-None.ensures c.is_some.ensures
