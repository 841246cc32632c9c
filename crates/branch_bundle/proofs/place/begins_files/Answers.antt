-- What the proof of `place::begins_files` needs beside the tactics.
use Rattle.std.proofs.Common.{◌∙◌, refl, ap, sym, arith, length}
use Rattle.std.proofs.lemmas.Bool.{true≢false}
use Rattle.branch_bundle.proofs.FillLemmas.{no_more, some_more}
use Rattle.branch_bundle.proofs.BeginLemmas.{files_more-found, files_more-told}
use Rattle.branch_bundle.proofs.TestLemmas.{files_bad_test, files_none_test, files_file_test}
use Rattle.branch_bundle.proofs.place.begins_files.Goals as goal

pub returns-then-not-may_follow : goal.returns-then-not-may_follow
returns-then-not-may_follow c =
    files_bad_test c.loop-file.before.now c.loop-file.rest.now c.in-Some.file.path.now c.in-Some.file.lines.now c.in-Some.file.rest.now c.args.text.now _ c.in-Some.ensures.0 c.in-Some.ensures.1
    (λ may. true≢false (sym (c.may_follow.ensures.1 may) ∙ c.if-not-may_follow.true)) c.loop-file.invariant.told refl

pub loop-file-preserved : goal.loop-file-preserved
loop-file-preserved c = record {
  found = λ begins. c.loop-file.invariant.found (files_more-found c.loop-file.before.now c.loop-file.rest.now c.in-Some.file.path.now c.in-Some.file.lines.now c.in-Some.file.rest.now c.in-Some.ensures.0 c.in-Some.ensures.1 (c.may_follow.ensures.0 c.if-not-may_follow.false) begins);
  told = λ begins. (files_more-told c.loop-file.before.now c.loop-file.rest.now c.in-Some.file.path.now c.in-Some.file.lines.now c.in-Some.file.rest.now c.in-Some.ensures.0 c.in-Some.ensures.1 (c.loop-file.invariant.told begins)).1;
}

pub returns-then-is_empty : goal.returns-then-is_empty
returns-then-is_empty c = files_none_test c.loop-file.before.now c.loop-file.rest.now c.args.text.now c.is_empty.result (no_more c.loop-file.rest.now c.if-is_empty.ensures) c.loop-file.invariant.found c.if-is_empty.true

pub returns-else-is_empty : goal.returns-else-is_empty
returns-else-is_empty c =
    files_file_test c.loop-file.before.now c.loop-file.rest.now c.args.text.now c.begins_file.result c.in_default.ensures
    (λ none. omega (arith, some_more c.loop-file.rest.now c.if-is_empty.ensures, ap length none)) c.loop-file.invariant.found c.loop-file.invariant.told c.begins_file.ensures
