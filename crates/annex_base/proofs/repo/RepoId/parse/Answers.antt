-- What the proof of `repo::RepoId::parse` needs beside the tactics.
use Rattle.std.proofs.Common.{◌≡◌, true≢false, Ok, ap, sym, ◌∙◌}
use Rattle.std.proofs.lemmas.Str.{IsUtf8-from_ascii}
use Rattle.std.proofs.lemmas.Slice.Eq.{slice_eq-Decides}
use Rattle.std.proofs.lemmas.Bool.Decides.{Decides-eqb}
use Rattle.annex_base.specs.RepoText.{repo_text}
use Rattle.annex_base.proofs.RepoLemmas.{parsed-repo_text, parsed_id, repo_text-ascii, one_id, repo_again, repo_none}
use Rattle.annex_base.proofs.repo.RepoId.parse.Goals as goal

pub returns-in_default-clause-only : goal.returns-in_default-clause-only
returns-in_default-clause-only c = λ id is spelled.
    absurd (c.in_default.ensures.cases.0 (rw spelled (IsUtf8-from_ascii _ (repo_text-ascii id))))

pub returns-in_default-clause-exact : goal.returns-in_default-clause-exact
returns-in_default-clause-exact c = sym (repo_none c.args.text.now (λ id is spelled. c.in_default.ensures.cases.0 (rw spelled (IsUtf8-from_ascii _ (repo_text-ascii id)))))

pub returns-in_default-parse_str-clause-only : goal.returns-in_default-parse_str-clause-only
returns-in_default-parse_str-clause-only c = λ id is spelled.
    absurd (true≢false (sym (c.in_default-parse_str.ensures.ok.1 (id, rw (c.in-Ok.ensures.cases.0, spelled) (sym (parsed-repo_text id is))))))

pub returns-in_default-parse_str-clause-exact : goal.returns-in_default-parse_str-clause-exact
returns-in_default-parse_str-clause-exact c =
    sym (repo_none c.args.text.now (λ id is spelled. true≢false (sym (c.in_default-parse_str.ensures.ok.1 (id, rw (c.in-Ok.ensures.cases.0, spelled) (sym (parsed-repo_text id is)))))))

pub invariant_of-result : goal.invariant_of-result
invariant_of-result c =
    let same = (slice_eq-Decides Decides-eqb _ _ _ c.eq.ensures).0 c.if-eq.true in
    parsed_id _ _ _ (sym same ∙ c.as_slice.ensures ∙ c.text_of.ensures) c.in-Ok.ensures.cases.0 c.into_bytes-bytes.ensures c.in-Ok-parse_str.ensures.bytes

pub returns-then-eq-clause-found : goal.returns-then-eq-clause-found
returns-then-eq-clause-found c =
    let same = (slice_eq-Decides Decides-eqb _ _ _ c.eq.ensures).0 c.if-eq.true in
    let spelled = sym same ∙ c.as_slice.ensures ∙ c.text_of.ensures in
    (parsed_id _ _ _ spelled c.in-Ok.ensures.cases.0 c.into_bytes-bytes.ensures c.in-Ok-parse_str.ensures.bytes, spelled)

pub returns-then-eq-clause-only : goal.returns-then-eq-clause-only
returns-then-eq-clause-only c = λ id is spelled.
    ap Ok (c.into_bytes-bytes.ensures ∙ one_id _ _ id is spelled c.in-Ok.ensures.cases.0 c.in-Ok-parse_str.ensures.bytes)

pub returns-then-eq-clause-exact : goal.returns-then-eq-clause-exact
returns-then-eq-clause-exact c =
    let same = (slice_eq-Decides Decides-eqb _ _ _ c.eq.ensures).0 c.if-eq.true in
    let spelled = sym same ∙ c.as_slice.ensures ∙ c.text_of.ensures in
    let is = parsed_id _ _ _ spelled c.in-Ok.ensures.cases.0 c.into_bytes-bytes.ensures c.in-Ok-parse_str.ensures.bytes in
    sym (repo_again c.args.text.now c.into_bytes-bytes.result is spelled)

pub returns-else-eq-clause-only : goal.returns-else-eq-clause-only
returns-else-eq-clause-only c = λ id is spelled.
    let found : c.into_bytes-bytes.result ≡ id = c.into_bytes-bytes.ensures ∙ one_id _ _ id is spelled c.in-Ok.ensures.cases.0 c.in-Ok-parse_str.ensures.bytes in
    let same = (slice_eq-Decides Decides-eqb _ _ _ c.eq.ensures).1 (c.as_slice.ensures ∙ c.text_of.ensures ∙ ap repo_text found ∙ sym spelled) in
    absurd (true≢false (sym same ∙ c.if-eq.false))

pub returns-else-eq-clause-exact : goal.returns-else-eq-clause-exact
returns-else-eq-clause-exact c =
    sym (repo_none c.args.text.now (λ id is spelled.
    let found : c.into_bytes-bytes.result ≡ id = c.into_bytes-bytes.ensures ∙ one_id _ _ id is spelled c.in-Ok.ensures.cases.0 c.in-Ok-parse_str.ensures.bytes in
    let same = (slice_eq-Decides Decides-eqb _ _ _ c.eq.ensures).1 (c.as_slice.ensures ∙ c.text_of.ensures ∙ ap repo_text found ∙ sym spelled) in
    true≢false (sym same ∙ c.if-eq.false)))
