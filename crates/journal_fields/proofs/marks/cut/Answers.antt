-- What the proof of `marks::cut` needs beside the tactics.
use Rattle.std.proofs.Common.{◌∙◌, not, ◌==◌, sym, ap, take, drop, List, ℕ, Option, Some}
use Rattle.std.proofs.lemmas.List.{nil_from_length}
use Rattle.std.proofs.lemmas.List.Sums.{prefix_len-le-length}
use Rattle.journal_fields.proofs.CutLemmas.{cut_found, cut_nowhere}
use Rattle.journal_fields.proofs.marks.cut.Goals as goal

abbrev parts : List ℕ → List ℕ → Option (List ℕ × List ℕ)
parts front rest = Some (front, rest)

pub split_at-requires : goal.split_at-requires
split_at-requires c = rw c.len_before-end.ensures (prefix_len-le-length (λ b. not (b == c.args.byte)) c.args.bytes.now)

pub returns-clause-parts : goal.returns-clause-parts
returns-clause-parts c =
    let front = c.split_at.ensures.front ∙ ap (λ n. take n c.args.bytes.now) c.len_before-end.ensures in
    let back = sym (c.split_at.ensures.back ∙ ap (λ n. drop n c.args.bytes.now) c.len_before-end.ensures) ∙ c.in-Some.ensures.cases.0 in
    ap (λ (f : List ℕ). parts f c.in-Some.rest.now) front
    ∙ sym (cut_found c.args.byte c.in-Some.field-0-0.now c.in-Some.rest.now c.args.bytes.now back)

pub returns-in_default-clause-parts : goal.returns-in_default-clause-parts
returns-in_default-clause-parts c =
    let back = sym (c.split_at.ensures.back ∙ ap (λ n. drop n c.args.bytes.now) c.len_before-end.ensures) ∙ nil_from_length c.split_at.result.1.now c.in_default.ensures.cases in
    sym (cut_nowhere c.args.byte c.args.bytes.now back)
