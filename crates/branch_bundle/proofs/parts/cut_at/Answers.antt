-- What the proof of `parts::cut_at` needs beside the tactics.
use Rattle.std.proofs.Common.{◌≤◌, ◌≡◌, ◌∙◌, length, sym, ap, subst, take, drop, [], ◌∷◌}
use Rattle.std.proofs.lemmas.List.{nil_from_length}
use Rattle.branch_bundle.specs.Parts.{IsCut}
use Rattle.branch_bundle.proofs.PartLemmas.{len_before, len_before-le, cut_is, none_free}
use Rattle.branch_bundle.proofs.parts.cut_at.Goals as goal

pub split_at-requires : goal.split_at-requires
split_at-requires c = subst (λ n. n ≤ length c.args.text.now) (sym c.len_before-end.ensures) (len_before-le c.args.byte c.args.text.now)

pub returns : goal.returns
returns c =
    let front : take (len_before c.args.byte c.args.text.now) c.args.text.now ≡ c.split_at.result.0.now = sym (c.split_at.ensures.front ∙ ap (λ n. take n c.args.text.now) c.len_before-end.ensures) in
    let back : drop (len_before c.args.byte c.args.text.now) c.args.text.now ≡ c.in-Some.field-0-0.now ∷ c.in-Some.rest.now = sym (c.split_at.ensures.back ∙ ap (λ n. drop n c.args.text.now) c.len_before-end.ensures) ∙ c.in-Some.ensures.cases.0 in
    subst (λ w. IsCut c.args.byte c.args.text.now w c.in-Some.rest.now) front (cut_is c.args.byte c.in-Some.field-0-0.now c.in-Some.rest.now c.args.text.now back)

pub returns-in_default : goal.returns-in_default
returns-in_default c =
    let back : drop (len_before c.args.byte c.args.text.now) c.args.text.now ≡ [] = sym (c.split_at.ensures.back ∙ ap (λ n. drop n c.args.text.now) c.len_before-end.ensures) ∙ nil_from_length c.split_at.result.1.now c.in_default.ensures.cases in
    none_free c.args.byte c.args.text.now back
