-- What the proof of `place::is_before_filled` needs beside the tactics.
use Rattle.std.proofs.Common.{◌≡◌, ◌∙◌, ◌++◌, List, ℕ, [], ap, sym, arith, length, not, ◌<◌}
use Rattle.std.specs.declared.cmp.Ordering.{Ordering}
use Rattle.std.specs.declared.cmp.Ordering.TheVariants.{Less, Equal, Greater}
use Rattle.std.specs.Ordering.{is_lt, ordering_then}
use Rattle.std.proofs.lemmas.List.{nil_from_length}
use Rattle.annex_base.specs.ByteOrder.{text_cmp}
use Rattle.branch_bundle.specs.Parts.{fill}
use Rattle.branch_bundle.proofs.FillLemmas.{filled_parts, filled_more, rejoined, some_more, no_more}
use Rattle.branch_bundle.proofs.place.is_before_filled.Goals as goal
use Rattle.branch_bundle.proofs.place.is_before_filled.Goals.{After-cmp}

parts : (c : After-cmp) (o : Ordering) → o ≡ text_cmp c.split_at.result.0.now c.split_at-2.result.0.now → is_lt (text_cmp c.args.text.now (c.args.front.now ++ fill c.args.count)) ≡ is_lt (ordering_then o (text_cmp c.split_at.result.1.now (c.split_at-2.result.1.now ++ fill c.args.count)))
parts c o is =
    filled_parts c.args.text.now c.args.front.now c.split_at.result.0.now c.split_at.result.1.now c.split_at-2.result.0.now c.split_at-2.result.1.now c.args.count o
    (rejoined c.min-common.result c.args.text.now c.split_at.result.0.now c.split_at.result.1.now c.split_at.ensures.front c.split_at.ensures.back)
    (rejoined c.min-common.result c.args.front.now c.split_at-2.result.0.now c.split_at-2.result.1.now c.split_at-2.ensures.front c.split_at-2.ensures.back)
    (c.split_at.ensures.front_len ∙ sym c.split_at-2.ensures.front_len) is

pub returns-in-Less : goal.returns-in-Less
returns-in-Less c = sym (parts (goal.at.returns-in-Less c).After-cmp Less c.in-Less.ensures)

pub returns-in-Greater : goal.returns-in-Greater
returns-in-Greater c = sym (parts (goal.at.returns-in-Greater c).After-cmp Greater c.in-Greater.ensures)

pub returns-then-not-is_empty : goal.returns-then-not-is_empty
returns-then-not-is_empty c =
    let some : 0 < length c.split_at-2.result.1.now = some_more c.split_at-2.result.1.now c.if-not-is_empty.ensures in
    let none : c.split_at.result.1.now ≡ [] = nil_from_length c.split_at.result.1.now (omega (arith, some, c.min-common.ensures, c.split_at.ensures.back_len, c.split_at-2.ensures.back_len)) in
    ap not c.if-not-is_empty.true ∙ sym (filled_more c.split_at.result.1.now c.split_at-2.result.1.now c.args.count none some)
    ∙ sym (parts (goal.at.returns-then-not-is_empty c).After-cmp Equal c.in-Equal.ensures)

pub returns-else-not-is_empty : goal.returns-else-not-is_empty
returns-else-not-is_empty c =
    c.is_before_fill.ensures
    ∙ ap (λ (w : List ℕ). is_lt (text_cmp c.split_at.result.1.now (w ++ fill c.args.count))) (sym (no_more c.split_at-2.result.1.now c.if-not-is_empty.ensures))
    ∙ sym (parts (goal.at.returns-else-not-is_empty c).After-cmp Equal c.in-Equal.ensures)
