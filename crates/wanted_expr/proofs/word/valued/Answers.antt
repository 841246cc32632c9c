-- What the proof of `word::valued` needs beside the tactics.
use Rattle.std.proofs.Common.{◌∙◌, ℕ, sym, refl}
use Rattle.std.specs.Prelude.{codes}
use Rattle.wanted_expr.specs.declared.data.Among.{Among}
use Rattle.wanted_expr.specs.Words.{IsCount, IsSize, IsCopies, IsText, IsGlobText}
use Rattle.wanted_expr.proofs.NameLemmas.{fails, unknown, include_value, exclude_value, copies_value, lacking_value, in_all_value, only_in_value, backend_value, larger_value, smaller_value}
use Rattle.wanted_expr.proofs.word.valued.Goals as goal
use Rattle.wanted_expr.proofs.word.valued.Goals.{then-same-4-via-then-same-4, then-same-4-via-else-same-4+then-same-5}

pub returns-in_err-glob : goal.returns-in_err-glob
returns-in_err-glob c =
    fails (IsGlobText c.args.value.now) c.args.name.now c.args.value.now (codes "include") (sym c.same.ensures ∙ c.if-same.true) refl
    (include_value c.args.name.now c.args.value.now) c.from_residual.result c.in_err-glob.field-0.0 c.from_residual.ensures.1 c.in_err-glob.ensures

pub returns-in_err-glob-2 : goal.returns-in_err-glob-2
returns-in_err-glob-2 c =
    fails (IsGlobText c.args.value.now) c.args.name.now c.args.value.now (codes "exclude") (sym c.same-2.ensures ∙ c.if-same-2.true) refl
    (exclude_value c.args.name.now c.args.value.now) c.from_residual-in_err-glob-2.result c.in_err-glob-2.field-0.0 c.from_residual-in_err-glob-2.ensures.1 c.in_err-glob-2.ensures

pub returns-in_err-kind : goal.returns-in_err-kind
returns-in_err-kind c =
    fails (λ (x : Among × ℕ). IsCopies c.args.value.now x.0 x.1) c.args.name.now c.args.value.now (codes "copies") (sym c.same-3.ensures ∙ c.if-same-3.true) refl
    (copies_value c.args.name.now c.args.value.now) c.from_residual-in_err-kind.result c.in_err-kind.field-0.0 c.from_residual-in_err-kind.ensures.1 c.in_err-kind.ensures

pub returns-in_err-text : goal.returns-in_err-text
returns-in_err-text c =
    fails (IsText c.args.value.now) c.args.name.now c.args.value.now (codes "inallgroup") (sym c.same-5.ensures ∙ c.if-same-6.true) refl
    (in_all_value c.args.name.now c.args.value.now) c.from_residual-in_err-text.result c.in_err-text.field-0.0 c.from_residual-in_err-text.ensures.1 c.in_err-text.ensures

pub returns-in_err-text-2 : goal.returns-in_err-text-2
returns-in_err-text-2 c =
    fails (IsText c.args.value.now) c.args.name.now c.args.value.now (codes "onlyingroup") (sym c.same-6.ensures ∙ c.if-same-7.true) refl
    (only_in_value c.args.name.now c.args.value.now) c.from_residual-in_err-text-2.result c.in_err-text-2.field-0.0 c.from_residual-in_err-text-2.ensures.1 c.in_err-text-2.ensures

pub returns-in_err-text-3 : goal.returns-in_err-text-3
returns-in_err-text-3 c =
    fails (IsText c.args.value.now) c.args.name.now c.args.value.now (codes "inbackend") (sym c.same-7.ensures ∙ c.if-same-8.true) refl
    (backend_value c.args.name.now c.args.value.now) c.from_residual-in_err-text-3.result c.in_err-text-3.field-0.0 c.from_residual-in_err-text-3.ensures.1 c.in_err-text-3.ensures

pub returns-in_err-size_value : goal.returns-in_err-size_value
returns-in_err-size_value c =
    fails (IsSize c.args.value.now) c.args.name.now c.args.value.now (codes "largerthan") (sym c.same-8.ensures ∙ c.if-same-9.true) refl
    (larger_value c.args.name.now c.args.value.now) c.from_residual-in_err-size_value.result c.in_err-size_value.field-0.0 c.from_residual-in_err-size_value.ensures.1 c.in_err-size_value.ensures

pub returns-in_err-size_value-2 : goal.returns-in_err-size_value-2
returns-in_err-size_value-2 c =
    fails (IsSize c.args.value.now) c.args.name.now c.args.value.now (codes "smallerthan") (sym c.same-9.ensures ∙ c.if-same-10.true) refl
    (smaller_value c.args.name.now c.args.value.now) c.from_residual-in_err-size_value-2.result c.in_err-size_value-2.field-0.0 c.from_residual-in_err-size_value-2.ensures.1 c.in_err-size_value-2.ensures

pub returns-in_err-count_value : goal.returns-in_err-count_value
returns-in_err-count_value c = elim c.then-same-4.branch [
  | then-same-4-via-then-same-4 w ↦ fails (IsCount c.args.value.now) c.args.name.now c.args.value.now (codes "lackingcopies") (sym c.same-4.ensures ∙ w.if-same-4.true) refl (lacking_value c.args.name.now c.args.value.now) c.from_residual-in_err-count_value.result c.in_err-count_value.field-0.0 c.from_residual-in_err-count_value.ensures.1 c.in_err-count_value.ensures
  | then-same-4-via-else-same-4+then-same-5 w ↦ fails (IsCount c.args.value.now) c.args.name.now c.args.value.now (codes "approxlackingcopies") (sym w.same-else-same-4.ensures ∙ w.if-same-5.true) refl (lacking_value c.args.name.now c.args.value.now) c.from_residual-in_err-count_value.result c.in_err-count_value.field-0.0 c.from_residual-in_err-count_value.ensures.1 c.in_err-count_value.ensures
]

pub returns : goal.returns
returns c =
    unknown c.args.name.now (sym c.same.ensures ∙ c.if-same.false) (sym c.same-2.ensures ∙ c.if-same-2.false) (sym c.same-3.ensures ∙ c.if-same-3.false)
    (sym c.same-4.ensures ∙ c.if-same-4.false) (sym c.same-else-same-4.ensures ∙ c.if-same-5.false) (sym c.same-5.ensures ∙ c.if-same-6.false)
    (sym c.same-6.ensures ∙ c.if-same-7.false) (sym c.same-7.ensures ∙ c.if-same-8.false) (sym c.same-8.ensures ∙ c.if-same-9.false) (sym c.same-9.ensures ∙ c.if-same-10.false)
